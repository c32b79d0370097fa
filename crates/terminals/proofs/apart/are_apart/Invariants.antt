use Rattle.std.proofs.Common.{◌≡◌, ℕ, ◌<◌, true, get_or}
use Rattle.terminals.specs.declared.row.ChannelRow.{ChannelRow}
use Rattle.terminals.specs.Rows.{is_apart}
use Rattle.terminals.proofs.apart.are_apart.Given as goal

abbrev pub invariant-loop-place : goal.invariant-loop-place
invariant-loop-place l = (i j : ℕ) (d : ChannelRow) → i < j → j < l.place → is_apart (get_or l.rows i d) (get_or l.rows j d) ≡ true
