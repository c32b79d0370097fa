use Rattle.std.proofs.Common.{◌≡◌, drop}
use Rattle.std.specs.List.{list_any}
use Rattle.std.specs.Prelude.{◌==◌}
use Rattle.packet_store.proofs.library.is_among.Given as goal

-- among those that are left exactly where among all
abbrev pub invariant-loop-number : goal.invariant-loop-number
invariant-loop-number l = list_any (λ n. n == l.packet) (drop l.number-index l.numbers) ≡ list_any (λ n. n == l.packet) l.numbers
