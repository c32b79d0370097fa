use Rattle.std.proofs.Common.{◌≡◌, ◌≤◌, ◌-◌, length}
use Rattle.std.specs.Prelude.{drop}
use Rattle.eu_base.specs.Texts.{behind_blanks}
use Rattle.zero_ops.proofs.trim.behind_blanks.Given as goal

abbrev pub invariant-loop-start : goal.invariant-loop-start
invariant-loop-start l = record { within : l.start ≤ length l.t; same : behind_blanks (drop l.start l.t) ≡ behind_blanks l.t }

abbrev pub decreases-loop-start : goal.decreases-loop-start
decreases-loop-start l = length l.t - l.start
