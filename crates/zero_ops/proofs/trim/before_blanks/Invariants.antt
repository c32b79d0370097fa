use Rattle.std.proofs.Common.{◌≡◌, ◌≤◌, length}
use Rattle.std.specs.Prelude.{take, reverse}
use Rattle.eu_base.specs.Texts.{behind_blanks}
use Rattle.zero_ops.proofs.trim.before_blanks.Given as goal

abbrev pub invariant-loop-end : goal.invariant-loop-end
invariant-loop-end l = record { within : l.end ≤ length l.t; same : behind_blanks (reverse (take l.end l.t)) ≡ behind_blanks (reverse l.t) }

abbrev pub decreases-loop-end : goal.decreases-loop-end
decreases-loop-end l = l.end
