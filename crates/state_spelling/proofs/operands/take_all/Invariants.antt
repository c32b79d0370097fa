use Rattle.std.proofs.Common.{◌≡◌, ◌≤◌, true, length, Some}
use Rattle.std.specs.Prelude.{drop, reverse}
use Rattle.eu_base.specs.Room.{bytes_fit}
use Rattle.code_form.specs.Machine.{bytes_on, bytes_of}
use Rattle.state_spelling.specs.Revived.{taken}
use Rattle.state_spelling.proofs.operands.take_all.Given as goal

abbrev pub invariant-loop-at : goal.invariant-loop-at
invariant-loop-at l =
    (l.at ≤ length l.kinds) × (taken (drop l.at l.kinds) (bytes_of l.fn.stack.frames) (reverse l.fn.left) ≡ Some (l.stack.ops, reverse l.left))
    × (l.stack.frames ≡ l.fn.stack.frames) × (bytes_fit (bytes_on l.stack.ops (bytes_of l.stack.frames)) ≡ true)

abbrev pub decreases-loop-at : goal.decreases-loop-at
decreases-loop-at l = l.at
