use Rattle.std.proofs.Common.{◌≡◌, ◌++◌, drop}
use Rattle.code_gen.specs.walks.Marks.{left_from}
use Rattle.code_gen.proofs.cores.all_left.Given as goal

abbrev pub invariant-loop-number : goal.invariant-loop-number
invariant-loop-number l = l.made ++ left_from l.number l.marks (drop l.number l.bodies) ≡ left_from 0 l.marks l.bodies
