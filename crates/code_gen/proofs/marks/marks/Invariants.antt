use Rattle.std.proofs.Common.{◌+◌, length}
use Rattle.code_gen.proofs.Walks.{Walks, work}
use Rattle.code_gen.proofs.marks.marks.Given as goal

abbrev pub invariant-loop-number : goal.invariant-loop-number
invariant-loop-number l = Walks l.core l.marks l.pending

abbrev pub decreases-loop-number : goal.decreases-loop-number
decreases-loop-number l = work l.marks l.core.bodies + length l.pending
