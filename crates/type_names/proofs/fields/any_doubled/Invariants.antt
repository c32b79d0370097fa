use Rattle.std.proofs.Common.{◌≡◌, length}
use Rattle.type_names.specs.Types.{any_doubled}
use Rattle.type_names.specs.walks.Judged.{texts}
use Rattle.type_names.proofs.fields.any_doubled.Given as goal

abbrev pub invariant-loop-rest : goal.invariant-loop-rest
invariant-loop-rest l = any_doubled (texts l.rest) ≡ any_doubled (texts l.fields)

abbrev pub decreases-loop-rest : goal.decreases-loop-rest
decreases-loop-rest l = length l.rest
