use Rattle.std.proofs.Common.{◌≡◌, map, take}
use Rattle.elan_types.specs.Types.{formal_of}
use Rattle.elan_types.proofs.elan_type.formals.Given as goal

abbrev pub invariant-loop-parameter : goal.invariant-loop-parameter
invariant-loop-parameter l = l.list ≡ map formal_of (take l.parameter-index l.parameters)
