use Rattle.std.proofs.Common.{◌≡◌, map, take}
use Rattle.place_gen.specs.Layouts.{parameter_kind}
use Rattle.code_gen.proofs.entries.parameter_kinds.Given as goal

abbrev pub invariant-loop-parameter : goal.invariant-loop-parameter
invariant-loop-parameter l = l.kinds ≡ map parameter_kind (take l.parameter-index l.parameters)
