use Rattle.std.proofs.Common.{◌≡◌, ◌++◌, drop}
use Rattle.type_names.specs.Bodies.{parameters}
use Rattle.type_names.proofs.bodies.parameters.Given as goal

abbrev pub invariant-loop-formal : goal.invariant-loop-formal
invariant-loop-formal l = l.list ++ parameters l.types (drop l.formal-index l.formals) ≡ parameters l.types l.formals
