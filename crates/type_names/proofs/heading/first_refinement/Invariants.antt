use Rattle.std.proofs.Common.{◌≡◌, ◌+◌, drop}
use Rattle.type_names.specs.Bodies.{bodies_of_units}
use Rattle.type_names.proofs.heading.first_refinement.Given as goal

abbrev pub invariant-loop-unit : goal.invariant-loop-unit
invariant-loop-unit l = l.number + bodies_of_units (drop l.unit-index l.units) ≡ bodies_of_units l.units
