use Rattle.std.proofs.Common.{◌≡◌, false, ◌++◌, drop}
use Rattle.std.specs.Prelude.{flat_map}
use Rattle.elan_walk.specs.Definitions.{unit_definitions}
use Rattle.elan_walk.proofs.definition.of_level_units.Given as goal

abbrev pub invariant-loop-unit : goal.invariant-loop-unit
invariant-loop-unit l =
    l.out.wanted ≡ false
    → (l.fn.out.wanted ≡ false)
    × (l.out.list ++ flat_map unit_definitions (drop l.unit-index l.units) ≡ l.fn.out.list ++ flat_map unit_definitions l.units)
