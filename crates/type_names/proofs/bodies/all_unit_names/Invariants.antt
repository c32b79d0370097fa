use Rattle.std.proofs.Common.{◌≡◌, ◌++◌, false, drop}
use Rattle.std.specs.Prelude.{flat_map}
use Rattle.type_names.specs.Bodies.{unit_names}
use Rattle.type_names.specs.walks.LevelSeen.{visible}
use Rattle.type_names.proofs.bodies.all_unit_names.Given as goal

abbrev pub invariant-loop-unit : goal.invariant-loop-unit
invariant-loop-unit l =
    l.out.wanted ≡ false
    → (l.fn.out.wanted ≡ false)
    × (l.out.entries ++ flat_map (unit_names (visible l.fn.out)) (drop l.unit-index l.units) ≡ l.fn.out.entries ++ flat_map (unit_names (visible l.fn.out)) l.units)
    × (l.out.here.now ≡ l.fn.out.here.now)
    × (l.out.around.now ≡ l.fn.out.around.now)
