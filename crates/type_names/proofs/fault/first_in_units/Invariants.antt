use Rattle.std.proofs.Common.{◌≡◌, List, drop}
use Rattle.std.specs.Prelude.{flat_map}
use Rattle.elan_walk.specs.declared.definition.Definition.{Definition}
use Rattle.type_names.specs.Faults.{unit_faults, first_fault}
use Rattle.type_names.specs.walks.Seen.{Knows}
use Rattle.type_names.proofs.fault.first_in_units.Given as goal

abbrev pub invariant-loop-unit : goal.invariant-loop-unit
invariant-loop-unit l =
    (ds : List Definition) → Knows ds l.level
    → first_fault (flat_map (unit_faults l.level.around.first l.level.around.names.now ds l.level.refined.now) (drop l.unit-index l.units))
    ≡ first_fault (flat_map (unit_faults l.level.around.first l.level.around.names.now ds l.level.refined.now) l.units)
