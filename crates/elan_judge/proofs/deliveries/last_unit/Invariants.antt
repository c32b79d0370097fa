use Rattle.std.proofs.Common.{◌≡◌, map, drop}
use Rattle.std.specs.Prelude.{option_map}
use Rattle.elan_scope.specs.declared.delivery.Delivery.{Delivery}
use Rattle.elan_scope.specs.declared.scope.Scope.{Scope}
use Rattle.elan_judge.specs.Shape as shape
use Rattle.elan_judge.specs.Refinements.{last_unit}
use Rattle.elan_judge.proofs.Lasts.{last_behind}
use Rattle.elan_judge.proofs.deliveries.last_unit.Given as goal

abbrev pub invariant-loop-unit : goal.invariant-loop-unit
invariant-loop-unit l =
    (s : Scope) → (d : Delivery) →
    last_behind d (option_map (λ u. shape.role d (shape.written (shape.unit s u.now))) l.last) (map (shape.unit s) (drop l.unit-index l.units))
    ≡ last_unit (shape.units d (map (shape.unit s) l.units))
