use Rattle.std.proofs.Common.{◌≡◌, map, drop}
use Rattle.elan_scope.specs.declared.scope.Scope.{Scope}
use Rattle.elan_judge.specs.Shape.{unit, all_empty}
use Rattle.elan_judge.proofs.role.all_empty.Given as goal

abbrev pub invariant-loop-unit : goal.invariant-loop-unit
invariant-loop-unit l = (s : Scope) → all_empty (map (unit s) (drop l.unit-index l.units)) ≡ all_empty (map (unit s) l.units)
