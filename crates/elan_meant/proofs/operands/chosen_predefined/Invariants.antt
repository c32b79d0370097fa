use Rattle.std.proofs.Common.{◌≡◌, length, map}
use Rattle.elan_meant.specs.Below.elan_names.specs.Predefined.{predefined}
use Rattle.elan_scope.specs.Scope.{first, predefined_callable}
use Rattle.elan_meant.specs.Operands.{takes}
use Rattle.elan_meant.proofs.operands.chosen_predefined.Given as goal

abbrev pub invariant-loop-rest : goal.invariant-loop-rest
invariant-loop-rest l =
    first (takes l.sort l.name l.operands) (map predefined_callable (map (λ r. (r.0, r.1.now, r.2)) l.rest))
    ≡ first (takes l.sort l.name l.operands) (map predefined_callable predefined)

abbrev pub decreases-loop-rest : goal.decreases-loop-rest
decreases-loop-rest l = length l.rest
