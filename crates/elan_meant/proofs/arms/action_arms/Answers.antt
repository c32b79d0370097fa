use Rattle.std.proofs.Common.{◌≡◌, ◌∷◌, [], IfOk, List, map, sym, subst}
use Rattle.std.proofs.lemmas.List.{map-append}
use Rattle.elan_types.specs.declared.core_phrase.Arm.{Arm}
use Rattle.elan_meant.specs.Arms.{action_arm}
use Rattle.elan_meant.proofs.arms.action_arms.Goals as goal

pub loop-arm-preserved : goal.loop-arm-preserved
loop-arm-preserved c =
    subst (λ (l : List Arm). IfOk c.pushed-list.result (λ (x : List Arm). x ≡ l)) (sym (map-append action_arm c.loop-arm.yielded (c.in-Some.arm ∷ [])))
    (c.pushed-list.ensures (map action_arm c.loop-arm.yielded) (action_arm c.in-Some.arm) c.loop-arm.invariant c.action_arm.ensures)
