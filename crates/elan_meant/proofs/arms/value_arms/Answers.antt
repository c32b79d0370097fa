use Rattle.std.proofs.Common.{◌≡◌, ◌∷◌, [], IfOk, List, map, sym, subst}
use Rattle.std.proofs.lemmas.List.{map-append}
use Rattle.elan_types.specs.declared.core_phrase.ValueArm.{ValueArm}
use Rattle.elan_meant.specs.Arms.{value_arm}
use Rattle.elan_meant.proofs.arms.value_arms.Goals as goal

pub loop-arm-preserved : goal.loop-arm-preserved
loop-arm-preserved c =
    subst (λ (l : List ValueArm). IfOk c.pushed-list.result (λ (x : List ValueArm). x ≡ l))
    (sym (map-append (value_arm c.args.of.now) c.loop-arm.yielded (c.in-Some.arm ∷ [])))
    (c.pushed-list.ensures (map (value_arm c.args.of.now) c.loop-arm.yielded) (value_arm c.args.of.now c.in-Some.arm) c.loop-arm.invariant c.value_arm.ensures)
