use Rattle.std.proofs.Common.{◌≡◌, IfOk, List, map}
use Rattle.elan_types.specs.declared.core_phrase.ValueArm.{ValueArm}
use Rattle.elan_meant.specs.Arms.{value_arm}
use Rattle.elan_meant.proofs.arms.value_arms.Given as goal

abbrev pub invariant-loop-arm : goal.invariant-loop-arm
invariant-loop-arm l = IfOk l.list (λ (a : List ValueArm). a ≡ map (value_arm l.of) l.yielded)
