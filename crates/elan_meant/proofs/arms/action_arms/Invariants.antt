use Rattle.std.proofs.Common.{◌≡◌, IfOk, List, map}
use Rattle.elan_types.specs.declared.core_phrase.Arm.{Arm}
use Rattle.elan_meant.specs.Arms.{action_arm}
use Rattle.elan_meant.proofs.arms.action_arms.Given as goal

abbrev pub invariant-loop-arm : goal.invariant-loop-arm
invariant-loop-arm l = IfOk l.list (λ (a : List Arm). a ≡ map action_arm l.yielded)
