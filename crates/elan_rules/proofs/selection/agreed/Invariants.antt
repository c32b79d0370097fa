use Rattle.std.proofs.Common.{◌≡◌, drop, Some}
use Rattle.elan_rules.specs.Choices.{agreed, delivery_in}
use Rattle.elan_rules.proofs.selection.agreed.Given as goal

abbrev pub invariant-loop-arm : goal.invariant-loop-arm
invariant-loop-arm l = agreed l.agreed (drop l.arm-index l.arms) ≡ agreed (Some (delivery_in l.otherwise)) l.arms
