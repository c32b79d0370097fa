use Rattle.std.proofs.Common.{map, drop}
use Rattle.code_gen.specs.Names as spec
use Rattle.code_gen.proofs.Adds.{Rest}
use Rattle.code_gen.proofs.names.+names.Given as goal

abbrev pub invariant-in_actions-loop-action : goal.invariant-in_actions-loop-action
invariant-in_actions-loop-action l =
    Rest (spec.all (map spec.in_action (drop l.action-index l.actions))) (spec.all (map spec.in_action l.actions)) l.fn.found l.found

abbrev pub invariant-in_actuals-loop-actual : goal.invariant-in_actuals-loop-actual
invariant-in_actuals-loop-actual l =
    Rest (spec.all (map spec.in_actual (drop l.actual-index l.actuals))) (spec.all (map spec.in_actual l.actuals)) l.fn.found l.found

abbrev pub invariant-in_arms-loop-arm : goal.invariant-in_arms-loop-arm
invariant-in_arms-loop-arm l =
    Rest (spec.all (map spec.in_arm (drop l.arm-index l.arms))) (spec.all (map spec.in_arm l.arms)) l.fn.found l.found

abbrev pub invariant-in_value_arms-loop-arm : goal.invariant-in_value_arms-loop-arm
invariant-in_value_arms-loop-arm l =
    Rest (spec.all (map spec.in_value_arm (drop l.arm-index l.arms))) (spec.all (map spec.in_value_arm l.arms)) l.fn.found l.found

abbrev pub invariant-in_values-loop-value : goal.invariant-in_values-loop-value
invariant-in_values-loop-value l =
    Rest (spec.all (map spec.in_value (drop l.value-index l.values))) (spec.all (map spec.in_value l.values)) l.fn.found l.found
