use Rattle.std.proofs.Common.{◌≡◌, ◌+◌, ◌<◌, ◌^◌, map, drop}
use Rattle.place_gen.specs.Counted.{counted}
use Rattle.place_gen.specs.Stretch.{all_code, value_code, action_code, actual_code, arms_length, value_arm_code, arm_code_of}
use Rattle.place_gen.proofs.count.+count.Given as goal

-- what was counted and what is left is all
abbrev pub invariant-count_values-loop-value : goal.invariant-count_values-loop-value
invariant-count_values-loop-value l = record {
  all : counted (l.count + (all_code (map value_code (drop l.value-index l.values))).size) ≡ counted (all_code (map value_code l.values)).size;
  fits : l.count < 2 ^ 64;
}

abbrev pub invariant-count_actions-loop-action : goal.invariant-count_actions-loop-action
invariant-count_actions-loop-action l = record {
  all : counted (l.count + (all_code (map action_code (drop l.action-index l.actions))).size) ≡ counted (all_code (map action_code l.actions)).size;
  fits : l.count < 2 ^ 64;
}

abbrev pub invariant-count_value_arms-loop-arm : goal.invariant-count_value_arms-loop-arm
invariant-count_value_arms-loop-arm l = record {
  all : counted (l.count + arms_length (map value_arm_code (drop l.arm-index l.arms))) ≡ counted (arms_length (map value_arm_code l.arms) + (1 + l.other));
  fits : l.count < 2 ^ 64;
}

abbrev pub invariant-count_arms-loop-arm : goal.invariant-count_arms-loop-arm
invariant-count_arms-loop-arm l = record {
  all : counted (l.count + arms_length (map arm_code_of (drop l.arm-index l.arms))) ≡ counted (arms_length (map arm_code_of l.arms) + (1 + l.other));
  fits : l.count < 2 ^ 64;
}

abbrev pub invariant-count_actuals-loop-actual : goal.invariant-count_actuals-loop-actual
invariant-count_actuals-loop-actual l = record {
  all : counted (l.count + (all_code (map actual_code (drop l.actual-index l.actuals))).size) ≡ counted (all_code (map actual_code l.actuals)).size;
  fits : l.count < 2 ^ 64;
}
