use Rattle.std.proofs.Common.{map, drop}
use Rattle.place_gen.specs.declared.draft.Draft.{Draft}
use Rattle.place_gen.specs.Stretch.{all_code, select_code, value_code, action_code, actual_code, value_arm_code, arm_code_of}
use Rattle.place_gen.specs.Makes.{Makes}
use Rattle.place_gen.proofs.Makes.{IsAt}
use Rattle.place_gen.proofs.emit.+emit.Given as goal

-- what makes the code of what is left makes all
abbrev pub invariant-add_values-loop-value : goal.invariant-add_values-loop-value
invariant-add_values-loop-value l =
    (new : Draft) → Makes (all_code (map value_code (drop l.value-index l.values))) l.out new → Makes (all_code (map value_code l.values)) l.fn.out new

abbrev pub invariant-add_actions-loop-action : goal.invariant-add_actions-loop-action
invariant-add_actions-loop-action l =
    (new : Draft) → Makes (all_code (map action_code (drop l.action-index l.actions))) l.out new → Makes (all_code (map action_code l.actions)) l.fn.out new

abbrev pub invariant-add_actuals-loop-actual : goal.invariant-add_actuals-loop-actual
invariant-add_actuals-loop-actual l =
    (new : Draft) → Makes (all_code (map actual_code (drop l.actual-index l.actuals))) l.out new → Makes (all_code (map actual_code l.actuals)) l.fn.out new

abbrev pub invariant-add_value_parts-loop-arm : goal.invariant-add_value_parts-loop-arm
invariant-add_value_parts-loop-arm l =
    let other = value_code l.other in
    record {
      rest : (new : Draft) → Makes (select_code (map value_arm_code (drop l.arm-index l.arms)) other) l.out new
          → Makes (select_code (map value_arm_code l.arms) other) l.fn.out new;
      at : IsAt (select_code (map value_arm_code (drop l.arm-index l.arms)) other) l.end l.top l.out;
    }

abbrev pub invariant-add_parts-loop-arm : goal.invariant-add_parts-loop-arm
invariant-add_parts-loop-arm l =
    let other = all_code (map action_code l.other) in
    record {
      rest : (new : Draft) → Makes (select_code (map arm_code_of (drop l.arm-index l.arms)) other) l.out new
          → Makes (select_code (map arm_code_of l.arms) other) l.fn.out new;
      at : IsAt (select_code (map arm_code_of (drop l.arm-index l.arms)) other) l.end l.top l.out;
    }
