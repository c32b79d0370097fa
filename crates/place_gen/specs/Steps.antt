-- The code of a counter's step, of a counted loop, and of what leads into other bodies and out of them.
use Rattle.std.specs.Prelude.{map, drop, length, option_map, Option, None, Some}
use Rattle.eu_base.specs.declared.value.Kind.TheVariants as kinds
use Rattle.eu_base.specs.declared.shape.Shape.TheVariants.{Cell}
use Rattle.eu_base.specs.declared.operation.Way.{Way}
use Rattle.elan_types.specs.declared.core_phrase.PlacePhrase.{PlacePhrase}
use Rattle.elan_types.specs.declared.core_phrase.Actual.{Actual}
use Rattle.elan_types.specs.declared.core_phrase.ValuePhrase.{ValuePhrase}
use Rattle.elan_types.specs.declared.core_phrase.Arm.{Arm}
use Rattle.elan_types.specs.declared.core_phrase.ValueArm.{ValueArm}
use Rattle.elan_types.specs.declared.core_phrase.Action.{Action, out-Action}
use Rattle.elan_types.specs.declared.core_phrase.Action.TheOpen as t
use Rattle.elan_types.specs.declared.core_phrase.Action.TheOpen.{Action-F}
use Rattle.place_gen.specs.Stretch.{Stretch, none, one, keeps, join, all_code, Exit, stays, step_code, step_to_code, turn_code, turns_code, store_code}
use Rattle.eu_base.specs.SpaceOperations.{space_operand_kinds}
use Rattle.code_form.specs.declared.instr.Instr.TheVariants.{OnSpaces, Copy, Bind}
use Rattle.place_gen.specs.Stretch.{counted_code, call_code, refer_code, leave_instr, PlaceCode, place_code, value_code, action_code, actual_code}

abbrev pub Layer : Type 0
Layer = Action-F Action Actual PlacePhrase ValuePhrase Arm ValueArm

-- the step of a counter, with a limit or without one
abbrev pub counter_code : PlaceCode → Way → Option ValuePhrase → Exit
counter_code p way None = step_code p
counter_code p way (Some limit) = step_to_code p way

-- the step of a loop's counter; nothing where there is none
abbrev pub step_step : Layer → Exit
step_step (t.Count p from way limit w us u) = counter_code (place_code p) way limit
step_step _ = stays none

abbrev pub step_of : Action → Exit
step_of a = step_step (out-Action a)

-- a turn of a loop, with its step; nothing for another action
abbrev pub turn_step : Layer → Exit
turn_step (t.Loop w us u) = turn_code (option_map value_code w) (all_code (map action_code us)) (option_map value_code u) (stays none)
turn_step (t.Count p from way limit w us u) =
    turn_code (option_map value_code w) (all_code (map action_code us)) (option_map value_code u) (counter_code (place_code p) way limit)
turn_step _ = stays none

abbrev pub turn_of : Action → Exit
turn_of a = turn_step (out-Action a)

-- the turns of a loop; nothing for another action
abbrev pub loop_step : Layer → Stretch
loop_step (t.Loop w us u) = turns_code (turn_code (option_map value_code w) (all_code (map action_code us)) (option_map value_code u) (stays none))
loop_step (t.Count p from way limit w us u) =
    turns_code (turn_code (option_map value_code w) (all_code (map action_code us)) (option_map value_code u) (counter_code (place_code p) way limit))
loop_step _ = none

abbrev pub loop_code : Action → Stretch
loop_code a = loop_step (out-Action a)

-- a counted loop; nothing for another action
abbrev pub count_step : Layer → Stretch
count_step (t.Count p from way limit w us u) =
    join (store_code (place_code p) (Cell kinds.Int) (value_code from))
    (counted_code (place_code p) way (option_map value_code limit) (turn_code (option_map value_code w) (all_code (map action_code us)) (option_map value_code u)))
count_step _ = none

abbrev pub count_code : Action → Stretch
count_code a = count_step (out-Action a)

-- calls, references and LEAVE; nothing for another action
abbrev pub transfer_step : Layer → Stretch
transfer_step (t.Action::Call n as') = call_code n None (map actual_code as')
transfer_step (t.Action::Refer n) = refer_code n None
transfer_step (t.Leave e) = one (leave_instr e None) keeps
transfer_step (t.LeaveWith e s a) = join (value_code a) (one (leave_instr e (Some s)) (drop 1))
transfer_step _ = none

abbrev pub transfer_code : Action → Stretch
transfer_code a = transfer_step (out-Action a)

-- what is done with data spaces; nothing for another action
abbrev pub spaces_step : Layer → Stretch
spaces_step (t.Perform op as') = join (all_code (map value_code as')) (one (OnSpaces op) (drop (length (space_operand_kinds op))))
spaces_step (t.Copy p a) = join (place_code p (Cell kinds.Space)) (join (value_code a) (one Copy (drop 2)))
spaces_step (t.Bind p s a) = join (place_code p (Cell kinds.Space)) (join (value_code a) (one (Bind s) (drop 2)))
spaces_step _ = none

abbrev pub spaces_code : Action → Stretch
spaces_code a = spaces_step (out-Action a)
