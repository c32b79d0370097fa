-- The instructions of a phrase.
use Rattle.std.specs.Prelude.{ℕ, ◌+◌, List, [], ◌∷◌, ◌++◌, map, length, drop, Option, Some, None, ℤ, pos}
use Rattle.eu_base.specs.declared.value.Kind.TheVariants as kinds
use Rattle.eu_base.specs.declared.shape.Shape.{Shape}
use Rattle.eu_base.specs.declared.shape.Shape.TheVariants.{Cell}
use Rattle.eu_base.specs.declared.operation.Change.{Change}
use Rattle.eu_base.specs.declared.operation.Change.TheVariants.{Increase}
use Rattle.eu_base.specs.declared.operation.Way.{Way}
use Rattle.eu_base.specs.Operations.{operand_kinds, result_kind, change_kind}
use Rattle.eu_base.specs.Requests.{request_result, request_size}
use Rattle.eu_base.specs.SpaceOperations.{space_operand_kinds, space_result_kind}
use Rattle.code_form.specs.declared.operand.OperandKind.{OperandKind}
use Rattle.code_form.specs.declared.operand.OperandKind.TheVariants.{Value, Place}
use Rattle.code_form.specs.declared.instr.Instr.{Instr}
use Rattle.code_form.specs.declared.instr.Instr.TheVariants.{Mark, Number, Truth, Text, Outer, Packet, Local, Param, Index, Field, Content as ContentAt, Pick, Take, Load, Store, Do, OnSpaces, Copy, Bind, Modify}
use Rattle.code_form.specs.declared.instr.Instr.TheVariants.{Jump, False, When, Drop, Limit, Unlimit, Step, Ask, ErrorStop, Call, Refer, Back, Out}
use Rattle.code_form.specs.declared.code.Line.{Line}
use Rattle.code_form.specs.declared.code.Spot.{Spot}
use Rattle.code_form.specs.Program.{line_of, deeper}
use Rattle.code_form.specs.Valid.{with_result, with_answer, cell_value}
use Rattle.elan_types.specs.declared.core_phrase.PlacePhrase.{PlacePhrase}
use Rattle.elan_types.specs.declared.core_phrase.Exit.{Exit as Exit'}
use Rattle.elan_types.specs.declared.core_phrase.Exit.TheVariants as exits
use Rattle.elan_types.specs.declared.core_phrase.Content.{Content}
use Rattle.elan_types.specs.declared.core_phrase.Content.TheVariants as contents
use Rattle.elan_types.specs.declared.core_phrase.Actual.{Actual}
use Rattle.elan_types.specs.declared.core_phrase.ValuePhrase.{ValuePhrase, out-ValuePhrase}
use Rattle.elan_types.specs.declared.core_phrase.Arm.{Arm}
use Rattle.elan_types.specs.declared.core_phrase.ValueArm.{ValueArm}
use Rattle.elan_types.specs.declared.core_phrase.Action.{Action, out-Action}
use Rattle.elan_types.specs.declared.core_phrase.Action.TheOpen as t
use Rattle.elan_types.specs.declared.core_phrase.Action.TheOpen.{Action-F, Actual-F, PlacePhrase-F, ValuePhrase-F, Arm-F, ValueArm-F}
use Rattle.elan_types.specs.declared.core_phrase.Action.TheFolds.{fold-Action, fold-Actual, fold-PlacePhrase, fold-ValuePhrase, fold-Arm, fold-ValueArm}
use Rattle.elan_types.specs.Eval.{Labelled}

-- lines that know what is pending before them, in which body and under how many limits they are, and where they stand; how many
-- they are; and what is pending after them
pub record Stretch : Type 0 where
  pub size : ℕ
  pub leaves : List OperandKind → List OperandKind
  pub lines : List OperandKind → Spot → ℕ → List Line

abbrev pub none : Stretch
none = record { size = 0; leaves = λ ks. ks; lines = λ ks m at. [] }

abbrev pub one : Instr → (List OperandKind → List OperandKind) → Stretch
one i leaves = record { size = 1; leaves = leaves; lines = λ ks m at. line_of i ks m ∷ [] }

abbrev pub keeps : List OperandKind → List OperandKind
keeps ks = ks

abbrev pub pushes : OperandKind → List OperandKind → List OperandKind
pushes k ks = k ∷ ks

abbrev pub join : Stretch → Stretch → Stretch
join f g = record {
  size = f.size + g.size;
  leaves = λ ks. g.leaves (f.leaves ks);
  lines = λ ks m at. f.lines ks m at ++ g.lines (f.leaves ks) m (at + f.size);
}

abbrev pub all_code : List Stretch → Stretch
all_code [] = none
all_code (f ∷ fs) = join f (all_code fs)

-- a test, what is done where it is TRUE, a jump to the end, and what is done where it is FALSE
abbrev pub if_code : Stretch → Stretch → Stretch → Stretch
if_code c a b = record {
  size = c.size + (1 + (a.size + (1 + b.size)));
  leaves = b.leaves;
  lines = λ ks m at.
      c.lines ks m at
      ++ (line_of (False (at + c.size + 1 + a.size + 1)) (c.leaves ks) m
      ∷ (a.lines ks m (at + c.size + 1)
      ++ (line_of (Jump (at + c.size + 1 + a.size + 1 + b.size)) (a.leaves ks) m
      ∷ b.lines ks m (at + c.size + 1 + a.size + 1))));
}

abbrev pub whens : List ℤ → ℕ → List OperandKind → Spot → List Line
whens [] a ks m = []
whens (z ∷ zs) a ks m = line_of (When z a) ks m ∷ whens zs a ks m

-- a part of a SELECT whose number is on top: a test for each label, a jump past the part, the part, a jump to the end, and the rest
abbrev pub arm_code : List ℤ → Stretch → Stretch → Stretch
arm_code zs a rest = record {
  size = length zs + (1 + (a.size + (1 + rest.size)));
  leaves = rest.leaves;
  lines = λ ks m at.
      whens zs (at + length zs + 1) ks m
      ++ (line_of (Jump (at + length zs + 1 + a.size + 1)) ks m
      ∷ (a.lines (drop 1 ks) m (at + length zs + 1)
      ++ (line_of (Jump (at + length zs + 1 + a.size + 1 + rest.size)) (a.leaves (drop 1 ks)) m
      ∷ rest.lines ks m (at + length zs + 1 + a.size + 1))));
}

abbrev pub select_code : List (Labelled Stretch) → Stretch → Stretch
select_code [] other = join (one Drop (drop 1)) other
select_code (arm ∷ arms) other = arm_code arm.labels arm.part (select_code arms other)

-- a part of a loop's turn, which may leave the loop: its lines know the place where the loop ends. It leaves what was pending
pub record Exit : Type 0 where
  pub size : ℕ
  pub lines : ℕ → List OperandKind → Spot → ℕ → List Line

abbrev pub stays : Stretch → Exit
stays f = record { size = f.size; lines = λ end. f.lines }

abbrev pub exit_join : Exit → Exit → Exit
exit_join f g = record { size = f.size + g.size; lines = λ end ks m at. f.lines end ks m at ++ g.lines end ks m (at + f.size) }

abbrev pub while_code : Option Stretch → Exit
while_code None = stays none
while_code (Some c) = record { size = c.size + 1; lines = λ end ks m at. c.lines ks m at ++ line_of (False end) (c.leaves ks) m ∷ [] }

abbrev pub until_code : Option Stretch → Exit
until_code None = stays none
until_code (Some c) = record {
  size = c.size + (1 + 1);
  lines = λ end ks m at. c.lines ks m at ++ (line_of (False (at + c.size + 1 + 1)) (c.leaves ks) m ∷ (line_of (Jump end) ks m ∷ []));
}

-- the code of a place, which leaves the place of a value of a shape
abbrev pub PlaceCode : Type 0
PlaceCode = Shape → Stretch

-- the step of a counter without limit, and with one
abbrev pub step_code : PlaceCode → Exit
step_code x = stays (join (x (Cell kinds.Int)) (join (one (Number (pos 1)) (pushes (cell_value kinds.Int))) (one (Modify Increase) (drop 2))))

abbrev pub step_to_code : PlaceCode → Way → Exit
step_to_code x way = record {
  size = (x (Cell kinds.Int)).size + 1;
  lines = λ end ks m at. (x (Cell kinds.Int)).lines ks m at ++ line_of (Step way end) ((x (Cell kinds.Int)).leaves ks) m ∷ [];
}

abbrev pub turn_code : Option Stretch → Stretch → Option Stretch → Exit → Exit
turn_code while' units until step = exit_join (while_code while') (exit_join (stays units) (exit_join (until_code until) step))

-- a mark, the turn, and back
abbrev pub turns_code : Exit → Stretch
turns_code turn = record {
  size = 1 + (turn.size + 1);
  leaves = keeps;
  lines = λ ks m at. line_of Mark ks m ∷ (turn.lines (at + 1 + turn.size + 1) ks m (at + 1) ++ line_of (Jump at) ks m ∷ []);
}

-- the turns under a limit, which is on top, with the counter's place below it
abbrev pub limit_code : Way → Stretch → Stretch
limit_code way turns = record {
  size = 1 + (turns.size + 1);
  leaves = drop 2;
  lines = λ ks m at.
      line_of (Limit way (at + 1 + turns.size)) ks m ∷ (turns.lines (drop 2 ks) (deeper m) (at + 1) ++ line_of Unlimit (drop 2 ks) (deeper m) ∷ []);
}

abbrev pub store_code : PlaceCode → Shape → Stretch → Stretch
store_code x s f = join (x s) (join f (one (Store s) (drop 2)))

abbrev pub modify_code : PlaceCode → Change → Stretch → Stretch
modify_code x change f = join (x (Cell (change_kind change))) (join f (one (Modify change) (drop 2)))

abbrev pub counted_code : PlaceCode → Way → Option Stretch → (Exit → Exit) → Stretch
counted_code x way None turn = turns_code (turn (step_code x))
counted_code x way (Some f) turn =
    join (x (Cell kinds.Int)) (join f (limit_code way (turns_code (turn (step_to_code x way)))))

-- a call takes as many operands as it has actuals, and leaves what it delivers
abbrev pub call_code : ℕ → Option Shape → List Stretch → Stretch
call_code n delivers fs = join (all_code fs) (one (Call n) (λ ks. with_result delivers (drop (length fs) ks)))

abbrev pub refer_code : ℕ → Option Shape → Stretch
refer_code n delivers = one (Refer n) (with_result delivers)

-- the instruction that leaves a body, and the PROC of a refinement
abbrev pub leave_instr : Exit' → Option Shape → Instr
leave_instr exits.Body k = Back k
leave_instr exits.Around k = Out k

-- a mark, and back to it: what stands behind is never reached, and has a value of a shape on top
abbrev pub never_code : Shape → Stretch
never_code s = record { size = 1 + 1; leaves = pushes (Value s); lines = λ ks m at. line_of Mark ks m ∷ (line_of (Jump at) ks m ∷ []) }

abbrev pub Layer : (Type 0 → Type 0 → Type 0 → Type 0 → Type 0 → Type 0 → Type 0) → Type 0
Layer F = F Stretch Stretch PlaceCode Stretch (Labelled Stretch) (Labelled Stretch)

abbrev pub place_code_step : Layer PlacePhrase-F → PlaceCode
place_code_step (t.Variable k) s = one (Outer k) (pushes (Place s))
place_code_step (t.Packet k) s = one (Packet k) (pushes (Place s))
place_code_step (t.Local k) s = one (Local k) (pushes (Place s))
place_code_step (t.Parameter k) s = one (Param k) (pushes (Place s))
place_code_step (t.Item p a items) s = join (p s) (join a (one (Index items.count items.cells) (λ ks. Place s ∷ drop 2 ks)))
place_code_step (t.Content p of) s = join (p (Cell kinds.Space)) (one ContentAt (λ ks. Place s ∷ drop 1 ks))
place_code_step (t.Field p before) s = join (p s) (one (Field before) (λ ks. Place s ∷ drop 1 ks))

abbrev pub value_code_step : Layer ValuePhrase-F → Stretch
value_code_step (t.Number z) = one (Number z) (pushes (cell_value kinds.Int))
value_code_step (t.Truth b) = one (Truth b) (pushes (cell_value kinds.Truth))
value_code_step (t.Text x) = one (Text x) (pushes (cell_value kinds.Text))
value_code_step (t.Load p s) = join (p s) (one (Load s) (λ ks. Value s ∷ drop 1 ks))
value_code_step (t.Apply op as') = join (all_code as') (one (Do op) (λ ks. cell_value (result_kind op) ∷ drop (length (operand_kinds op)) ks))
value_code_step (t.ValuePhrase::If c a b) = if_code c a b
value_code_step (t.ValuePhrase::Select a arms other) = join a (select_code arms other)
value_code_step (t.ValuePhrase::Unit a) = join (one Mark keeps) a
value_code_step (t.After us a) = join (all_code us) a
value_code_step (t.Never s) = never_code s
value_code_step (t.ValuePhrase::Call n as' s) = call_code n (Some s) as'
value_code_step (t.ValuePhrase::Refer n s) = refer_code n (Some s)
value_code_step (t.Pick a i items s) = join a (join i (one (Pick items.count items.cells) (λ ks. Value s ∷ drop 2 ks)))
value_code_step (t.Take a part s) = join a (one (Take part.of part.before part.cells) (λ ks. Value s ∷ drop 1 ks))
value_code_step (t.ValuePhrase::Ask name as') =
    join (all_code as') (one (Ask name) (λ ks. with_answer (request_result name) (drop (request_size name) ks)))
value_code_step (t.Consult op as') =
    join (all_code as') (one (OnSpaces op) (λ ks. with_answer (space_result_kind op) (drop (length (space_operand_kinds op)) ks)))

abbrev pub actual_code_step : Layer Actual-F → Stretch
actual_code_step (t.Value a) = a
actual_code_step (t.Place p s) = p s

abbrev pub value_arm_code_step : Layer ValueArm-F → Labelled Stretch
value_arm_code_step arm = record { labels = arm.labels; part = arm.value }

abbrev pub action_code_step : Layer Action-F → Stretch
action_code_step (t.Action::Unit us) = join (one Mark keeps) (all_code us)
action_code_step (t.Store p s a) = store_code p s a
action_code_step (t.Modify change p a) = modify_code p change a
action_code_step (t.Action::If c us vs) = if_code c (all_code us) (all_code vs)
action_code_step (t.Action::Select a arms us) = join a (select_code arms (all_code us))
action_code_step (t.Loop while' us until) = turns_code (turn_code while' (all_code us) until (stays none))
action_code_step (t.Count p from way limit while' us until) =
    join (store_code p (Cell kinds.Int) from) (counted_code p way limit (turn_code while' (all_code us) until))
action_code_step (t.Action::Ask name as') = join (all_code as') (one (Ask name) (drop (request_size name)))
action_code_step (t.ErrorStop a) = join a (one ErrorStop (drop 1))
action_code_step (t.Action::Call n as') = call_code n None as'
action_code_step (t.Action::Refer n) = refer_code n None
action_code_step (t.Leave e) = one (leave_instr e None) keeps
action_code_step (t.LeaveWith e s a) = join a (one (leave_instr e (Some s)) (drop 1))
action_code_step (t.Perform op as') = join (all_code as') (one (OnSpaces op) (drop (length (space_operand_kinds op))))
action_code_step (t.Copy p a) = join (p (Cell kinds.Space)) (join a (one Copy (drop 2)))
action_code_step (t.Bind p s a) = join (p (Cell kinds.Space)) (join a (one (Bind s) (drop 2)))

abbrev pub arm_code_step : Layer Arm-F → Labelled Stretch
arm_code_step arm = record { labels = arm.labels; part = all_code arm.units }

abbrev pub value_code : ValuePhrase → Stretch
value_code =
    fold-ValuePhrase Stretch Stretch PlaceCode Stretch (Labelled Stretch) (Labelled Stretch) action_code_step actual_code_step place_code_step value_code_step arm_code_step
    value_arm_code_step

abbrev pub place_code : PlacePhrase → PlaceCode
place_code =
    fold-PlacePhrase Stretch Stretch PlaceCode Stretch (Labelled Stretch) (Labelled Stretch) action_code_step actual_code_step place_code_step value_code_step
    arm_code_step value_arm_code_step

abbrev pub action_code : Action → Stretch
action_code =
    fold-Action Stretch Stretch PlaceCode Stretch (Labelled Stretch) (Labelled Stretch) action_code_step actual_code_step place_code_step value_code_step arm_code_step
    value_arm_code_step

abbrev pub actual_code : Actual → Stretch
actual_code =
    fold-Actual Stretch Stretch PlaceCode Stretch (Labelled Stretch) (Labelled Stretch) action_code_step actual_code_step place_code_step value_code_step arm_code_step
    value_arm_code_step

-- what a body does, and the instruction that leaves it with its result
abbrev pub content_code : Content → Stretch
content_code (contents.Units us) = join (all_code (map action_code us)) (one (Back None) keeps)
content_code (contents.Value s a) = join (value_code a) (one (Back (Some s)) (drop 1))

-- the code of a part of a SELECT, with its labels
abbrev pub value_arm_code : ValueArm → Labelled Stretch
value_arm_code =
    fold-ValueArm Stretch Stretch PlaceCode Stretch (Labelled Stretch) (Labelled Stretch) action_code_step actual_code_step place_code_step value_code_step arm_code_step
    value_arm_code_step

abbrev pub arm_code_of : Arm → Labelled Stretch
arm_code_of =
    fold-Arm Stretch Stretch PlaceCode Stretch (Labelled Stretch) (Labelled Stretch) action_code_step actual_code_step place_code_step value_code_step arm_code_step value_arm_code_step

-- how many lines the parts of a SELECT have, without the last
abbrev pub arms_length : List (Labelled Stretch) → ℕ
arms_length [] = 0
arms_length (arm ∷ arms) = length arm.labels + (arm.part.size + 2) + arms_length arms

-- a test for each label
abbrev pub whens_code : List ℤ → ℕ → Stretch
whens_code zs a = record { size = length zs; leaves = keeps; lines = λ ks m at. whens zs a ks m }

-- the parts of a SELECT; nothing for another phrase
abbrev pub value_parts_step : ValuePhrase-F Action Actual PlacePhrase ValuePhrase Arm ValueArm → Stretch
value_parts_step (t.ValuePhrase::Select v arms other) = select_code (map value_arm_code arms) (value_code other)
value_parts_step _ = none

abbrev pub value_parts : ValuePhrase → Stretch
value_parts v = value_parts_step (out-ValuePhrase v)

abbrev pub action_parts_step : Action-F Action Actual PlacePhrase ValuePhrase Arm ValueArm → Stretch
action_parts_step (t.Action::Select v arms us) = select_code (map arm_code_of arms) (all_code (map action_code us))
action_parts_step _ = none

abbrev pub action_parts : Action → Stretch
action_parts a = action_parts_step (out-Action a)
