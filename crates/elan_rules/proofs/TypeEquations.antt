-- The shape of each form of core, from those of its parts.
use Rattle.std.proofs.Common.{◌≡◌, ℕ, ℤ, Bool, true, ◌&&◌, ◌==◌, nat_le, List, [], ◌∷◌, map, length, drop, Option, Some, None, refl, sym, ap, ◌∙◌}
use Rattle.eu_base.specs.declared.value.TheConstants.{TEXT_BYTES}
use Rattle.eu_base.specs.Operations.{operand_kinds, result_kind, change_kind, in_range}
use Rattle.eu_base.specs.declared.operation.Operation.{Operation}
use Rattle.eu_base.specs.declared.operation.Change.{Change}
use Rattle.eu_base.specs.declared.operation.Way.{Way}
use Rattle.eu_base.specs.declared.request.RequestName.{RequestName}
use Rattle.eu_base.specs.declared.value.Kind.{Kind}
use Rattle.eu_base.specs.declared.value.Kind.TheVariants.{Int, Truth as Truths, Text as Letters, Space}
use Rattle.eu_base.specs.declared.space_operation.SpaceOperation.{SpaceOperation}
use Rattle.eu_base.specs.SpaceOperations.{space_operand_kinds, space_result_kind}
use Rattle.eu_base.specs.Room.{cells_fit}
use Rattle.eu_base.specs.declared.shape.Shape.{Shape}
use Rattle.eu_base.specs.declared.shape.Shape.TheVariants.{Cell, Row}
use Rattle.eu_base.specs.Shapes.{cell_kinds}
use Rattle.elan_types.specs.declared.core_phrase.Items.{Items}
use Rattle.elan_types.specs.declared.core_phrase.Part.{Part}
use Rattle.elan_types.specs.declared.core_phrase.PlacePhrase.{PlacePhrase, roll-PlacePhrase}
use Rattle.elan_types.specs.declared.core_phrase.PlacePhrase.TheVariants as place
use Rattle.elan_types.specs.declared.core_phrase.ValuePhrase.{ValuePhrase, roll-ValuePhrase}
use Rattle.elan_types.specs.declared.core_phrase.ValuePhrase.TheVariants as value
use Rattle.elan_types.specs.declared.core_phrase.Action.{Action, roll-Action}
use Rattle.elan_types.specs.declared.core_phrase.Action.TheVariants as action
use Rattle.elan_types.specs.declared.core_phrase.Actual.{Actual, roll-Actual}
use Rattle.elan_types.specs.declared.core_phrase.Actual.TheVariants as actual
use Rattle.elan_types.specs.declared.core_phrase.Exit.{Exit}
use Rattle.elan_types.specs.declared.core_phrase.Body.{Body}
use Rattle.elan_types.specs.declared.core_phrase.Access.TheVariants.{Const, Var}
use Rattle.std.specs.Prelude.{slice_get, option_map}
use Rattle.elan_types.specs.declared.core_phrase.Arm.{Arm, rolls-Arm'}
use Rattle.elan_types.specs.declared.core_phrase.ValueArm.{ValueArm, rolls-ValueArm'}
use Rattle.elan_types.specs.declared.core_phrase.Action.TheOpen as t
use Rattle.elan_types.specs.declared.core_phrase.Action.TheOpen.{Action-F, Actual-F, PlacePhrase-F, ValuePhrase-F}
use Rattle.elan_types.specs.declared.core_phrase.Action.TheFolds.{fold-Actual, fold-Arm, fold-ValueArm, map-Action, map-Actual, map-PlacePhrase}
use Rattle.elan_types.specs.declared.core_phrase.Action.TheFolds.{map-ValuePhrase, fold-roll-Action, fold-roll-Actual, fold-roll-PlacePhrase}
use Rattle.elan_types.specs.declared.core_phrase.Action.TheFolds.{fold-roll-ValuePhrase, fold-roll-Arm, fold-roll-ValueArm}
use Rattle.elan_types.specs.Typing.{Typed, Taken, Home, Held, given_as, taken_by, scope_of, delivered_by, refines, owner, is_none, leaves_without, leaves_with}
use Rattle.elan_types.specs.Typing.{left_from, frame_in, values_held, place_held, starts, actual_kind_step, has, has_shape, agree, only_if, have, all_agree}
use Rattle.elan_types.specs.Typing.{Outside, all_true, place_kinds, phrase_shape, is_typed, if_true, item_kinds, has_part}
use Rattle.elan_types.specs.Typing.{request_formals, request_type, take_all, action_typed_step, place_kinds_step, value_kind_step, arm_typed_step, value_arm_kind_step}

-- where a phrase stands: the variables of the level, all bodies, and the body
pub record Stand : Type 0 where
  pub outside : Outside
  pub bodies : List Body
  pub home : Home

module _ (here : Stand) where
  abbrev pub typed : Action → Bool
  typed = is_typed here.outside here.bodies here.home

  abbrev pub shape : ValuePhrase → Typed
  shape = phrase_shape here.outside here.bodies here.home

  -- the kinds of the cells from a place on
  abbrev pub cells : PlacePhrase → List Kind
  cells = place_kinds here.outside here.bodies here.home

  abbrev pub arm_typed : Arm → Bool
  arm_typed =
      fold-Arm Bool Taken (List Kind) Typed Bool Typed (action_typed_step here.outside here.bodies here.home)
      (actual_kind_step here.outside here.bodies here.home) (place_kinds_step here.outside here.bodies here.home)
      (value_kind_step here.outside here.bodies here.home) (arm_typed_step here.outside here.bodies here.home)
      (value_arm_kind_step here.outside here.bodies here.home)

  abbrev pub arm_shape : ValueArm → Typed
  arm_shape =
      fold-ValueArm Bool Taken (List Kind) Typed Bool Typed (action_typed_step here.outside here.bodies here.home)
      (actual_kind_step here.outside here.bodies here.home) (place_kinds_step here.outside here.bodies here.home)
      (value_kind_step here.outside here.bodies here.home) (arm_typed_step here.outside here.bodies here.home)
      (value_arm_kind_step here.outside here.bodies here.home)

  abbrev pub actual_taken : Actual → Taken
  actual_taken =
      fold-Actual Bool Taken (List Kind) Typed Bool Typed (action_typed_step here.outside here.bodies here.home)
      (actual_kind_step here.outside here.bodies here.home) (place_kinds_step here.outside here.bodies here.home)
      (value_kind_step here.outside here.bodies here.home) (arm_typed_step here.outside here.bodies here.home)
      (value_arm_kind_step here.outside here.bodies here.home)

  -- ---- one layer

  of_action : (y : Action-F Action Actual PlacePhrase ValuePhrase Arm ValueArm)
      → typed (roll-Action y) ≡ action_typed_step here.outside here.bodies here.home
      (map-Action _ _ _ _ _ _ _ _ _ _ _ _ typed actual_taken cells shape arm_typed arm_shape y)
  of_action y = rw fold-roll-Action refl

  of_value : (y : ValuePhrase-F Action Actual PlacePhrase ValuePhrase Arm ValueArm)
      → shape (roll-ValuePhrase y)
      ≡ value_kind_step here.outside here.bodies here.home (map-ValuePhrase _ _ _ _ _ _ _ _ _ _ _ _ typed actual_taken cells shape arm_typed arm_shape y)
  of_value y = rw fold-roll-ValuePhrase refl

  of_place : (y : PlacePhrase-F Action Actual PlacePhrase ValuePhrase Arm ValueArm)
      → cells (roll-PlacePhrase y)
      ≡ place_kinds_step here.outside here.bodies here.home
      (map-PlacePhrase _ _ _ _ _ _ _ _ _ _ _ _ typed actual_taken cells shape arm_typed arm_shape y)
  of_place y = rw fold-roll-PlacePhrase refl

  of_actual : (y : Actual-F Action Actual PlacePhrase ValuePhrase Arm ValueArm)
      → actual_taken (roll-Actual y)
      ≡ actual_kind_step here.outside here.bodies here.home (map-Actual _ _ _ _ _ _ _ _ _ _ _ _ typed actual_taken cells shape arm_typed arm_shape y)
  of_actual y = rw fold-roll-Actual refl

  -- ---- places

  abbrev pub frame : List Held
  frame = frame_in here.bodies (owner here.bodies here.home)

  pub variable_is : (n : ℕ) → cells (place.Variable n) ≡ drop n here.outside.variables
  variable_is n = ap cells (sym (place.rolls-Variable n)) ∙ of_place (t.Variable n)

  pub packet_is : (n : ℕ) → cells (place.Packet n) ≡ drop n here.outside.packets
  packet_is n = ap cells (sym (place.rolls-Packet n)) ∙ of_place (t.Packet n)

  pub local_is : (n : ℕ) → cells (place.Local n) ≡ values_held (drop n frame)
  local_is n = ap cells (sym (place.rolls-Local n)) ∙ of_place (t.Local n)

  pub parameter_is : (n : ℕ) → cells (place.Parameter n) ≡ place_held (slice_get frame n)
  parameter_is n = ap cells (sym (place.rolls-Parameter n)) ∙ of_place (t.Parameter n)

  pub item_is : (p : PlacePhrase) (a : ValuePhrase) (items : Items)
      → cells (place.Item p a items) ≡ if_true (has Int (shape a)) (item_kinds items.count items.cells (cells p))
  item_is p a items = ap cells (sym (place.rolls-Item p a items)) ∙ of_place (t.Item p a items)

  pub field_is : (p : PlacePhrase) (before : ℕ) → cells (place.Field p before) ≡ drop before (cells p)
  field_is p before = ap cells (sym (place.rolls-Field p before)) ∙ of_place (t.Field p before)

  pub content_is : (p : PlacePhrase) (s : Shape)
      → cells (place.Content p s) ≡ if_true (starts (Space ∷ []) (cells p) && cells_fit (length (cell_kinds s))) (cell_kinds s)
  content_is p s = ap cells (sym (place.rolls-Content p s)) ∙ of_place (t.Content p s)

  -- ---- values

  pub number_is : (z : ℤ) → shape (value.Number z) ≡ only_if (in_range z) (Some (Cell Int))
  number_is z = ap shape (sym (value.rolls-Number z)) ∙ of_value (t.Number z)

  pub truth_is : (b : Bool) → shape (value.Truth b) ≡ Some (Cell Truths)
  truth_is b = ap shape (sym (value.rolls-Truth b)) ∙ of_value (t.Truth b)

  pub text_is : (x : List ℕ) → shape (value.Text x) ≡ only_if (nat_le (length x) TEXT_BYTES) (Some (Cell Letters))
  text_is x = ap shape (sym (value.rolls-Text x)) ∙ of_value (t.Text x)

  pub load_is : (p : PlacePhrase) (s : Shape) → shape (value.Load p s) ≡ only_if (starts (cell_kinds s) (cells p)) (Some s)
  load_is p s = ap shape (sym (value.rolls-Load p s)) ∙ of_value (t.Load p s)

  pub apply_is : (op : Operation) (as' : List ValuePhrase)
      → shape (value.Apply op as') ≡ only_if (have (operand_kinds op) (map shape as')) (Some (Cell (result_kind op)))
  apply_is op as' = ap shape (sym (value.rolls-Apply op as')) ∙ of_value (t.Apply op as')

  pub consult_is : (op : SpaceOperation) (as' : List ValuePhrase)
      → shape (value.Consult op as') ≡ only_if (have (space_operand_kinds op) (map shape as')) (option_map Cell (space_result_kind op))
  consult_is op as' = ap shape (sym (value.rolls-Consult op as')) ∙ of_value (t.Consult op as')

  pub value_if_is : (c a b : ValuePhrase) → shape (value.If c a b) ≡ only_if (has Truths (shape c) && agree (shape a) (shape b)) (shape a)
  value_if_is c a b = ap shape (sym (value.rolls-If c a b)) ∙ of_value (t.ValuePhrase::If c a b)

  pub value_select_is : (v : ValuePhrase) (arms : List ValueArm) (other : ValuePhrase)
      → shape (value.Select v arms other) ≡ only_if (has Int (shape v) && all_agree (shape other) (map arm_shape arms)) (shape other)
  value_select_is v arms other = ap shape (sym (value.rolls-Select v arms other)) ∙ of_value (t.ValuePhrase::Select v arms other)

  pub value_unit_is : (a : ValuePhrase) → shape (value.Unit a) ≡ shape a
  value_unit_is a = ap shape (sym (value.rolls-Unit a)) ∙ of_value (t.ValuePhrase::Unit a)

  pub after_is : (us : List Action) (a : ValuePhrase) → shape (value.After us a) ≡ only_if (all_true (map typed us)) (shape a)
  after_is us a = ap shape (sym (value.rolls-After us a)) ∙ of_value (t.After us a)

  pub never_is : (s : Shape) → shape (value.Never s) ≡ Some s
  never_is s = ap shape (sym (value.rolls-Never s)) ∙ of_value (t.Never s)

  pub pick_is : (a i : ValuePhrase) (items : Items) (s : Shape)
      → shape (value.Pick a i items s)
      ≡ only_if (has_shape (Row items.count s) (shape a) && (has Int (shape i) && length (cell_kinds s) == items.cells)) (Some s)
  pick_is a i items s = ap shape (sym (value.rolls-Pick a i items s)) ∙ of_value (t.Pick a i items s)

  pub take_is : (a : ValuePhrase) (part : Part) (s : Shape) → shape (value.Take a part s) ≡ only_if (has_part part (cell_kinds s) (shape a)) (Some s)
  take_is a part s = ap shape (sym (value.rolls-Take a part s)) ∙ of_value (t.Take a part s)

  pub answer_is : (q : RequestName) (as' : List Actual)
      → shape (value.Ask q as') ≡ only_if (take_all (request_formals q) (map actual_taken as')) (request_type q)
  answer_is q as' = ap shape (sym (value.rolls-Ask q as')) ∙ of_value (t.ValuePhrase::Ask q as')

  pub call_is : (n : ℕ) (as' : List Actual) (s : Shape)
      → shape (value.Call n as' s)
      ≡ only_if (taken_by (scope_of (slice_get here.bodies n)) (map actual_taken as') && has_shape s (delivered_by (slice_get here.bodies n))) (Some s)
  call_is n as' s = ap shape (sym (value.rolls-Call n as' s)) ∙ of_value (t.ValuePhrase::Call n as' s)

  pub refer_is : (n : ℕ) (s : Shape)
      → shape (value.Refer n s)
      ≡ only_if (refines (owner here.bodies here.home) (scope_of (slice_get here.bodies n)) && has_shape s (delivered_by (slice_get here.bodies n))) (Some s)
  refer_is n s = ap shape (sym (value.rolls-Refer n s)) ∙ of_value (t.ValuePhrase::Refer n s)

  pub value_arm_is : (ns : List ℤ) (a : ValuePhrase) → arm_shape (record { labels = ns; value = a }) ≡ shape a
  value_arm_is ns a = ap arm_shape (sym (rolls-ValueArm' (record { labels = ns; value = a }))) ∙ rw fold-roll-ValueArm refl

  -- ---- actions

  pub unit_is : (us : List Action) → typed (action.Unit us) ≡ all_true (map typed us)
  unit_is us = ap typed (sym (action.rolls-Unit us)) ∙ of_action (t.Action::Unit us)

  pub store_is : (p : PlacePhrase) (s : Shape) (a : ValuePhrase) → typed (action.Store p s a) ≡ (starts (cell_kinds s) (cells p) && has_shape s (shape a))
  store_is p s a = ap typed (sym (action.rolls-Store p s a)) ∙ of_action (t.Store p s a)

  pub copy_is : (p : PlacePhrase) (a : ValuePhrase) → typed (action.Copy p a) ≡ (starts (Space ∷ []) (cells p) && has Space (shape a))
  copy_is p a = ap typed (sym (action.rolls-Copy p a)) ∙ of_action (t.Copy p a)

  pub bind_is : (p : PlacePhrase) (s : Shape) (a : ValuePhrase) → typed (action.Bind p s a) ≡ (starts (Space ∷ []) (cells p) && has Space (shape a))
  bind_is p s a = ap typed (sym (action.rolls-Bind p s a)) ∙ of_action (t.Bind p s a)

  pub perform_is : (op : SpaceOperation) (as' : List ValuePhrase)
      → typed (action.Perform op as') ≡ (have (space_operand_kinds op) (map shape as') && is_none (option_map Cell (space_result_kind op)))
  perform_is op as' = ap typed (sym (action.rolls-Perform op as')) ∙ of_action (t.Perform op as')

  pub modify_is : (c : Change) (p : PlacePhrase) (a : ValuePhrase)
      → typed (action.Modify c p a) ≡ (starts (change_kind c ∷ []) (cells p) && has (change_kind c) (shape a))
  modify_is c p a = ap typed (sym (action.rolls-Modify c p a)) ∙ of_action (t.Modify c p a)

  pub if_is : (c : ValuePhrase) (us ws : List Action)
      → typed (action.If c us ws) ≡ (has Truths (shape c) && (all_true (map typed us) && all_true (map typed ws)))
  if_is c us ws = ap typed (sym (action.rolls-If c us ws)) ∙ of_action (t.Action::If c us ws)

  pub select_is : (a : ValuePhrase) (arms : List Arm) (ws : List Action)
      → typed (action.Select a arms ws) ≡ (has Int (shape a) && (all_true (map arm_typed arms) && all_true (map typed ws)))
  select_is a arms ws = ap typed (sym (action.rolls-Select a arms ws)) ∙ of_action (t.Action::Select a arms ws)

  pub ask_is : (q : RequestName) (as' : List Actual)
      → typed (action.Ask q as') ≡ (take_all (request_formals q) (map actual_taken as') && is_none (request_type q))
  ask_is q as' = ap typed (sym (action.rolls-Ask q as')) ∙ of_action (t.Action::Ask q as')

  pub error_stop_is : (a : ValuePhrase) → typed (action.ErrorStop a) ≡ has Letters (shape a)
  error_stop_is a = ap typed (sym (action.rolls-ErrorStop a)) ∙ of_action (t.ErrorStop a)

  pub arm_is : (ns : List ℤ) (us : List Action) → arm_typed (record { labels = ns; units = us }) ≡ all_true (map typed us)
  arm_is ns us = ap arm_typed (sym (rolls-Arm' (record { labels = ns; units = us }))) ∙ rw fold-roll-Arm refl

  pub action_call_is : (n : ℕ) (as' : List Actual)
      → typed (action.Call n as') ≡ (taken_by (scope_of (slice_get here.bodies n)) (map actual_taken as') && is_none (delivered_by (slice_get here.bodies n)))
  action_call_is n as' = ap typed (sym (action.rolls-Call n as')) ∙ of_action (t.Action::Call n as')

  pub action_refer_is : (n : ℕ)
      → typed (action.Refer n)
      ≡ (refines (owner here.bodies here.home) (scope_of (slice_get here.bodies n)) && is_none (delivered_by (slice_get here.bodies n)))
  action_refer_is n = ap typed (sym (action.rolls-Refer n)) ∙ of_action (t.Action::Refer n)

  pub leave_is : (e : Exit) → typed (action.Leave e) ≡ leaves_without (left_from here.bodies e here.home)
  leave_is e = ap typed (sym (action.rolls-Leave e)) ∙ of_action (t.Leave e)

  pub leave_with_is : (e : Exit) (s : Shape) (a : ValuePhrase)
      → typed (action.LeaveWith e s a) ≡ (has_shape s (shape a) && leaves_with s (left_from here.bodies e here.home))
  leave_with_is e s a = ap typed (sym (action.rolls-LeaveWith e s a)) ∙ of_action (t.LeaveWith e s a)

  -- ---- what parameters are given

  pub given_value_is : (a : ValuePhrase) → actual_taken (actual.Value a) ≡ given_as Const (shape a)
  given_value_is a = ap actual_taken (sym (actual.rolls-Value a)) ∙ of_actual (t.Value a)

  pub given_place_is : (p : PlacePhrase) (s : Shape) → actual_taken (actual.Place p s) ≡ given_as Var (only_if (starts (cell_kinds s) (cells p)) (Some s))
  given_place_is p s = ap actual_taken (sym (actual.rolls-Place p s)) ∙ of_actual (t.Place p s)

  -- ---- loops, with whatever parts are written

  abbrev pub has_written : Kind → Option ValuePhrase → Bool
  has_written u None = true
  has_written u (Some a) = has u (shape a)

  pub loop_is : (c : Option ValuePhrase) (us : List Action) (u : Option ValuePhrase)
      → typed (action.Loop c us u) ≡ (has_written Truths c && (all_true (map typed us) && has_written Truths u))
  loop_is None us None = ap typed (sym (action.rolls-Loop None us None)) ∙ of_action (t.Loop None us None)
  loop_is None us (Some u) = ap typed (sym (action.rolls-Loop None us (Some u))) ∙ of_action (t.Loop None us (Some u))
  loop_is (Some c) us None = ap typed (sym (action.rolls-Loop (Some c) us None)) ∙ of_action (t.Loop (Some c) us None)
  loop_is (Some c) us (Some u) = ap typed (sym (action.rolls-Loop (Some c) us (Some u))) ∙ of_action (t.Loop (Some c) us (Some u))

  abbrev counts : PlacePhrase → ValuePhrase → Option ValuePhrase → Option ValuePhrase → List Action → Option ValuePhrase → Bool
  counts p from limit c us u =
      starts (Int ∷ []) (cells p)
      && (has Int (shape from) && (has_written Int limit && (has_written Truths c && (all_true (map typed us) && has_written Truths u))))

  layer : (p : PlacePhrase) (from : ValuePhrase) (w : Way) (l c : Option ValuePhrase) (us : List Action) (u : Option ValuePhrase)
      → action_typed_step here.outside here.bodies here.home
      (map-Action _ _ _ _ _ _ _ _ _ _ _ _ typed actual_taken cells shape arm_typed arm_shape (t.Count p from w l c us u)) ≡ counts p from l c us u
  layer p from w None None us None = refl
  layer p from w None None us (Some u) = refl
  layer p from w None (Some c) us None = refl
  layer p from w None (Some c) us (Some u) = refl
  layer p from w (Some l) None us None = refl
  layer p from w (Some l) None us (Some u) = refl
  layer p from w (Some l) (Some c) us None = refl
  layer p from w (Some l) (Some c) us (Some u) = refl

  pub count_is : (p : PlacePhrase) (from : ValuePhrase) (w : Way) (l c : Option ValuePhrase) (us : List Action) (u : Option ValuePhrase)
      → typed (action.Count p from w l c us u)
      ≡ (starts (Int ∷ []) (cells p)
      && (has Int (shape from) && (has_written Int l && (has_written Truths c && (all_true (map typed us) && has_written Truths u)))))
  count_is p from w l c us u = ap typed (sym (action.rolls-Count p from w l c us u)) ∙ of_action (t.Count p from w l c us u) ∙ layer p from w l c us u
