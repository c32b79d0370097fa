-- The code of a well typed phrase does what the phrase does. One induction over the phrases, so it stands in one file.
use Rattle.std.proofs.Common.{◌≡◌, ◌≤◌, List, [], ◌∷◌, map, length, drop, replicate, Option, Some, None, Bool, true, ◌&&◌, refl, sym, ap, ◌∙◌, subst}
use Rattle.std.specs.Prelude.{ℤ, option_map, slice_get}
use Rattle.std.proofs.lemmas.Bool.{eqb-true}
use Rattle.eu_base.specs.Shapes.{joined}
use Rattle.eu_base.specs.declared.value.Kind.{Kind}
use Rattle.eu_base.specs.declared.value.Kind.TheVariants as kinds
use Rattle.eu_base.specs.declared.shape.Shape.{Shape}
use Rattle.eu_base.specs.declared.shape.Shape.TheVariants.{Cell, Row}
use Rattle.eu_base.specs.Shapes.{cell_kinds}
use Rattle.eu_base.specs.declared.value.Value.{Value}
use Rattle.eu_base.specs.declared.operation.Way.{Way}
use Rattle.std.specs.Int.{w16}
use Rattle.std.specs.Int.RustNames.{FitsSigned}
use Rattle.std.proofs.lemmas.Bool.{leb-true}
use Rattle.eu_base.specs.declared.value.TheConstants.{TEXT_BYTES}
use Rattle.eu_base.specs.Operations.{operand_kinds, result_kind, change_kind}
use Rattle.eu_base.specs.Requests.{request_kinds, request_places, request_result}
use Rattle.eu_base.specs.SpaceOperations.{space_operand_kinds}
use Rattle.eu_base.specs.declared.address.TheConstants.{CELLS}
use Rattle.eu_base.proofs.Results.{fits_in_range}
use Rattle.code_form.specs.declared.operand.Operand.{Operand}
use Rattle.code_form.specs.Program.{Program}
use Rattle.elan_types.specs.declared.core_phrase.PlacePhrase.{PlacePhrase}
use Rattle.elan_types.specs.declared.core_phrase.Formal.{Formal}
use Rattle.elan_types.specs.declared.core_phrase.Access.{Access}
use Rattle.elan_types.specs.declared.core_phrase.Access.TheVariants.{Const, Var}
use Rattle.elan_types.specs.declared.core_phrase.Body.{Body}
use Rattle.elan_types.specs.declared.core_phrase.Action.{Action}
use Rattle.elan_types.specs.declared.core_phrase.Actual.{Actual}
use Rattle.elan_types.specs.declared.core_phrase.ValuePhrase.{ValuePhrase}
use Rattle.elan_types.specs.declared.core_phrase.Arm.{Arm}
use Rattle.elan_types.specs.declared.core_phrase.ValueArm.{ValueArm}
use Rattle.elan_types.specs.declared.core_phrase.Action.TheOpen as t
use Rattle.elan_types.specs.declared.core_phrase.Action.TheOpen.{Action-F, Actual-F, PlacePhrase-F, ValuePhrase-F, Arm-F, ValueArm-F}
use Rattle.elan_types.specs.declared.core_phrase.Action.TheFolds.{fold-Actual, fold-PlacePhrase, fold-Arm, fold-ValueArm, ind-Action, ind-ValuePhrase}
use Rattle.elan_types.specs.declared.core_phrase.Action.TheFolds.{map-Action, map-Actual, map-PlacePhrase}
use Rattle.elan_types.specs.declared.core_phrase.Action.TheFolds.{map-ValuePhrase, map-Arm, map-ValueArm, fold-roll-Action, fold-roll-Actual}
use Rattle.elan_types.specs.declared.core_phrase.Action.TheFolds.{fold-roll-PlacePhrase, fold-roll-ValuePhrase, fold-roll-Arm, fold-roll-ValueArm}
use Rattle.elan_types.specs.Typing as typing
use Rattle.elan_types.specs.Typing.{Outside, Typed, Home, has, has_if_written, have, all_agree, all_true, Taken, take_all, given_as, begins, starts, frame_here}
use Rattle.elan_types.specs.Typing.{formal, request_formals, place_kinds, place_kinds_step}
use Rattle.elan_types.specs.Typing.{phrase_shape, is_typed, value_kind_step, value_arm_kind_step, actual_kind_step, action_typed_step, arm_typed_step}
use Rattle.elan_types.specs.Eval.{Run, Place, Passed, Labelled, bind, stored, turns, holds, branch, counted, all, values, selected, while_true, until_true, turn, go_on}
use Rattle.elan_types.specs.Eval.{act, value, action_step, actual_step, place_step, value_step, arm_step, value_arm_step}
use Rattle.place_gen.specs.Stretch.{Stretch, none, join, stays, turns_code, store_code, all_code, arm_code, select_code, while_code, until_code, turn_code}
use Rattle.place_gen.specs.Stretch.{counted_code, action_code, actual_code, place_code, value_code, action_code_step, actual_code_step, place_code_step}
use Rattle.place_gen.specs.Stretch.{value_code_step, arm_code_step}
use Rattle.place_gen.specs.Stretch.{value_arm_code_step, arm_code_of, value_arm_code}
use Rattle.place_gen.specs.Layouts.{parameter_kind}
use Rattle.place_gen.proofs.Cells.{Uses}
use Rattle.place_gen.proofs.Carry.{Any, OfShape}
use Rattle.place_gen.proofs.Forms.{Is, IsValue, IsAction, AllOf, pushed, keep, no_more, nothing_is, then_is, number_is, truth_is, text_is, load_is}
use Rattle.place_gen.proofs.Forms.{IsPlace, IsPlaceOf, variable_is, packet_is, local_is, parameter_is, item_is, field_is, shape_place, pick_is, take_is, store_is, no_values_are, more_values_are, apply_is}
use Rattle.place_gen.proofs.Choices.{if_is, IsChoice, otherwise_is, arm_is, select_is, unit_is, modify_is, error_stop_is}
use Rattle.place_gen.proofs.Calls.{IsActual, AreActuals, value_actual, place_actual, no_actuals_are, more_actuals_are, call_value_is, call_action_is}
use Rattle.place_gen.proofs.Calls.{refer_value_is, refer_action_is, leave_is, leave_with_is}
use Rattle.place_gen.proofs.Requests.{ask_is, answer_is}
use Rattle.place_gen.proofs.OnSpaces.{content_is, perform_is, consult_is, copy_is, bind_is}
use Rattle.place_gen.proofs.Loops.{IsExit, Under, while_none, while_some, until_none, until_some, go_on_is, turn_is, loop_is, never_is, step_is, step_to_is}
use Rattle.place_gen.proofs.Limits.{counted_none_is, counted_some_is}
use Rattle.place_gen.proofs.Homes.{Agrees, IsHome, held_use, proc_is, part_is, left_is, only_if_is, both, has_is, has_shape_is, agree_is, takes_is}
use Rattle.place_gen.proofs.PlaceKinds.{starts_is, one_starts, first_behind, held_behind, place_held_is, if_true_is, items_are, first_of_drop, row_items, part_known}
use Rattle.place_gen.proofs.Homes.{delivers_none, delivers_some, gives_none, gives_some, formals_take, without_is, with_is, none_is}

abbrev fst : {A : Type 0} {B : A → Type 0} → (a : A) × B a → A
fst x = x.0

module _ (p : Program) (outside : Outside) (bodies : List Body) (agrees : Agrees p outside bodies) (home : Home) (is_home : IsHome bodies home) where
  abbrev typed : Action → Bool
  typed = is_typed outside bodies home

  abbrev kind : ValuePhrase → Typed
  kind = phrase_shape outside bodies home

  abbrev actual_kind : Actual → Taken
  actual_kind =
      fold-Actual Bool Taken (List Kind) Typed Bool Typed (action_typed_step outside bodies home) (actual_kind_step outside bodies home)
      (place_kinds_step outside bodies home) (value_kind_step outside bodies home) (arm_typed_step outside bodies home) (value_arm_kind_step outside bodies home)

  abbrev arm_typed : Arm → Bool
  arm_typed =
      fold-Arm Bool Taken (List Kind) Typed Bool Typed (action_typed_step outside bodies home) (actual_kind_step outside bodies home)
      (place_kinds_step outside bodies home) (value_kind_step outside bodies home) (arm_typed_step outside bodies home) (value_arm_kind_step outside bodies home)

  abbrev arm_kind : ValueArm → Typed
  arm_kind =
      fold-ValueArm Bool Taken (List Kind) Typed Bool Typed (action_typed_step outside bodies home) (actual_kind_step outside bodies home)
      (place_kinds_step outside bodies home) (value_kind_step outside bodies home) (arm_typed_step outside bodies home) (value_arm_kind_step outside bodies home)

  abbrev actual_run : Actual → Run Passed
  actual_run =
      fold-Actual (Run (Unit {0})) (Run Passed) (Run Place) (Run (List Value)) (Labelled (Run (Unit {0}))) (Labelled (Run (List Value))) action_step actual_step place_step value_step arm_step
      value_arm_step

  abbrev place_run : PlacePhrase → Run Place
  place_run =
      fold-PlacePhrase (Run (Unit {0})) (Run Passed) (Run Place) (Run (List Value)) (Labelled (Run (Unit {0}))) (Labelled (Run (List Value))) action_step
      actual_step place_step value_step arm_step value_arm_step

  abbrev place_here : PlacePhrase → List Kind
  place_here = place_kinds outside bodies home

  abbrev arm_run : Arm → Labelled (Run (Unit {0}))
  arm_run =
      fold-Arm (Run (Unit {0})) (Run Passed) (Run Place) (Run (List Value)) (Labelled (Run (Unit {0}))) (Labelled (Run (List Value))) action_step actual_step place_step value_step arm_step
      value_arm_step

  abbrev value_arm_run : ValueArm → Labelled (Run (List Value))
  value_arm_run =
      fold-ValueArm (Run (Unit {0})) (Run Passed) (Run Place) (Run (List Value)) (Labelled (Run (Unit {0}))) (Labelled (Run (List Value))) action_step actual_step place_step value_step arm_step
      value_arm_step

  abbrev ValueOk : Shape → Run (List Value) → Stretch → Type 0
  ValueOk = IsValue p home

  abbrev ActionOk : Run (Unit {0}) → Stretch → Type 0
  ActionOk = IsAction p home

  abbrev Q : Action → Type 0
  Q a = typed a ≡ true → ActionOk (act a) (action_code a)

  abbrev O : Actual → Type 0
  O a = (f : Formal) → actual_kind a ≡ Some f → IsActual p home (parameter_kind f) (actual_run a) (actual_code a)

  abbrev W : PlacePhrase → Type 0
  W q = (k : Kind) (ks : List Kind) → place_here q ≡ k ∷ ks → (s : Shape) → IsPlaceOf p home (k ∷ ks) (place_run q) (place_code q s)

  abbrev P : ValuePhrase → Type 0
  P e = (u : Shape) → kind e ≡ Some u → ValueOk u (value e) (value_code e)

  pub record ArmIs {A : Type 0} (Good : Uses → A → Type 0) (push : A → List Operand → List Operand) (x : Labelled (Run A)) (f : Labelled Stretch) : Type 0 where
    pub labels : x.labels ≡ f.labels
    pub part : Is p home Good push x.part f.part

  abbrev R : Arm → Type 0
  R a = arm_typed a ≡ true → ArmIs Any no_more (arm_run a) (arm_code_of a)

  abbrev S : ValueArm → Type 0
  S a = (u : Shape) → arm_kind a ≡ Some u → ArmIs (OfShape u) keep (value_arm_run a) (value_arm_code a)

  of_shape : {x : Run (List Value)} {f : Stretch} (v u : Shape) → Some v ≡ Some u → ValueOk v x f → ValueOk u x f
  of_shape {x} {f} v u e i = let g : v ≡ u = cc in subst (λ k. ValueOk k x f) g i

  -- the place of a value of a shape
  abbrev Places : Type 0
  Places = (x : PlacePhrase) × W x

  place_is : (q : Places) (s : Shape) → starts (cell_kinds s) (place_here q.0) ≡ true → IsPlace p home s (place_run q.0) (place_code q.0 s)
  place_is q s e =
      let f = starts_is (cell_kinds s) (place_here q.0) e in
      shape_place p home (f.first ∷ f.rest) s (q.1 f.first f.rest f.is s) (subst (λ js. begins (cell_kinds s) js ≡ true) f.is f.fits)

  one_place : (q : Places) (k : Kind) → starts (k ∷ []) (place_here q.0) ≡ true → IsPlace p home (Cell k) (place_run q.0) (place_code q.0 (Cell k))
  one_place q k e = place_is q (Cell k) (one_starts k (place_here q.0) e)

  -- lists of parts
  abbrev Actions : Type 0
  Actions = List ((a : Action) × Q a)

  actions_are : (xs : Actions) → all_true (map typed (map fst xs)) ≡ true → ActionOk (all (map act (map fst xs))) (all_code (map action_code (map fst xs)))
  actions_are [] e = nothing_is p home
  actions_are (x ∷ xs) e = let f = both _ _ e in then_is p home (x.1 f.0) (actions_are xs f.1)

  values_are : (ks : List Kind) (xs : List ((e : ValuePhrase) × P e)) → have ks (map kind (map fst xs)) ≡ true
      → Is p home (AllOf ks) pushed (values (map value (map fst xs))) (all_code (map value_code (map fst xs)))
  values_are [] [] e = no_values_are p home
  values_are [] (x ∷ xs) e = let f : ⊥ = cc in absurd f
  values_are (k ∷ ks) [] e = let f : ⊥ = cc in absurd f
  values_are (k ∷ ks) (x ∷ xs) e =
      let f = both _ _ e in
      more_values_are p home k ks (value x.0) (map value (map fst xs)) (x.1 (Cell k) (has_is k _ f.0))
      (values_are ks xs f.1)

  actuals_are : (fs : List Formal) (xs : List ((a : Actual) × O a)) → take_all fs (map actual_kind (map fst xs)) ≡ true
      → AreActuals p home (map parameter_kind fs) (map actual_run (map fst xs)) (all_code (map actual_code (map fst xs)))
  actuals_are [] [] e = no_actuals_are p home
  actuals_are [] (x ∷ xs) e = let f : ⊥ = cc in absurd f
  actuals_are (f ∷ fs) [] e = let f : ⊥ = cc in absurd f
  actuals_are (f ∷ fs) (x ∷ xs) e =
      let g = both _ _ e in
      more_actuals_are p home (parameter_kind f) (map parameter_kind fs) (actual_run x.0) (map actual_run (map fst xs)) (x.1 f (takes_is f _ g.0))
      (actuals_are fs xs g.1)

  arm_choice : {A : Type 0} {Good : Uses → A → Type 0} {push : A → List Operand → List Operand} {y : ℤ → Run A} {g : Stretch} (x : Labelled (Run A))
      (f : Labelled Stretch) → ArmIs Good push x f → IsChoice p home Good push y g
      → IsChoice p home Good push (λ z n w. branch (holds x.labels z) (x.part n) (y z n) w) (arm_code f.labels f.part g)
  arm_choice {A} {Good} {push} {y} {g} x f i j =
      subst (λ ls. IsChoice p home Good push (λ z n w. branch (holds ls z) (x.part n) (y z n) w) (arm_code f.labels f.part g)) (sym i.labels)
      (arm_is p home f.labels i.part j)

  arms_are : (xs : List ((a : Arm) × R a)) (y : Run (Unit {0})) (g : Stretch) → all_true (map arm_typed (map fst xs)) ≡ true → ActionOk y g
      → IsChoice p home Any no_more (λ z. selected z (map arm_run (map fst xs)) y) (select_code (map arm_code_of (map fst xs)) g)
  arms_are [] y g e i = otherwise_is p home i
  arms_are (x ∷ xs) y g e i = let f = both _ _ e in arm_choice (arm_run x.0) (arm_code_of x.0) (x.1 f.0) (arms_are xs y g f.1 i)

  value_arms_are : (u : Shape) (xs : List ((a : ValueArm) × S a)) (y : Run (List Value)) (g : Stretch) (a : Typed) → a ≡ Some u
      → all_agree a (map arm_kind (map fst xs)) ≡ true → ValueOk u y g
      → IsChoice p home (OfShape u) keep (λ z. selected z (map value_arm_run (map fst xs)) y) (select_code (map value_arm_code (map fst xs)) g)
  value_arms_are u [] y g a h e i = otherwise_is p home i
  value_arms_are u (x ∷ xs) y g a h e i =
      let f = both _ _ e in
      arm_choice (value_arm_run x.0) (value_arm_code x.0) (x.1 u (agree_is a _ u f.0 h)) (value_arms_are u xs y g a h f.1 i)

  -- what is written of a loop
  abbrev MaybeValue : Type 0
  MaybeValue = Option ((e : ValuePhrase) × P e)

  abbrev typed_if : Kind → MaybeValue → Bool
  typed_if u a = has_if_written u (option_map kind (option_map fst a))

  abbrev all_typed : Actions → Bool
  all_typed us = all_true (map typed (map fst us))

  abbrev run_if : MaybeValue → Option (Run (List Value))
  run_if a = option_map value (option_map fst a)

  abbrev code_if : MaybeValue → Option Stretch
  code_if a = option_map value_code (option_map fst a)

  abbrev runs : Actions → Run (Unit {0})
  runs us = all (map act (map fst us))

  abbrev codes : Actions → Stretch
  codes us = all_code (map action_code (map fst us))

  while_is : (L : Uses → Type 0) (w : MaybeValue) → typed_if kinds.Truth w ≡ true → IsExit p home L (while_true (run_if w)) (while_code (code_if w))
  while_is L None e = while_none p home L
  while_is L (Some x) e = while_some p home L (x.1 (Cell kinds.Truth) (has_is kinds.Truth _ e))

  until_is : (L : Uses → Type 0) (w : MaybeValue) → typed_if kinds.Truth w ≡ true → IsExit p home L (until_true (run_if w)) (until_code (code_if w))
  until_is L None e = until_none p home L
  until_is L (Some x) e = until_some p home L (x.1 (Cell kinds.Truth) (has_is kinds.Truth _ e))

  looped_is : (w : MaybeValue) (us : Actions) (u : MaybeValue) → (typed_if kinds.Truth w && (all_typed us && typed_if kinds.Truth u)) ≡ true
      → ActionOk (λ r. turns r.turns (turn (run_if w) (runs us) (run_if u) go_on r)) (turns_code (turn_code (code_if w) (codes us) (code_if u) (stays none)))
  looped_is w us u e =
      let f = both _ _ e in
      let g = both _ _ f.1 in
      loop_is p home (turn_is p home (run_if w) (run_if u) (code_if w) (code_if u) (while_is (λ _. Unit {0}) w f.0) (actions_are us g.0)
      (until_is (λ _. Unit {0}) u g.1) (go_on_is p home (λ _. Unit {0})))

  counted_is : (q : Places) (way : Way) (limit w : MaybeValue) (us : Actions) (u : MaybeValue) → starts (kinds.Int ∷ []) (place_here q.0) ≡ true
      → typed_if kinds.Int limit ≡ true → typed_if kinds.Truth w ≡ true → all_typed us ≡ true → typed_if kinds.Truth u ≡ true
      → ActionOk (counted (place_run q.0) way (run_if limit) (turn (run_if w) (runs us) (run_if u)))
      (counted_code (place_code q.0) way (code_if limit) (turn_code (code_if w) (codes us) (code_if u)))
  counted_is q way None w us u is e ew eus eu =
      counted_none_is p home (turn (run_if w) (runs us) (run_if u)) (turn_code (code_if w) (codes us) (code_if u)) (place_run q.0) (place_code q.0) way
      (turn_is p home (run_if w) (run_if u) (code_if w) (code_if u) (while_is (λ _. Unit {0}) w ew) (actions_are us eus) (until_is (λ _. Unit {0}) u eu)
      (step_is p home (λ _. Unit {0}) (place_code q.0) (one_place q kinds.Int is)))
  counted_is q way (Some a) w us u is e ew eus eu =
      let at' = one_place q kinds.Int is in
      counted_some_is p home (turn (run_if w) (runs us) (run_if u)) (turn_code (code_if w) (codes us) (code_if u)) (place_run q.0) (place_code q.0) way at'
      (a.1 (Cell kinds.Int) (has_is kinds.Int _ e)) (λ (limit : ℤ) (fits : FitsSigned w16 limit).
      turn_is p home (run_if w) (run_if u) (code_if w) (code_if u) (while_is (Under p home limit) w ew) (actions_are us eus)
      (until_is (Under p home limit) u eu) (step_to_is p home (place_code q.0) way limit at' fits))

  counts_is : (q : Places) (from : (e : ValuePhrase) × P e) (way : Way) (limit w : MaybeValue) (us : Actions) (u : MaybeValue)
      → (starts (kinds.Int ∷ []) (place_here q.0)
      && (has kinds.Int (kind from.0) && (typed_if kinds.Int limit && (typed_if kinds.Truth w && (all_typed us && typed_if kinds.Truth u))))) ≡ true
      → ActionOk (λ r w'. bind (stored (place_run q.0) (value from.0) r w')
      (λ _. counted (place_run q.0) way (run_if limit) (turn (run_if w) (runs us) (run_if u)) r))
      (join (store_code (place_code q.0) (Cell kinds.Int) (value_code from.0))
      (counted_code (place_code q.0) way (code_if limit) (turn_code (code_if w) (codes us) (code_if u))))
  counts_is q from way limit w us u e =
      let f0 = both _ _ e in
      let f1 = both _ _ f0.1 in
      let f2 = both _ _ f1.1 in
      let f3 = both _ _ f2.1 in
      let f4 = both _ _ f3.1 in
      then_is p home (store_is p home (Cell kinds.Int) (one_place q kinds.Int f0.0) (from.1 (Cell kinds.Int) (has_is kinds.Int _ f1.0)))
      (counted_is q way limit w us u f0.0 f2.0 f3.0 f4.0 f4.1)

  -- what is known of the layer of a phrase, where its parts are known
  abbrev Known : (Type 0 → Type 0 → Type 0 → Type 0 → Type 0 → Type 0 → Type 0) → Type 0
  Known F = F ((a : Action) × Q a) ((a : Actual) × O a) ((q : PlacePhrase) × W q) ((e : ValuePhrase) × P e) ((a : Arm) × R a) ((a : ValueArm) × S a)

  abbrev bare_value : Known ValuePhrase-F → ValuePhrase-F Action Actual PlacePhrase ValuePhrase Arm ValueArm
  bare_value y = map-ValuePhrase _ _ _ _ _ _ _ _ _ _ _ _ fst fst fst fst fst fst y

  abbrev bare_place : Known PlacePhrase-F → PlacePhrase-F Action Actual PlacePhrase ValuePhrase Arm ValueArm
  bare_place y = map-PlacePhrase _ _ _ _ _ _ _ _ _ _ _ _ fst fst fst fst fst fst y

  abbrev bare_action : Known Action-F → Action-F Action Actual PlacePhrase ValuePhrase Arm ValueArm
  bare_action y = map-Action _ _ _ _ _ _ _ _ _ _ _ _ fst fst fst fst fst fst y

  value_parts : (y : Known ValuePhrase-F) (u : Shape)
      → value_kind_step outside bodies home (map-ValuePhrase _ _ _ _ _ _ _ _ _ _ _ _ typed actual_kind place_here kind arm_typed arm_kind (bare_value y)) ≡ Some u
      → ValueOk u (value_step (map-ValuePhrase _ _ _ _ _ _ _ _ _ _ _ _ act actual_run place_run value arm_run value_arm_run (bare_value y)))
      (value_code_step (map-ValuePhrase _ _ _ _ _ _ _ _ _ _ _ _ action_code actual_code place_code value_code arm_code_of value_arm_code (bare_value y)))
  value_parts (t.Number z) u e = let f = only_if_is _ _ u e in of_shape (Cell kinds.Int) u f.1 (number_is p home z (fits_in_range z f.0))
  value_parts (t.Truth b) u e = of_shape (Cell kinds.Truth) u e (truth_is p home b)
  value_parts (t.Text x) u e = let f = only_if_is _ _ u e in of_shape (Cell kinds.Text) u f.1 (text_is p home x (leb-true (length x) TEXT_BYTES f.0))
  value_parts (t.Load q v) u e =
      let f = only_if_is _ _ u e in
      of_shape v u f.1 (load_is p home v (place_is q v f.0))
  value_parts (t.Apply op es) u e =
      let f = only_if_is _ _ u e in
      of_shape (Cell (result_kind op)) u f.1
      (apply_is p home (map value (map fst es)) op (values_are (operand_kinds op) es f.0))
  value_parts (t.ValuePhrase::If c a b) u e =
      let f = only_if_is _ _ u e in
      let g = both _ _ f.0 in
      if_is p home (c.1 (Cell kinds.Truth) (has_is kinds.Truth _ g.0)) (a.1 u f.1) (b.1 u (agree_is _ _ u g.1 f.1))
  value_parts (t.ValuePhrase::Select v arms other) u e =
      let f = only_if_is _ _ u e in
      let g = both _ _ f.0 in
      select_is p home (v.1 (Cell kinds.Int) (has_is kinds.Int _ g.0)) (value_arms_are u arms (value other.0) (value_code other.0) _ f.1 g.1 (other.1 u f.1))
  value_parts (t.ValuePhrase::Unit a) u e = unit_is p home (a.1 u e)
  value_parts (t.After us a) u e = let f = only_if_is _ _ u e in then_is p home (actions_are us f.0) (a.1 u f.1)
  value_parts (t.ValuePhrase::Call q as' v) u e =
      let f = only_if_is _ _ u e in
      let g = both _ _ f.0 in
      let x = proc_is p outside bodies agrees q _ (Some v) g.0 (has_shape_is v _ g.1) in
      of_shape v u f.1 (call_value_is p home q x.entry (map parameter_kind x.parameters) x.cells v (map actual_run (map fst as'))
      (map actual_code (map fst as')) x.has x.own x.delivers (actuals_are x.parameters as' x.takes))
  value_parts (t.Never v) u e = of_shape v u e (never_is p home v)
  value_parts (t.ValuePhrase::Refer q v) u e =
      let f = only_if_is _ _ u e in
      let g = both _ _ f.0 in
      let x = part_is p outside bodies agrees q home is_home (Some v) g.0 (has_shape_is v _ g.1) in
      of_shape v u f.1 (refer_value_is p home q x.entry v x.has x.refinement x.owned x.delivers)
  value_parts (t.Pick a i items v) u e =
      let f = only_if_is _ _ u e in
      let g = both _ _ f.0 in
      let h = both _ _ g.1 in
      let size = eqb-true (length (cell_kinds v)) items.cells h.1 in
      let all = row_items items.count items.cells v size in
      of_shape v u f.1 (pick_is p home (Row items.count v) v items.count items.cells (a.1 (Row items.count v) (has_shape_is _ _ g.0))
      (i.1 (Cell kinds.Int) (has_is kinds.Int _ h.0)) all.each)
  value_parts (t.Take a part v) u e =
      let f = only_if_is _ _ u e in
      let g = part_known part v _ f.0 in
      of_shape v u f.1 (take_is p home g.whole v part.of part.before part.cells (a.1 g.whole g.is) g.parts.is)
  value_parts (t.ValuePhrase::Ask name as') u e =
      let xs = map actual_run (map fst as') in
      let f = only_if_is _ _ u e in
      let g = delivers_some name u f.1 in
      of_shape (Cell g.0) u g.2
      (answer_is p home xs name g.0 g.1 (subst (λ ks. AreActuals p home ks xs (all_code (map actual_code (map fst as'))))
      (formals_take (request_kinds name) (request_places name)) (actuals_are (request_formals name) as' f.0)))
  value_parts (t.Consult op es) u e =
      let f = only_if_is _ _ u e in
      let g = gives_some op u f.1 in
      of_shape (Cell g.0) u g.2 (consult_is p home (map value (map fst es)) op g.0 g.1 (values_are (space_operand_kinds op) es f.0))

  place_parts : (y : Known PlacePhrase-F) (k : Kind) (ks : List Kind)
      → place_kinds_step outside bodies home
      (map-PlacePhrase _ _ _ _ _ _ _ _ _ _ _ _ typed actual_kind place_here kind arm_typed arm_kind (bare_place y)) ≡ k ∷ ks → (s : Shape)
      → IsPlaceOf p home (k ∷ ks) (place_step (map-PlacePhrase _ _ _ _ _ _ _ _ _ _ _ _ act actual_run place_run value arm_run value_arm_run (bare_place y)))
      (place_code_step (map-PlacePhrase _ _ _ _ _ _ _ _ _ _ _ _ action_code actual_code place_code value_code arm_code_of value_arm_code (bare_place y)) s)
  place_parts (t.Variable x) k ks e s =
      subst (λ js. IsPlaceOf p home js (place_step (t.Variable x)) (place_code_step (t.Variable x) s)) (ap (drop x) agrees.level ∙ e)
      (variable_is p home x s k (ap (λ l. slice_get l x) agrees.level ∙ first_behind x outside.variables k ks e))
  place_parts (t.Packet x) k ks e s =
      subst (λ js. IsPlaceOf p home js (place_step (t.Packet x)) (place_code_step (t.Packet x) s)) (ap (drop x) agrees.packets ∙ e)
      (packet_is p home x s k (ap (λ l. slice_get l x) agrees.packets ∙ first_behind x outside.packets k ks e))
  place_parts (t.Local x) k ks e s =
      subst (λ js. IsPlaceOf p home js (place_step (t.Local x)) (place_code_step (t.Local x) s)) e
      (local_is p home x s k (frame_here outside bodies home) (held_behind x (frame_here outside bodies home) k ks e) (held_use p outside bodies agrees home is_home))
  place_parts (t.Parameter x) k ks e s =
      parameter_is p home x s (k ∷ ks)
      (held_use p outside bodies agrees home is_home x (typing.OfPlace (k ∷ ks)) (place_held_is (slice_get (frame_here outside bodies home) x) k ks e))
  place_parts (t.Item q a items) k ks e s =
      let f = if_true_is _ _ k ks e in
      let i = items_are items.count items.cells (place_here q.0) k ks f.1 in
      let all = i.some.first ∷ i.some.rest in
      item_is p home all items.count items.cells k ks s (q.1 i.some.first i.some.rest i.some.is s) (a.1 (Cell kinds.Int) (has_is kinds.Int _ f.0)) i.size
      (subst (λ qs. begins (joined (replicate items.count (k ∷ ks))) qs ≡ true) i.some.is i.fits)
  place_parts (t.Field q before) k ks e s =
      let i = first_of_drop before (place_here q.0) k ks e in
      field_is p home (i.first ∷ i.rest) before k ks s (q.1 i.first i.rest i.is s) (ap (drop before) (sym i.is) ∙ e)
  place_parts (t.Content q of) k ks e s =
      let f = if_true_is _ _ k ks e in
      let g = both _ _ f.0 in
      content_is p home (k ∷ ks) s (one_place q kinds.Space g.0)
      (subst (λ (js : List Kind). length js ≤ CELLS) f.1 (leb-true (length (cell_kinds of)) CELLS g.1))

  given_is : (access : Access) (a : Typed) (f : Formal) → given_as access a ≡ Some f → (u : Shape) × (a ≡ Some u) × (formal access u ≡ f)
  given_is access None f e = let g : ⊥ = cc in absurd g
  given_is access (Some u) f e = (u, refl, formal_is (formal access u) f e)
    where
      formal_is : (f g : Formal) → Some f ≡ Some g → f ≡ g
      formal_is f g e = cc

  actual_parts : (y : Known Actual-F) (f : Formal)
      → actual_kind_step outside bodies home
      (map-Actual _ _ _ _ _ _ _ _ _ _ _ _ typed actual_kind place_here kind arm_typed arm_kind (map-Actual _ _ _ _ _ _ _ _ _ _ _ _ fst fst fst fst fst fst y)) ≡ Some f
      → IsActual p home (parameter_kind f)
      (actual_step (map-Actual _ _ _ _ _ _ _ _ _ _ _ _ act actual_run place_run value arm_run value_arm_run (map-Actual _ _ _ _ _ _ _ _ _ _ _ _ fst fst fst fst fst fst y)))
      (actual_code_step (map-Actual _ _ _ _ _ _ _ _ _ _ _ _ action_code actual_code place_code value_code arm_code_of value_arm_code
      (map-Actual _ _ _ _ _ _ _ _ _ _ _ _ fst fst fst fst fst fst y)))
  actual_parts (t.Value a) f e =
      let g = given_is Const _ f e in
      subst (λ (f : Formal). IsActual p home (parameter_kind f) (actual_step (t.Value (value a.0))) (actual_code_step (t.Value (value_code a.0)))) g.2
      (value_actual p home g.0 (a.1 g.0 g.1))
  actual_parts (t.Place q v) f e =
      let g = given_is Var _ f e in
      let h = only_if_is _ _ g.0 g.1 in
      let same : v ≡ g.0 = shape_same v g.0 h.1 in
      let is = place_actual p home v (place_is q v h.0) in
      subst (λ (f : Formal). IsActual p home (parameter_kind f) (actual_step (t.Place (place_run q.0) v)) (actual_code_step (t.Place (place_code q.0) v)))
      (ap (formal Var) same ∙ g.2) is
    where
      shape_same : (u v : Shape) → Some u ≡ Some v → u ≡ v
      shape_same u v e = cc

  action_parts : (y : Known Action-F)
      → action_typed_step outside bodies home (map-Action _ _ _ _ _ _ _ _ _ _ _ _ typed actual_kind place_here kind arm_typed arm_kind (bare_action y)) ≡ true
      → ActionOk (action_step (map-Action _ _ _ _ _ _ _ _ _ _ _ _ act actual_run place_run value arm_run value_arm_run (bare_action y)))
      (action_code_step (map-Action _ _ _ _ _ _ _ _ _ _ _ _ action_code actual_code place_code value_code arm_code_of value_arm_code (bare_action y)))
  action_parts (t.Action::Unit us) e = unit_is p home (actions_are us e)
  action_parts (t.Store q u a) e =
      let f = both _ _ e in
      store_is p home u (place_is q u f.0) (a.1 u (has_shape_is u _ f.1))
  action_parts (t.Modify change q a) e =
      let f = both _ _ e in
      let k = change_kind change in
      modify_is p home change (one_place q k f.0) (a.1 (Cell k) (has_is k _ f.1))
  action_parts (t.Action::If c us vs) e =
      let f = both _ _ e in
      let g = both _ _ f.1 in
      if_is p home (c.1 (Cell kinds.Truth) (has_is kinds.Truth _ f.0)) (actions_are us g.0) (actions_are vs g.1)
  action_parts (t.Action::Select v arms us) e =
      let f = both _ _ e in
      let g = both _ _ f.1 in
      select_is p home (v.1 (Cell kinds.Int) (has_is kinds.Int _ f.0)) (arms_are arms (runs us) (codes us) g.0 (actions_are us g.1))
  action_parts (t.Loop None us None) e = looped_is None us None e
  action_parts (t.Loop None us (Some u)) e = looped_is None us (Some u) e
  action_parts (t.Loop (Some w) us None) e = looped_is (Some w) us None e
  action_parts (t.Loop (Some w) us (Some u)) e = looped_is (Some w) us (Some u) e
  action_parts (t.Count q from way None None us None) e = counts_is q from way None None us None e
  action_parts (t.Count q from way None None us (Some u)) e = counts_is q from way None None us (Some u) e
  action_parts (t.Count q from way None (Some w) us None) e = counts_is q from way None (Some w) us None e
  action_parts (t.Count q from way None (Some w) us (Some u)) e = counts_is q from way None (Some w) us (Some u) e
  action_parts (t.Count q from way (Some a) None us None) e = counts_is q from way (Some a) None us None e
  action_parts (t.Count q from way (Some a) None us (Some u)) e = counts_is q from way (Some a) None us (Some u) e
  action_parts (t.Count q from way (Some a) (Some w) us None) e = counts_is q from way (Some a) (Some w) us None e
  action_parts (t.Count q from way (Some a) (Some w) us (Some u)) e = counts_is q from way (Some a) (Some w) us (Some u) e
  action_parts (t.Action::Ask name as') e =
      let xs = map actual_run (map fst as') in
      let f = both _ _ e in
      ask_is p home xs name (delivers_none name f.1) (subst (λ ks. AreActuals p home ks xs (all_code (map actual_code (map fst as'))))
      (formals_take (request_kinds name) (request_places name)) (actuals_are (request_formals name) as' f.0))
  action_parts (t.ErrorStop a) e = error_stop_is p home (a.1 (Cell kinds.Text) (has_is kinds.Text _ e))
  action_parts (t.Action::Call q as') e =
      let g = both _ _ e in
      let x = proc_is p outside bodies agrees q _ None g.0 (none_is _ g.1) in
      call_action_is p home q x.entry (map parameter_kind x.parameters) x.cells (map actual_run (map fst as')) (map actual_code (map fst as')) x.has x.own
      x.delivers (actuals_are x.parameters as' x.takes)
  action_parts (t.Action::Refer q) e =
      let g = both _ _ e in
      let x = part_is p outside bodies agrees q home is_home None g.0 (none_is _ g.1) in
      refer_action_is p home q x.entry x.has x.refinement x.owned x.delivers
  action_parts (t.Leave x) e = leave_is p home x (left_is p outside bodies agrees x home None is_home (without_is _ e))
  action_parts (t.LeaveWith x u a) e =
      let f = both _ _ e in
      leave_with_is p home x u (left_is p outside bodies agrees x home (Some u) is_home (with_is u _ f.1)) (a.1 u (has_shape_is u _ f.0))
  action_parts (t.Perform op es) e =
      let f = both _ _ e in
      perform_is p home (map value (map fst es)) op (gives_none op f.1) (values_are (space_operand_kinds op) es f.0)
  action_parts (t.Copy q a) e =
      let f = both _ _ e in
      copy_is p home (one_place q kinds.Space f.0) (a.1 (Cell kinds.Space) (has_is kinds.Space _ f.1))
  action_parts (t.Bind q u a) e =
      let f = both _ _ e in
      bind_is p home u (one_place q kinds.Space f.0) (a.1 (Cell kinds.Space) (has_is kinds.Space _ f.1))

  arm_parts : (y : Known Arm-F)
      → arm_typed_step outside bodies home
      (map-Arm _ _ _ _ _ _ _ _ _ _ _ _ typed actual_kind place_here kind arm_typed arm_kind (map-Arm _ _ _ _ _ _ _ _ _ _ _ _ fst fst fst fst fst fst y)) ≡ true
      → ArmIs Any no_more (arm_step
      (map-Arm _ _ _ _ _ _ _ _ _ _ _ _ act actual_run place_run value arm_run value_arm_run (map-Arm _ _ _ _ _ _ _ _ _ _ _ _ fst fst fst fst fst fst y)))
      (arm_code_step (map-Arm _ _ _ _ _ _ _ _ _ _ _ _ action_code actual_code place_code value_code arm_code_of value_arm_code
      (map-Arm _ _ _ _ _ _ _ _ _ _ _ _ fst fst fst fst fst fst y)))
  arm_parts y e = record { labels = refl; part = actions_are y.units e }

  value_arm_parts : (y : Known ValueArm-F) (u : Shape)
      → value_arm_kind_step outside bodies home
      (map-ValueArm _ _ _ _ _ _ _ _ _ _ _ _ typed actual_kind place_here kind arm_typed arm_kind (map-ValueArm _ _ _ _ _ _ _ _ _ _ _ _ fst fst fst fst fst fst y)) ≡ Some u
      → ArmIs (OfShape u) keep
      (value_arm_step (map-ValueArm _ _ _ _ _ _ _ _ _ _ _ _ act actual_run place_run value arm_run value_arm_run
      (map-ValueArm _ _ _ _ _ _ _ _ _ _ _ _ fst fst fst fst fst fst y)))
      (value_arm_code_step (map-ValueArm _ _ _ _ _ _ _ _ _ _ _ _ action_code actual_code place_code value_code arm_code_of value_arm_code
      (map-ValueArm _ _ _ _ _ _ _ _ _ _ _ _ fst fst fst fst fst fst y)))
  value_arm_parts y u e = record { labels = refl; part = y.value.1 u e }

  -- each action, and each value, by induction
  pub action_is : (a : Action) → Q a
  action_is = ind-Action Q O W P R S
      (λ x y is. rw (fold-roll-Action, fold-roll-Action, fold-roll-Action, ← is) (action_parts y))
      (λ x y is. rw (fold-roll-Actual, fold-roll-Actual, fold-roll-Actual, ← is) (actual_parts y))
      (λ x y is. rw (fold-roll-PlacePhrase, fold-roll-PlacePhrase, fold-roll-PlacePhrase, ← is) (place_parts y))
      (λ x y is. rw (fold-roll-ValuePhrase, fold-roll-ValuePhrase, fold-roll-ValuePhrase, ← is) (value_parts y))
      (λ x y is. rw (fold-roll-Arm, fold-roll-Arm, fold-roll-Arm, ← is) (arm_parts y))
      (λ x y is. rw (fold-roll-ValueArm, fold-roll-ValueArm, fold-roll-ValueArm, ← is) (value_arm_parts y))

  pub value_is : (a : ValuePhrase) → P a
  value_is = ind-ValuePhrase Q O W P R S
      (λ x y is. rw (fold-roll-Action, fold-roll-Action, fold-roll-Action, ← is) (action_parts y))
      (λ x y is. rw (fold-roll-Actual, fold-roll-Actual, fold-roll-Actual, ← is) (actual_parts y))
      (λ x y is. rw (fold-roll-PlacePhrase, fold-roll-PlacePhrase, fold-roll-PlacePhrase, ← is) (place_parts y))
      (λ x y is. rw (fold-roll-ValuePhrase, fold-roll-ValuePhrase, fold-roll-ValuePhrase, ← is) (value_parts y))
      (λ x y is. rw (fold-roll-Arm, fold-roll-Arm, fold-roll-Arm, ← is) (arm_parts y))
      (λ x y is. rw (fold-roll-ValueArm, fold-roll-ValueArm, fold-roll-ValueArm, ← is) (value_arm_parts y))

  abbrev with_proof : Action → (a : Action) × Q a
  with_proof a = (a, action_is a)

  firsts : (us : List Action) → map fst (map with_proof us) ≡ us
  firsts [] = refl
  firsts (u ∷ us) = ap (λ l. u ∷ l) (firsts us)

  -- a list of actions as they stand
  pub all_are : (us : List Action) → all_true (map typed us) ≡ true → ActionOk (all (map act us)) (all_code (map action_code us))
  all_are us e =
      let same' = firsts us in
      subst (λ us. ActionOk (all (map act us)) (all_code (map action_code us))) same'
      (actions_are (map with_proof us) (subst (λ us. all_true (map typed us) ≡ true) (sym same') e))
