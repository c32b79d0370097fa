-- The tables of each well typed phrase agree along each step. One induction over the phrases, so it stands in one file.
use Rattle.std.proofs.Common.{◌≡◌, ℕ, List, [], ◌∷◌, map, length, drop, Option, Some, None, Bool, true, false, ◌&&◌, refl, sym, ap, ◌∙◌, subst, arith}
use Rattle.std.specs.Prelude.{option_map, slice_get}
use Rattle.std.proofs.lemmas.Bool.{eqb-true}
use Rattle.eu_base.specs.declared.value.Kind.{Kind}
use Rattle.eu_base.specs.declared.value.Kind.TheVariants as kinds
use Rattle.eu_base.specs.declared.shape.Shape.{Shape}
use Rattle.eu_base.specs.declared.shape.Shape.TheVariants.{Cell, Row}
use Rattle.eu_base.specs.Shapes.{cell_kinds}
use Rattle.eu_base.specs.declared.operation.Way.{Way}
use Rattle.eu_base.specs.Operations.{operand_kinds, result_kind, change_kind}
use Rattle.eu_base.specs.Requests.{request_kinds, request_places, request_result}
use Rattle.eu_base.specs.SpaceOperations.{space_operand_kinds}
use Rattle.code_form.specs.declared.operand.OperandKind.{OperandKind}
use Rattle.code_form.specs.declared.operand.OperandKind.TheVariants.{Value as OfShape}
use Rattle.code_form.specs.declared.instr.Instr.TheVariants.{Back}
use Rattle.code_form.specs.declared.code.Spot.{Spot}
use Rattle.code_form.specs.Program.{Program}
use Rattle.code_form.specs.Valid.{Next, pushed_kinds, pushed_operands, cell_value}
use Rattle.elan_types.specs.declared.core_phrase.Access.TheVariants.{Const, Var}
use Rattle.elan_types.specs.declared.core_phrase.Exit.TheVariants as exits
use Rattle.elan_types.specs.declared.core_phrase.Formal.{Formal}
use Rattle.elan_types.specs.declared.core_phrase.Body.{Body}
use Rattle.elan_types.specs.declared.core_phrase.Content.{Content}
use Rattle.elan_types.specs.declared.core_phrase.Content.TheVariants as contents
use Rattle.elan_types.specs.declared.core_phrase.PlacePhrase.{PlacePhrase}
use Rattle.elan_types.specs.declared.core_phrase.Action.{Action}
use Rattle.elan_types.specs.declared.core_phrase.Actual.{Actual}
use Rattle.elan_types.specs.declared.core_phrase.ValuePhrase.{ValuePhrase}
use Rattle.elan_types.specs.declared.core_phrase.Arm.{Arm}
use Rattle.elan_types.specs.declared.core_phrase.ValueArm.{ValueArm}
use Rattle.elan_types.specs.declared.core_phrase.Action.TheOpen as t
use Rattle.elan_types.specs.declared.core_phrase.Action.TheOpen.{Action-F, Actual-F, PlacePhrase-F, ValuePhrase-F, Arm-F, ValueArm-F}
use Rattle.elan_types.specs.declared.core_phrase.Action.TheFolds.{fold-Actual, fold-Arm, fold-ValueArm, ind-Action, ind-ValuePhrase}
use Rattle.elan_types.specs.declared.core_phrase.Action.TheFolds.{map-Action, map-Actual, map-PlacePhrase}
use Rattle.elan_types.specs.declared.core_phrase.Action.TheFolds.{map-ValuePhrase, map-Arm, map-ValueArm, fold-roll-Action, fold-roll-Actual}
use Rattle.elan_types.specs.declared.core_phrase.Action.TheFolds.{fold-roll-PlacePhrase, fold-roll-ValuePhrase, fold-roll-Arm, fold-roll-ValueArm}
use Rattle.elan_types.specs.Typing as typing
use Rattle.elan_types.specs.Typing.{Outside, Typed, Taken, Home, has, only_if, starts, frame_here, place_kinds, has_if_written, have, all_agree, all_true, take_all, given_as}
use Rattle.elan_types.specs.Typing.{phrase_shape, is_typed, value_kind_step, actual_kind_step, place_kinds_step, value_arm_kind_step, action_typed_step}
use Rattle.elan_types.specs.Typing.{arm_typed_step}
use Rattle.elan_types.specs.Typing.{is_content_typed, result_of_content, formal, request_formals}
use Rattle.place_gen.specs.Stretch.{Stretch, Exit, none, one, place_code, keeps, pushes, join, stays, all_code, select_code, while_code, until_code, turn_code}
use Rattle.place_gen.specs.Stretch.{turns_code, store_code, counted_code, action_code, actual_code, value_code, content_code, action_code_step}
use Rattle.place_gen.specs.Stretch.{actual_code_step, place_code_step, value_code_step, arm_code_step, value_arm_code_step, arm_code_of, value_arm_code}
use Rattle.place_gen.specs.Layouts.{parameter_kind}
use Rattle.place_gen.proofs.Homes.{Delivers, Agrees, IsHome, agree_is, held_cell, proc_is, part_is, left_is, only_if_is, both}
use Rattle.place_gen.proofs.PlaceKinds.{starts_is, one_starts, first_behind, held_behind, place_held_is, if_true_is, items_are, first_of_drop, row_items}
use Rattle.place_gen.proofs.PlaceKinds.{part_known}
use Rattle.place_gen.proofs.Homes.{has_is, has_shape_is, takes_is, delivers_none, delivers_some, gives_none, gives_some, formals_take, without_is, with_is, none_is}
use Rattle.place_gen.proofs.Lines.{HasAt, IsSized, join_sized}
use Rattle.place_gen.proofs.Tables.{Each, ends_good, leave_fine, Table, ValueTable, PlaceTable, ActionTable, above, none_table, join_table, mark_table, number_table}
use Rattle.place_gen.proofs.Tables.{truth_table, text_table, outer_table, packet_table, local_table, parameter_table, item_table, field_table, pick_table, take_table, load_table, store_table, modify_table, apply_table, ask_table, answer_table, error_stop_table}
use Rattle.place_gen.proofs.Tables.{content_table, perform_table, consult_table, copy_table, bind_table}
use Rattle.place_gen.proofs.Tables.{call_table, refer_table, leave_table, leave_with_table}
use Rattle.place_gen.proofs.LoopTables.{if_table, otherwise_table, arm_table, ExitTable, stays_table, while_table, until_table, step_table, AtLeastOne}
use Rattle.place_gen.proofs.LoopTables.{step_to_table, turn_table, loop_table, never_table, counted_none_table, counted_some_table}

abbrev fst : {A : Type 0} {B : A → Type 0} → (a : A) × B a → A
fst x = x.0

module _ (p : Program) (outside : Outside) (bodies : List Body) (agrees : Agrees p outside bodies) (home : Home) (is_home : IsHome bodies home) where
  abbrev T : (List OperandKind → List OperandKind) → (List OperandKind → List OperandKind) → Stretch → Type 0
  T = Table p home

  abbrev VT : Shape → Stretch → Type 0
  VT = ValueTable p home

  abbrev PT : Shape → Stretch → Type 0
  PT = PlaceTable p home

  abbrev AT : Stretch → Type 0
  AT = ActionTable p home

  abbrev typed : Action → Bool
  typed = is_typed outside bodies home

  abbrev kind : ValuePhrase → Typed
  kind = phrase_shape outside bodies home

  abbrev given : Actual → Taken
  given =
      fold-Actual Bool Taken (List Kind) Typed Bool Typed (action_typed_step outside bodies home) (actual_kind_step outside bodies home)
      (place_kinds_step outside bodies home) (value_kind_step outside bodies home) (arm_typed_step outside bodies home) (value_arm_kind_step outside bodies home)

  abbrev arm_typed : Arm → Bool
  arm_typed =
      fold-Arm Bool Taken (List Kind) Typed Bool Typed (action_typed_step outside bodies home) (actual_kind_step outside bodies home)
      (place_kinds_step outside bodies home) (value_kind_step outside bodies home) (arm_typed_step outside bodies home) (value_arm_kind_step outside bodies home)

  abbrev arm_kind : ValueArm → Typed
  arm_kind =
      fold-ValueArm Bool Taken (List Kind) Typed Bool Typed (action_typed_step outside bodies home) (actual_kind_step outside bodies home)
      (place_kinds_step outside bodies home) (value_kind_step outside bodies home) (arm_typed_step outside bodies home) (value_arm_kind_step outside bodies home)

  abbrev place_here : PlacePhrase → List Kind
  place_here = place_kinds outside bodies home

  abbrev Q : Action → Type 0
  Q a = typed a ≡ true → AT (action_code a)

  abbrev N : Actual → Type 0
  N a = (f : Formal) → given a ≡ Some f → T keeps (pushes (parameter_kind f)) (actual_code a)

  abbrev W : PlacePhrase → Type 0
  W q = (k : Kind) (ks : List Kind) → place_here q ≡ k ∷ ks → (s : Shape) → PT s (place_code q s)

  abbrev P : ValuePhrase → Type 0
  P e = (u : Shape) → kind e ≡ Some u → VT u (value_code e)

  abbrev R : Arm → Type 0
  R a = arm_typed a ≡ true → AT (arm_code_of a).part

  abbrev S : ValueArm → Type 0
  S a = (u : Shape) → arm_kind a ≡ Some u → VT u (value_arm_code a).part

  of_shape : {f : Stretch} (v u : Shape) → Some v ≡ Some u → VT v f → VT u f
  of_shape {f} v u e i = let g : v ≡ u = cc in subst (λ k. VT k f) g i

  -- the place of a value of a shape
  place_is : (q : (x : PlacePhrase) × W x) (s : Shape) → starts (cell_kinds s) (place_here q.0) ≡ true → PT s (place_code q.0 s)
  place_is q s e = let f = starts_is (cell_kinds s) (place_here q.0) e in q.1 f.first f.rest f.is s

  one_place : (q : (x : PlacePhrase) × W x) (k : Kind) → starts (k ∷ []) (place_here q.0) ≡ true → PT (Cell k) (place_code q.0 (Cell k))
  one_place q k e = place_is q (Cell k) (one_starts k (place_here q.0) e)

  -- lists of parts
  actions_are : (xs : List ((a : Action) × Q a)) → all_true (map typed (map fst xs)) ≡ true → AT (all_code (map action_code (map fst xs)))
  actions_are [] e = none_table p home keeps
  actions_are (x ∷ xs) e = let f = both _ _ e in join_table p home (x.1 f.0) (actions_are xs f.1)

  values_are : (ks : List Kind) (xs : List ((e : ValuePhrase) × P e)) → have ks (map kind (map fst xs)) ≡ true
      → T keeps (pushed_kinds ks) (all_code (map value_code (map fst xs)))
  values_are [] [] e = none_table p home keeps
  values_are [] (x ∷ xs) e = let f : ⊥ = cc in absurd f
  values_are (k ∷ ks) [] e = let f : ⊥ = cc in absurd f
  values_are (k ∷ ks) (x ∷ xs) e =
      let f = both _ _ e in
      let i = x.1 (Cell k) (has_is k _ f.0) in
      join_table p home i (above p home (pushes (cell_value k)) (values_are ks xs f.1))

  record Actuals (taken : List OperandKind) (fs : List Stretch) : Type 0 where
    pub as_many : length fs ≡ length taken
    pub table : T keeps (pushed_operands taken) (all_code fs)

  actuals_are : (fs : List Formal) (xs : List ((a : Actual) × N a)) → take_all fs (map given (map fst xs)) ≡ true
      → Actuals (map parameter_kind fs) (map actual_code (map fst xs))
  actuals_are [] [] e = record { as_many = refl; table = none_table p home keeps }
  actuals_are [] (x ∷ xs) e = let f : ⊥ = cc in absurd f
  actuals_are (k ∷ ks) [] e = let f : ⊥ = cc in absurd f
  actuals_are (k ∷ ks) (x ∷ xs) e =
      let f = both _ _ e in
      let j = actuals_are ks xs f.1 in
      let table = join_table p home (x.1 k (takes_is k _ f.0)) (above p home (pushes (parameter_kind k)) j.table) in
      record { as_many = omega (arith, j.as_many); table = table }

  arms_are : (xs : List ((a : Arm) × R a)) (g : Stretch) → all_true (map arm_typed (map fst xs)) ≡ true → AT g
      → T (pushes (cell_value kinds.Int)) keeps (select_code (map arm_code_of (map fst xs)) g)
  arms_are [] g e i = otherwise_table p home i
  arms_are (x ∷ xs) g e i = let f = both _ _ e in arm_table p home (arm_code_of x.0).labels (x.1 f.0) (arms_are xs g f.1 i)

  value_arms_are : (u : Shape) (xs : List ((a : ValueArm) × S a)) (g : Stretch) (a : Typed) → a ≡ Some u → all_agree a (map arm_kind (map fst xs)) ≡ true
      → VT u g → T (pushes (cell_value kinds.Int)) (pushes (OfShape u)) (select_code (map value_arm_code (map fst xs)) g)
  value_arms_are u [] g a h e i = otherwise_table p home i
  value_arms_are u (x ∷ xs) g a h e i =
      let f = both _ _ e in
      arm_table p home (value_arm_code x.0).labels (x.1 u (agree_is a _ u f.0 h)) (value_arms_are u xs g a h f.1 i)

  abbrev MaybeValue : Type 0
  MaybeValue = Option ((e : ValuePhrase) × P e)

  abbrev Actions : Type 0
  Actions = List ((a : Action) × Q a)

  abbrev typed_if : Kind → MaybeValue → Bool
  typed_if u a = has_if_written u (option_map kind (option_map fst a))

  abbrev all_typed : Actions → Bool
  all_typed us = all_true (map typed (map fst us))

  abbrev code_if : MaybeValue → Option Stretch
  code_if a = option_map value_code (option_map fst a)

  abbrev codes : Actions → Stretch
  codes us = all_code (map action_code (map fst us))

  while_is : (M : _) (w : MaybeValue) → typed_if kinds.Truth w ≡ true → ExitTable p home M (while_code (code_if w))
  while_is M None e = stays_table p home M (none_table p home keeps)
  while_is M (Some x) e = while_table p home M (x.1 (Cell kinds.Truth) (has_is kinds.Truth _ e))

  until_is : (M : _) (w : MaybeValue) → typed_if kinds.Truth w ≡ true → ExitTable p home M (until_code (code_if w))
  until_is M None e = stays_table p home M (none_table p home keeps)
  until_is M (Some x) e = until_table p home M (x.1 (Cell kinds.Truth) (has_is kinds.Truth _ e))

  turn_is' : (M : _) (w : MaybeValue) (us : Actions) (u : MaybeValue) (s : Exit) → typed_if kinds.Truth w ≡ true → all_typed us ≡ true
      → typed_if kinds.Truth u ≡ true → ExitTable p home M s → ExitTable p home M (turn_code (code_if w) (codes us) (code_if u) s)
  turn_is' M w us u s ew eus eu step = turn_table p home (code_if w) (code_if u) (while_is M w ew) (actions_are us eus) (until_is M u eu) step

  looped_is : (w : MaybeValue) (us : Actions) (u : MaybeValue) → (typed_if kinds.Truth w && (all_typed us && typed_if kinds.Truth u)) ≡ true
      → AT (turns_code (turn_code (code_if w) (codes us) (code_if u) (stays none)))
  looped_is w us u e =
      let f = both _ _ e in
      let g = both _ _ f.1 in
      loop_table p home (turn_is' (λ _. Unit {0}) w us u (stays none) f.0 g.0 g.1 (stays_table p home (λ _. Unit {0}) (none_table p home keeps)))

  abbrev Places : Type 0
  Places = (x : PlacePhrase) × W x

  counted_is : (q : Places) (way : Way) (limit w : MaybeValue) (us : Actions) (u : MaybeValue) → starts (kinds.Int ∷ []) (place_here q.0) ≡ true
      → typed_if kinds.Int limit ≡ true → typed_if kinds.Truth w ≡ true → all_typed us ≡ true → typed_if kinds.Truth u ≡ true
      → AT (counted_code (place_code q.0) way (code_if limit) (turn_code (code_if w) (codes us) (code_if u)))
  counted_is q way None w us u is e ew eus eu =
      counted_none_table p home (turn_code (code_if w) (codes us) (code_if u)) (place_code q.0) way
      (turn_is' (λ _. Unit {0}) w us u _ ew eus eu (step_table p home (λ _. Unit {0}) (place_code q.0) (one_place q kinds.Int is)))
  counted_is q way (Some a) w us u is e ew eus eu =
      let place = one_place q kinds.Int is in
      counted_some_table p home (turn_code (code_if w) (codes us) (code_if u)) (place_code q.0) way place (a.1 (Cell kinds.Int) (has_is kinds.Int _ e))
      (turn_is' (AtLeastOne p home) w us u _ ew eus eu (step_to_table p home (place_code q.0) way place))

  counts_is : (q : Places) (from : (e : ValuePhrase) × P e) (way : Way) (limit w : MaybeValue) (us : Actions) (u : MaybeValue)
      → (starts (kinds.Int ∷ []) (place_here q.0)
      && (has kinds.Int (kind from.0) && (typed_if kinds.Int limit && (typed_if kinds.Truth w && (all_typed us && typed_if kinds.Truth u))))) ≡ true
      → AT (join (store_code (place_code q.0) (Cell kinds.Int) (value_code from.0))
      (counted_code (place_code q.0) way (code_if limit) (turn_code (code_if w) (codes us) (code_if u))))
  counts_is q from way limit w us u e =
      let f0 = both _ _ e in
      let f1 = both _ _ f0.1 in
      let f2 = both _ _ f1.1 in
      let f3 = both _ _ f2.1 in
      let f4 = both _ _ f3.1 in
      join_table p home (store_table p home (Cell kinds.Int) (one_place q kinds.Int f0.0) (from.1 (Cell kinds.Int) (has_is kinds.Int _ f1.0)))
      (counted_is q way limit w us u f0.0 f2.0 f3.0 f4.0 f4.1)

  abbrev VLayer : Type 0
  VLayer = ValuePhrase-F ((a : Action) × Q a) ((a : Actual) × N a) ((q : PlacePhrase) × W q) ((e : ValuePhrase) × P e) ((a : Arm) × R a) ((a : ValueArm) × S a)

  value_parts : (y : VLayer) (u : Shape)
      → value_kind_step outside bodies home
      (map-ValuePhrase _ _ _ _ _ _ _ _ _ _ _ _ typed given place_here kind arm_typed arm_kind (map-ValuePhrase _ _ _ _ _ _ _ _ _ _ _ _ fst fst fst fst fst fst y)) ≡ Some u
      → VT u (value_code_step
      (map-ValuePhrase _ _ _ _ _ _ _ _ _ _ _ _ action_code actual_code place_code value_code arm_code_of value_arm_code
      (map-ValuePhrase _ _ _ _ _ _ _ _ _ _ _ _ fst fst fst fst fst fst y)))
  value_parts (t.Number z) u e = let f = only_if_is _ _ u e in of_shape (Cell kinds.Int) u f.1 (number_table p home z)
  value_parts (t.Truth b) u e = of_shape (Cell kinds.Truth) u e (truth_table p home b)
  value_parts (t.Text x) u e = let f = only_if_is _ _ u e in of_shape (Cell kinds.Text) u f.1 (text_table p home x)
  value_parts (t.Load q v) u e =
      let f = only_if_is _ _ u e in
      of_shape v u f.1 (load_table p home v (place_is q v f.0))
  value_parts (t.Apply op es) u e =
      let f = only_if_is _ _ u e in
      of_shape (Cell (result_kind op)) u f.1 (apply_table p home op (values_are (operand_kinds op) es f.0))
  value_parts (t.ValuePhrase::If c a b) u e =
      let f = only_if_is _ _ u e in
      let g = both _ _ f.0 in
      if_table p home (c.1 (Cell kinds.Truth) (has_is kinds.Truth _ g.0)) (a.1 u f.1) (b.1 u (agree_is _ _ u g.1 f.1))
  value_parts (t.ValuePhrase::Select v arms other) u e =
      let f = only_if_is _ _ u e in
      let g = both _ _ f.0 in
      join_table p home (v.1 (Cell kinds.Int) (has_is kinds.Int _ g.0)) (value_arms_are u arms (value_code other.0) _ f.1 g.1 (other.1 u f.1))
  value_parts (t.ValuePhrase::Unit a) u e = join_table p home (mark_table p home) (a.1 u e)
  value_parts (t.After us a) u e = let f = only_if_is _ _ u e in join_table p home (actions_are us f.0) (a.1 u f.1)
  value_parts (t.ValuePhrase::Call q as' v) u e =
      let f = only_if_is _ _ u e in
      let g = both _ _ f.0 in
      let i = proc_is p outside bodies agrees q _ (Some v) g.0 (has_shape_is v _ g.1) in
      let j = actuals_are i.parameters as' i.takes in
      of_shape v u f.1 (call_table p home q i.entry (map parameter_kind i.parameters) i.cells (Some v) (map actual_code (map fst as')) i.has i.own
      i.delivers j.as_many j.table)
  value_parts (t.Never v) u e = of_shape v u e (never_table p home v)
  value_parts (t.ValuePhrase::Refer q v) u e =
      let f = only_if_is _ _ u e in
      let g = both _ _ f.0 in
      let i = part_is p outside bodies agrees q home is_home (Some v) g.0 (has_shape_is v _ g.1) in
      of_shape v u f.1 (refer_table p home q i.entry (Some v) i.has i.refinement i.owned i.delivers)
  value_parts (t.Pick a i items v) u e =
      let f = only_if_is _ _ u e in
      let g = both _ _ f.0 in
      let h = both _ _ g.1 in
      let size = eqb-true (length (cell_kinds v)) items.cells h.1 in
      of_shape v u f.1 (pick_table p home (Row items.count v) v items.count items.cells (a.1 (Row items.count v) (has_shape_is _ _ g.0))
      (i.1 (Cell kinds.Int) (has_is kinds.Int _ h.0)) (row_items items.count items.cells v size))
  value_parts (t.Take a part v) u e =
      let f = only_if_is _ _ u e in
      let g = part_known part v _ f.0 in
      of_shape v u f.1 (take_table p home g.whole v part.of part.before part.cells (a.1 g.whole g.is) g.parts)
  value_parts (t.ValuePhrase::Ask name as') u e =
      let f = only_if_is _ _ u e in
      let g = delivers_some name u f.1 in
      let j = actuals_are (request_formals name) as' f.0 in
      of_shape (Cell g.0) u g.2
      (answer_table p home name g.0 g.1 (subst (λ ks. T keeps (pushed_operands ks) (all_code (map actual_code (map fst as'))))
      (formals_take (request_kinds name) (request_places name)) j.table))
  value_parts (t.Consult op es) u e =
      let f = only_if_is _ _ u e in
      let g = gives_some op u f.1 in
      of_shape (Cell g.0) u g.2 (consult_table p home op g.0 g.1 (values_are (space_operand_kinds op) es f.0))

  abbrev WLayer : Type 0
  WLayer = PlacePhrase-F ((a : Action) × Q a) ((a : Actual) × N a) ((q : PlacePhrase) × W q) ((e : ValuePhrase) × P e) ((a : Arm) × R a) ((a : ValueArm) × S a)

  place_parts : (y : WLayer) (k : Kind) (ks : List Kind)
      → place_kinds_step outside bodies home
      (map-PlacePhrase _ _ _ _ _ _ _ _ _ _ _ _ typed given place_here kind arm_typed arm_kind (map-PlacePhrase _ _ _ _ _ _ _ _ _ _ _ _ fst fst fst fst fst fst y)) ≡ k ∷ ks
      → (s : Shape) → PT s (place_code_step
      (map-PlacePhrase _ _ _ _ _ _ _ _ _ _ _ _ action_code actual_code place_code value_code arm_code_of value_arm_code
      (map-PlacePhrase _ _ _ _ _ _ _ _ _ _ _ _ fst fst fst fst fst fst y)) s)
  place_parts (t.Packet x) k ks e s = packet_table p home x s k (ap (λ l. slice_get l x) agrees.packets ∙ first_behind x outside.packets k ks e)
  place_parts (t.Variable x) k ks e s = outer_table p home x s k (ap (λ l. slice_get l x) agrees.level ∙ first_behind x outside.variables k ks e)
  place_parts (t.Local x) k ks e s =
      local_table p home x s k (held_cell p outside bodies agrees home is_home x (typing.OfKind k) (held_behind x (frame_here outside bodies home) k ks e))
  place_parts (t.Parameter x) k ks e s =
      parameter_table p home x s
      (held_cell p outside bodies agrees home is_home x (typing.OfPlace (k ∷ ks)) (place_held_is (slice_get (frame_here outside bodies home) x) k ks e))
  place_parts (t.Item q a items) k ks e s =
      let f = if_true_is _ _ k ks e in
      let i = items_are items.count items.cells (place_here q.0) k ks f.1 in
      item_table p home items.count items.cells s (q.1 i.some.first i.some.rest i.some.is s) (a.1 (Cell kinds.Int) (has_is kinds.Int _ f.0))
  place_parts (t.Field q before) k ks e s =
      let i = first_of_drop before (place_here q.0) k ks e in
      field_table p home before s (q.1 i.first i.rest i.is s)
  place_parts (t.Content q of) k ks e s =
      let f = if_true_is _ _ k ks e in
      let g = both _ _ f.0 in
      content_table p home s (one_place q kinds.Space g.0)

  abbrev NLayer : Type 0
  NLayer = Actual-F ((a : Action) × Q a) ((a : Actual) × N a) ((q : PlacePhrase) × W q) ((e : ValuePhrase) × P e) ((a : Arm) × R a) ((a : ValueArm) × S a)

  actual_parts : (y : NLayer) (f : Formal)
      → actual_kind_step outside bodies home
      (map-Actual _ _ _ _ _ _ _ _ _ _ _ _ typed given place_here kind arm_typed arm_kind (map-Actual _ _ _ _ _ _ _ _ _ _ _ _ fst fst fst fst fst fst y)) ≡ Some f
      → T keeps (pushes (parameter_kind f))
      (actual_code_step (map-Actual _ _ _ _ _ _ _ _ _ _ _ _ action_code actual_code place_code value_code arm_code_of value_arm_code
      (map-Actual _ _ _ _ _ _ _ _ _ _ _ _ fst fst fst fst fst fst y)))
  actual_parts (t.Value a) f e = value_given a (kind a.0) refl f e
    where
      value_given : (a : (e : ValuePhrase) × P e) (o : Typed) → kind a.0 ≡ o → (f : Formal) → given_as Const o ≡ Some f
          → T keeps (pushes (parameter_kind f)) (value_code a.0)
      value_given a None is f e = let g : ⊥ = cc in absurd g
      value_given a (Some u) is f e =
          let g : formal Const u ≡ f = cc in subst (λ f. T keeps (pushes (parameter_kind f)) (value_code a.0)) g (a.1 u is)
  actual_parts (t.Place q u) f e = place_given (starts (cell_kinds u) (place_here q.0)) refl f e
    where
      place_given : (b : Bool) → starts (cell_kinds u) (place_here q.0) ≡ b → (f : Formal) → given_as Var (only_if b (Some u)) ≡ Some f
          → T keeps (pushes (parameter_kind f)) (place_code q.0 u)
      place_given false is f e = let g : ⊥ = cc in absurd g
      place_given true is f e =
          let g : formal Var u ≡ f = cc in
          subst (λ f. T keeps (pushes (parameter_kind f)) (place_code q.0 u)) g (place_is q u is)

  abbrev ALayer : Type 0
  ALayer = Action-F ((a : Action) × Q a) ((a : Actual) × N a) ((q : PlacePhrase) × W q) ((e : ValuePhrase) × P e) ((a : Arm) × R a) ((a : ValueArm) × S a)

  action_parts : (y : ALayer)
      → action_typed_step outside bodies home
      (map-Action _ _ _ _ _ _ _ _ _ _ _ _ typed given place_here kind arm_typed arm_kind (map-Action _ _ _ _ _ _ _ _ _ _ _ _ fst fst fst fst fst fst y)) ≡ true
      → AT (action_code_step (map-Action _ _ _ _ _ _ _ _ _ _ _ _ action_code actual_code place_code value_code arm_code_of value_arm_code
      (map-Action _ _ _ _ _ _ _ _ _ _ _ _ fst fst fst fst fst fst y)))
  action_parts (t.Action::Unit us) e = join_table p home (mark_table p home) (actions_are us e)
  action_parts (t.Store q u a) e =
      let f = both _ _ e in
      store_table p home u (place_is q u f.0) (a.1 u (has_shape_is u _ f.1))
  action_parts (t.Modify change q a) e =
      let f = both _ _ e in
      let k = change_kind change in
      modify_table p home change (one_place q k f.0) (a.1 (Cell k) (has_is k _ f.1))
  action_parts (t.Action::If c us vs) e =
      let f = both _ _ e in
      let g = both _ _ f.1 in
      if_table p home (c.1 (Cell kinds.Truth) (has_is kinds.Truth _ f.0)) (actions_are us g.0) (actions_are vs g.1)
  action_parts (t.Action::Select v arms us) e =
      let f = both _ _ e in
      let g = both _ _ f.1 in
      join_table p home (v.1 (Cell kinds.Int) (has_is kinds.Int _ f.0)) (arms_are arms (all_code (map action_code (map fst us))) g.0 (actions_are us g.1))
  action_parts (t.Loop None us None) e = looped_is None us None e
  action_parts (t.Loop None us (Some u)) e = looped_is None us (Some u) e
  action_parts (t.Loop (Some w) us None) e = looped_is (Some w) us None e
  action_parts (t.Loop (Some w) us (Some u)) e = looped_is (Some w) us (Some u) e
  action_parts (t.Count q from way None None us None) e = counts_is q from way None None us None e
  action_parts (t.Count q from way None None us (Some u)) e = counts_is q from way None None us (Some u) e
  action_parts (t.Count q from way None (Some w) us None) e = counts_is q from way None (Some w) us None e
  action_parts (t.Count q from way None (Some w) us (Some u)) e = counts_is q from way None (Some w) us (Some u) e
  action_parts (t.Count q from way (Some a) None us None) e = counts_is q from way (Some a) None us None e
  action_parts (t.Count q from way (Some a) None us (Some u)) e = counts_is q from way (Some a) None us (Some u) e
  action_parts (t.Count q from way (Some a) (Some w) us None) e = counts_is q from way (Some a) (Some w) us None e
  action_parts (t.Count q from way (Some a) (Some w) us (Some u)) e = counts_is q from way (Some a) (Some w) us (Some u) e
  action_parts (t.Action::Ask name as') e =
      let f = both _ _ e in
      let j = actuals_are (request_formals name) as' f.0 in
      ask_table p home name (delivers_none name f.1) (subst (λ ks. T keeps (pushed_operands ks) (all_code (map actual_code (map fst as'))))
      (formals_take (request_kinds name) (request_places name)) j.table)
  action_parts (t.ErrorStop a) e = error_stop_table p home (a.1 (Cell kinds.Text) (has_is kinds.Text _ e))
  action_parts (t.Action::Call q as') e =
      let g = both _ _ e in
      let i = proc_is p outside bodies agrees q _ None g.0 (none_is _ g.1) in
      let j = actuals_are i.parameters as' i.takes in
      call_table p home q i.entry (map parameter_kind i.parameters) i.cells None (map actual_code (map fst as')) i.has i.own i.delivers j.as_many j.table
  action_parts (t.Action::Refer q) e =
      let g = both _ _ e in
      let i = part_is p outside bodies agrees q home is_home None g.0 (none_is _ g.1) in
      refer_table p home q i.entry None i.has i.refinement i.owned i.delivers
  action_parts (t.Leave x) e = leave_table p home x (left_is p outside bodies agrees x home None is_home (without_is _ e))
  action_parts (t.LeaveWith x u a) e =
      let f = both _ _ e in
      leave_with_table p home x u (left_is p outside bodies agrees x home (Some u) is_home (with_is u _ f.1)) (a.1 u (has_shape_is u _ f.0))
  action_parts (t.Perform op es) e =
      let f = both _ _ e in
      perform_table p home op (gives_none op f.1) (values_are (space_operand_kinds op) es f.0)
  action_parts (t.Copy q a) e =
      let f = both _ _ e in
      copy_table p home (one_place q kinds.Space f.0) (a.1 (Cell kinds.Space) (has_is kinds.Space _ f.1))
  action_parts (t.Bind q u a) e =
      let f = both _ _ e in
      bind_table p home u (one_place q kinds.Space f.0) (a.1 (Cell kinds.Space) (has_is kinds.Space _ f.1))

  arm_parts : (y : Arm-F ((a : Action) × Q a) ((a : Actual) × N a) ((q : PlacePhrase) × W q) ((e : ValuePhrase) × P e) ((a : Arm) × R a) ((a : ValueArm) × S a))
      → arm_typed_step outside bodies home
      (map-Arm _ _ _ _ _ _ _ _ _ _ _ _ typed given place_here kind arm_typed arm_kind (map-Arm _ _ _ _ _ _ _ _ _ _ _ _ fst fst fst fst fst fst y)) ≡ true
      → AT (arm_code_step (map-Arm _ _ _ _ _ _ _ _ _ _ _ _ action_code actual_code place_code value_code arm_code_of value_arm_code
      (map-Arm _ _ _ _ _ _ _ _ _ _ _ _ fst fst fst fst fst fst y))).part
  arm_parts y e = actions_are y.units e

  value_arm_parts : (y : ValueArm-F ((a : Action) × Q a) ((a : Actual) × N a) ((q : PlacePhrase) × W q) ((e : ValuePhrase) × P e) ((a : Arm) × R a) ((a : ValueArm) × S a)) (u : Shape)
      → value_arm_kind_step outside bodies home
      (map-ValueArm _ _ _ _ _ _ _ _ _ _ _ _ typed given place_here kind arm_typed arm_kind (map-ValueArm _ _ _ _ _ _ _ _ _ _ _ _ fst fst fst fst fst fst y)) ≡ Some u
      → VT u (value_arm_code_step
      (map-ValueArm _ _ _ _ _ _ _ _ _ _ _ _ action_code actual_code place_code value_code arm_code_of value_arm_code
      (map-ValueArm _ _ _ _ _ _ _ _ _ _ _ _ fst fst fst fst fst fst y))).part
  value_arm_parts y u e = y.value.1 u e

  -- each action and each value, by induction
  pub action_is : (a : Action) → Q a
  action_is = ind-Action Q N W P R S
      (λ x y is. rw (fold-roll-Action, fold-roll-Action, ← is) (action_parts y))
      (λ x y is. rw (fold-roll-Actual, fold-roll-Actual, ← is) (actual_parts y))
      (λ x y is. rw (fold-roll-PlacePhrase, fold-roll-PlacePhrase, ← is) (place_parts y))
      (λ x y is. rw (fold-roll-ValuePhrase, fold-roll-ValuePhrase, ← is) (value_parts y))
      (λ x y is. rw (fold-roll-Arm, fold-roll-Arm, ← is) (arm_parts y))
      (λ x y is. rw (fold-roll-ValueArm, fold-roll-ValueArm, ← is) (value_arm_parts y))

  pub value_is : (e : ValuePhrase) → P e
  value_is = ind-ValuePhrase Q N W P R S
      (λ x y is. rw (fold-roll-Action, fold-roll-Action, ← is) (action_parts y))
      (λ x y is. rw (fold-roll-Actual, fold-roll-Actual, ← is) (actual_parts y))
      (λ x y is. rw (fold-roll-PlacePhrase, fold-roll-PlacePhrase, ← is) (place_parts y))
      (λ x y is. rw (fold-roll-ValuePhrase, fold-roll-ValuePhrase, ← is) (value_parts y))
      (λ x y is. rw (fold-roll-Arm, fold-roll-Arm, ← is) (arm_parts y))
      (λ x y is. rw (fold-roll-ValueArm, fold-roll-ValueArm, ← is) (value_arm_parts y))

  abbrev with_proof : Action → (a : Action) × Q a
  with_proof a = (a, action_is a)

  firsts : (us : List Action) → map fst (map with_proof us) ≡ us
  firsts [] = refl
  firsts (u ∷ us) = ap (λ l. u ∷ l) (firsts us)

  -- a list of actions as they stand
  pub all_are : (us : List Action) → all_true (map typed us) ≡ true → AT (all_code (map action_code us))
  all_are us e =
      let same = firsts us in
      subst (λ us. AT (all_code (map action_code us))) same (actions_are (map with_proof us) (subst (λ us. all_true (map typed us) ≡ true) (sym same) e))

  -- what a body does, and the instruction that leaves it
  pub record IsGood (f : Stretch) : Type 0 where
    pub sized : IsSized f
    pub good : (pc : ℕ) (m : Spot) → m.body ≡ home → HasAt p.lines pc (f.lines [] m pc) → Next p.lines pc [] m × Each p pc (f.lines [] m pc)

  pub content_is : (c : Content) → is_content_typed outside bodies home c ≡ true → Delivers p home (result_of_content c)
      → IsGood (content_code c)
  content_is (contents.Units us) e left =
      let i = all_are us e in
      record {
        sized = join_sized (all_code (map action_code us)) (one (Back None) keeps) i.sized (λ ks m pc. refl);
        good = λ pc m is has. ends_good p home (Back None) keeps i pc [] m is (λ q. leave_fine p home exits.Body None left q [] m is tt) has;
      }
  content_is (contents.Value u a) e left =
      let i = value_is a u (has_shape_is u _ e) in
      record {
        sized = join_sized (value_code a) (one (Back (Some u)) (drop 1)) i.sized (λ ks m pc. refl);
        good =
            λ pc m is has. ends_good p home (Back (Some u)) (drop 1) i pc [] m is
            (λ q. leave_fine p home exits.Body (Some u) left q (OfShape u ∷ []) m is ([], refl)) has;
      }
