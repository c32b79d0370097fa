-- Each phrase goes on alike.
use Rattle.std.proofs.Common.{◌≡◌, ℕ, zero, suc, ◌+◌, ◌-◌, ◌≤◌, Bool, true, false, not, List, [], ◌∷◌, ◌++◌, map, length, take, drop, ◌*◌, Option, Some, None, refl, ap, ◌∙◌, subst, arith}
use Rattle.std.specs.Prelude.{ℤ, pos, Ok, Err, slice_get, option_map}
use Rattle.std.proofs.lemmas.Option.{same_Some}
use Rattle.std.specs.List.{AllByRecursion}
use Rattle.eu_base.specs.declared.address.Area.{Area}
use Rattle.eu_base.specs.declared.address.Area.TheVariants as areas
use Rattle.eu_base.specs.declared.value.Kind.{Kind}
use Rattle.eu_base.specs.declared.value.Kind.TheVariants as kinds
use Rattle.eu_base.specs.declared.shape.Shape.{Shape}
use Rattle.eu_base.specs.declared.value.Value.{Value}
use Rattle.eu_base.specs.declared.value.Value.TheVariants.{Int, Truth, Text, Space}
use Rattle.eu_base.specs.declared.stop.Stop.TheVariants.{Index, CellRoom, OperandRoom, TextRoom, NoSpace, Own}
use Rattle.eu_base.specs.declared.request.RequestName.{RequestName}
use Rattle.eu_base.specs.declared.request.RequestName.TheVariants as names
use Rattle.eu_base.specs.declared.request.Reply.{Reply}
use Rattle.eu_base.specs.declared.operation.Change.{Change}
use Rattle.eu_base.specs.declared.operation.Change.TheVariants.{Increase}
use Rattle.eu_base.specs.declared.operation.Way.{Way}
use Rattle.eu_base.specs.Values.{SpaceNo, number_of, truth_of, text_of, space_of, kind_of}
use Rattle.eu_base.specs.DataSpaces.{Spaces, heads_of, SpaceChange, spaces_after}
use Rattle.eu_base.specs.SpaceOperations.{Plan, planned, copy_plan, bind_plan, forgetting}
use Rattle.eu_base.specs.SpacePlaces.{is_in}
use Rattle.eu_base.specs.Shapes.{cell_kinds}
use Rattle.eu_base.specs.Room.{values_bytes, values_blocks, place_bytes, cells_fit, bytes_fit, texts_fit}
use Rattle.eu_base.specs.Operations.{Given, result_of, change_kind, changed, is_past, has_reached, next_number, in_row}
use Rattle.eu_base.specs.Requests.{Answer, request_kinds, is_message, sends, request_of, read_as, answer_of, message_values}
use Rattle.elan_types.specs.declared.core_phrase.Content.{Content}
use Rattle.elan_types.specs.declared.core_phrase.Content.TheVariants as contents
use Rattle.elan_types.specs.declared.core_phrase.ValuePhrase.{ValuePhrase}
use Rattle.elan_types.specs.declared.core_phrase.Actual.{Actual}
use Rattle.elan_types.specs.declared.core_phrase.PlacePhrase.{PlacePhrase}
use Rattle.elan_types.specs.declared.core_phrase.Arm.{Arm}
use Rattle.elan_types.specs.declared.core_phrase.ValueArm.{ValueArm}
use Rattle.elan_types.specs.declared.core_phrase.Action.{Action}
use Rattle.elan_types.specs.declared.core_phrase.Action.TheOpen as t
use Rattle.elan_types.specs.declared.core_phrase.Action.TheOpen.{Action-F, PlacePhrase-F, Actual-F, ValuePhrase-F, Arm-F, ValueArm-F}
use Rattle.elan_types.specs.declared.core_phrase.Action.TheFolds.{fold-Actual, fold-PlacePhrase, fold-Arm, fold-ValueArm, ind-Action, ind-ValuePhrase}
use Rattle.elan_types.specs.declared.core_phrase.Action.TheFolds.{map-Action, map-Actual, map-PlacePhrase, map-ValuePhrase, map-Arm, map-ValueArm}
use Rattle.elan_types.specs.declared.core_phrase.Action.TheFolds.{fold-roll-Action, fold-roll-Actual, fold-roll-PlacePhrase, fold-roll-ValuePhrase, fold-roll-Arm, fold-roll-ValueArm}
use Rattle.elan_types.specs.Eval.{Slot, Taken, World, Place, Outcome, Gives, Left, Stopped, OutOfMarks, Asks, bind, spend_at, spend, branch, changed_by, ask_at, or_stop, or_outside, slots_in, is_there, fetch, fetch_all, beyond, the, assign, stored_in, stored_in_space}
use Rattle.elan_types.specs.Eval.{store_blocks, if_there, load, load_all, save, Calls, Reach, Run, holding, holding_place, Passed, AsValue, AsPlace, holding_passed, value_given, all_slots, deliver, deliver_place, with_room, cut, all, values, actuals, Labelled, holds, selected, turns}
use Rattle.elan_types.specs.Eval.{while_true, until_true, then_on, done, turn, go_on, without_held, keep, receive_at, receive, settle, with_sent, ask_for, request, request_value, modify, step, step_from, step_to, limited, counted, forever, stored, or_refused, consult, copy_into, bind_to, content_of, delivered, part_of}
use Rattle.elan_types.specs.Eval.{action_step, actual_step, place_step, value_step, arm_step, value_arm_step, value, act, content}
use Rattle.elan_types.specs.Eval as eval
use Rattle.turn_laws.proofs.Going.{IsOwn, One, loose, Late, Two, Goes, up, gives, leaves, stops, reads, reads_world, branches, sets, bind_one, binds, spend_one, spend_late, spends, spends_below, lower, loosely, asks}

abbrev fst : {A : Type 0} {B : A → Type 0} → (a : A) × B a → A
fst x = x.0

-- a request of a program asks for no answer
own_request : (name : RequestName) (vs : List Value) → IsOwn (request_of name vs)
own_request names.PutNumber vs = tt
own_request names.PutText vs = tt
own_request names.Write vs = tt
own_request names.PutLine vs = tt
own_request names.Line vs = tt
own_request names.GetNumber vs = tt
own_request names.GetText vs = tt
own_request names.GetLine vs = tt
own_request names.Myself vs = tt
own_request names.Father vs = tt
own_request names.FatherOf vs = tt
own_request names.Son vs = tt
own_request names.Brother vs = tt
own_request names.Named vs = tt
own_request names.NameOf vs = tt
own_request names.Exists vs = tt
own_request (names.Begin start) vs = tt
own_request names.EndOf vs = tt
own_request names.End vs = tt
own_request names.Break vs = tt
own_request names.Send vs = tt
own_request names.Wait vs = tt
own_request names.Call vs = tt

module _ (k : ℕ) (ex : Option Answer) (b : ℕ) where
  abbrev G : {A : Type 0} → ℕ → (World → Outcome A) → (World → Outcome A) → Type 0
  G d f g = Goes k ex b d f g

  or_stops : {A : Type 0} (d : ℕ) (x : Given) (go go' : Value → World → Outcome A) → ((v : Value) → Goes k ex b d (go v) (go' v))
      → Goes k ex b d (or_stop x go) (or_stop x go')
  or_stops d (Ok v) go go' h = h v
  or_stops d (Err s) go go' h = stops k ex b d s

  outsides : {A : Type 0} (o : Option ℕ) (go go' : ℕ → World → Outcome A) → ((n : ℕ) → Goes k ex b 0 (go n) (go' n))
      → Goes k ex b 0 (or_outside o go) (or_outside o go')
  outsides (Some n) go go' h = h n
  outsides None go go' h = stops k ex b 0 Index

  -- the data spaces change
  changes : {A : Type 0} (d : ℕ) (c : Spaces → List SpaceChange) (go go' : World → Outcome A) → Goes k ex b d go go'
      → Goes k ex b d (λ w. go (changed_by (c w.spaces) w)) (λ w. go' (changed_by (c w.spaces) w))
  changes d c go go' h = sets k ex b d (λ s p x. s) (λ s p x. p) (λ s p x. spaces_after (c x) x) go go' h

  theres : {A : Type 0} (d : ℕ) (ks : List Kind) (x : Place) (go go' : World → Outcome A) → Goes k ex b d go go'
      → Goes k ex b d (if_there ks x go) (if_there ks x go')
  theres d ks x go go' h =
      reads k ex b d (λ s p sp. is_in ks x.area x.variable (heads_of sp)) (λ c. branch c go (Stopped NoSpace)) (λ c. branch c go' (Stopped NoSpace))
      (λ c. branches k ex b d c go (Stopped NoSpace) go' (Stopped NoSpace) h (stops k ex b d NoSpace))

  slots_same : (a : Area) (w : World) → slots_in a (up k ex w) ≡ slots_in a w
  slots_same areas.Run w = refl
  slots_same areas.Packets w = refl
  slots_same (areas.Space s) w = refl

  fetch_same : (x : Place) (w : World) → fetch x (up k ex w) ≡ fetch x w
  fetch_same x w = ap (λ (s : List Slot). eval.value_of (eval.slot_at s x.variable)) (slots_same x.area w)

  fetch_all_same : (ks : List Kind) (x : Place) (w : World) → fetch_all ks x (up k ex w) ≡ fetch_all ks x w
  fetch_all_same [] x w = refl
  fetch_all_same (ki ∷ ks) x w =
      ap (λ (v : Value). v ∷ fetch_all ks (beyond x 1) (up k ex w)) (fetch_same x w)
      ∙ ap (λ (vs : List Value). fetch x w ∷ vs) (fetch_all_same ks (beyond x 1) w)

  loads : {A : Type 0} (d : ℕ) (ki : Kind) (x : Place) (go go' : Value → World → Outcome A) → ((v : Value) → Goes k ex b d (go v) (go' v))
      → Goes k ex b d (load ki x go) (load ki x go')
  loads d ki x go go' h =
      theres d (ki ∷ []) x (λ w. go (fetch x w) w) (λ w. go' (fetch x w) w) (reads_world k ex b d (fetch x) go go' (fetch_same x) h)

  loads_all : {A : Type 0} (ks : List Kind) (x : Place) (go go' : List Value → World → Outcome A) → ((v : List Value) → Goes k ex b 0 (go v) (go' v))
      → Goes k ex b 0 (load_all ks x go) (load_all ks x go')
  loads_all ks x go go' h =
      theres 0 ks x (λ w. go (fetch_all ks x w) w) (λ w. go' (fetch_all ks x w) w) (reads_world k ex b 0 (fetch_all ks x) go go' (fetch_all_same ks x) h)

  assigns : {A : Type 0} (d : ℕ) (x : Place) (vs : List Value) (go go' : World → Outcome A) → Goes k ex b d go go'
      → Goes k ex b d (λ w. go (assign x vs w)) (λ w. go' (assign x vs w))
  assigns d x vs go go' h =
      sets k ex b d (λ s p sp. stored_in areas.Run x vs s) (λ s p sp. stored_in areas.Packets x vs p) (λ s p sp. stored_in_space x.area x.variable vs sp) go go' h

  saves : {A : Type 0} (x : Place) (vs : List Value) (go go' : World → Outcome A) → Goes k ex b 0 go go' → Goes k ex b 0 (save x vs go) (save x vs go')
  saves x vs go go' h =
      theres 0 (map kind_of vs) x
      (λ w. branch (texts_fit (values_blocks vs) (store_blocks (slots_in x.area (assign x vs w)))) (λ w. go (assign x vs w)) (Stopped TextRoom) w)
      (λ w. branch (texts_fit (values_blocks vs) (store_blocks (slots_in x.area (assign x vs w)))) (λ w. go' (assign x vs w)) (Stopped TextRoom) w)
      (reads_world k ex b 0 (λ w. texts_fit (values_blocks vs) (store_blocks (slots_in x.area (assign x vs w))))
      (λ c. branch c (λ w. go (assign x vs w)) (Stopped TextRoom)) (λ c. branch c (λ w. go' (assign x vs w)) (Stopped TextRoom))
      (λ w. ap (λ (s : List Slot). texts_fit (values_blocks vs) (store_blocks s)) (slots_same x.area (assign x vs w)))
      (λ c.
      branches k ex b 0 c (λ w. go (assign x vs w)) (Stopped TextRoom) (λ w. go' (assign x vs w)) (Stopped TextRoom) (assigns 0 x vs go go' h)
      (stops k ex b 0 TextRoom)))

  pub rooms : {A : Type 0} (more : List Slot) (go go' : World → Outcome A) → Goes k ex b 0 go go' → Goes k ex b 0 (with_room more go) (with_room more go')
  rooms more go go' h =
      reads k ex b {V = Bool × Bool} 0 (λ s p sp. (cells_fit (length s + length more), texts_fit (store_blocks more) (store_blocks (s ++ more))))
      (λ c. branch c.0 (branch c.1 (λ w. go (record w { store = w.store ++ more })) (Stopped TextRoom)) (Stopped CellRoom))
      (λ c. branch c.0 (branch c.1 (λ w. go' (record w { store = w.store ++ more })) (Stopped TextRoom)) (Stopped CellRoom))
      (λ c.
      branches k ex b 0 c.0 _ (Stopped CellRoom) _ (Stopped CellRoom)
      (branches k ex b 0 c.1 (λ w. go (record w { store = w.store ++ more })) (Stopped TextRoom) (λ w. go' (record w { store = w.store ++ more })) (Stopped TextRoom)
      (sets k ex b 0 (λ s p sp. s ++ more) (λ s p sp. p) (λ s p sp. sp) go go' h) (stops k ex b 0 TextRoom))
      (stops k ex b 0 CellRoom))

  -- ---- requests

  keeps : (as' : List Passed) (v : Value) → Goes k ex b 0 (keep as' v) (keep as' v)
  keeps (AsPlace x ∷ as') v = saves x (v ∷ []) (Gives tt) (Gives tt) (gives k ex b 0 tt)
  keeps (AsValue vs ∷ as') v = gives k ex b 0 tt
  keeps [] v = gives k ex b 0 tt

  forgets : {A : Type 0} (held : Option SpaceNo) (go go' : World → Outcome A) → Goes k ex b 0 go go'
      → Goes k ex b 0 (λ w. go (without_held held w)) (λ w. go' (without_held held w))
  forgets held go go' h = changes 0 (λ sp. forgetting held (heads_of sp)) go go' h

  receives_at : {A : Type 0} (o : Option Passed) (v : Value) (go go' : World → Outcome A) → Goes k ex b 0 go go'
      → Goes k ex b 0 (receive_at o v go) (receive_at o v go')
  receives_at (Some (AsPlace x)) v go go' h =
      loads 0 (kind_of v) x (λ held w. go (without_held (space_of held) (assign x (v ∷ []) w))) (λ held w. go' (without_held (space_of held) (assign x (v ∷ []) w)))
      (λ held.
      assigns 0 x (v ∷ []) (λ w. go (without_held (space_of held) w)) (λ w. go' (without_held (space_of held) w)) (forgets (space_of held) go go' h))
  receives_at (Some (AsValue vs)) v go go' h = h
  receives_at None v go go' h = h

  receives : (as' : List Passed) (es : List (ℕ × Value)) → Goes k ex b 0 (receive as' es) (receive as' es)
  receives as' [] = gives k ex b 0 tt
  receives as' (e ∷ es) = receives_at (slice_get as' e.0) e.1 (receive as' es) (receive as' es) (receives as' es)

  settles : (name : RequestName) (as' : List Passed) (r : Reply) → Goes k ex b 0 (settle name as' r) (settle name as' r)
  settles name as' r =
      reads k ex b 0 (λ s p sp. sp.last)
      (λ last. branch (is_message name) (receive as' (message_values name r (record { 0 = last }))) (or_stop (read_as name r) (keep as')))
      (λ last. branch (is_message name) (receive as' (message_values name r (record { 0 = last }))) (or_stop (read_as name r) (keep as')))
      (λ last.
      branches k ex b 0 (is_message name) _ (or_stop (read_as name r) (keep as')) _ (or_stop (read_as name r) (keep as'))
      (receives as' (message_values name r (record { 0 = last })))
      (or_stops 0 (read_as name r) (keep as') (keep as') (λ v. keeps as' v)))

  sents : {A : Type 0} (vs : List Value) (as' : List Passed) (go go' : List Value → World → Outcome A) → ((us : List Value) → Goes k ex b 1 (go us) (go' us))
      → Goes k ex b 1 (with_sent vs as' go) (with_sent vs as' go')
  sents vs (AsPlace x ∷ as') go go' h = loads 1 kinds.Space x (λ v. go (v ∷ vs)) (λ v. go' (v ∷ vs)) (λ v. h (v ∷ vs))
  sents vs (AsValue us ∷ as') go go' h = stops k ex b 1 NoSpace
  sents vs [] go go' h = stops k ex b 1 NoSpace

  asks_for : {A : Type 0} (name : RequestName) (vs : List Value) (as' : List Passed) (go go' : Reply → World → Outcome A)
      → ((r : Reply) → Goes k ex b 0 (go r) (go' r)) → Goes k ex b 0 (ask_for name vs as' go) (ask_for name vs as' go')
  asks_for name vs as' go go' h =
      branches k ex b 0 (sends name) _ _ _ _
      (spends k ex b (with_sent vs as' (λ us w. ask_at w.replies (request_of name us) w go)) (with_sent vs as' (λ us w. ask_at w.replies (request_of name us) w go'))
      (sents vs as' (λ us w. ask_at w.replies (request_of name us) w go) (λ us w. ask_at w.replies (request_of name us) w go')
      (λ us. asks k ex b go go' h (request_of name us) (own_request name us))))
      (spends k ex b (λ w. ask_at w.replies (request_of name vs) w go) (λ w. ask_at w.replies (request_of name vs) w go')
      (asks k ex b go go' h (request_of name vs) (own_request name vs)))

  requests_go : (name : RequestName) (as' : List Passed) → Goes k ex b 0 (request name as') (request name as')
  requests_go name as' =
      asks_for name (map value_given as') (drop (length (request_kinds name)) as') (settle name (drop (length (request_kinds name)) as'))
      (settle name (drop (length (request_kinds name)) as')) (λ r. settles name (drop (length (request_kinds name)) as') r)

  -- ---- changes of variables

  modifies : {A : Type 0} (c : Change) (x : Place) (v : Value) (a : A) → Goes k ex b 0 (modify c x v a) (modify c x v a)
  modifies c x v a =
      loads 0 (change_kind c) x (λ y. or_stop (changed c y v) (λ z. save x (z ∷ []) (Gives a))) (λ y. or_stop (changed c y v) (λ z. save x (z ∷ []) (Gives a)))
      (λ y.
      or_stops 0 (changed c y v) (λ z. save x (z ∷ []) (Gives a)) (λ z. save x (z ∷ []) (Gives a))
      (λ z. saves x (z ∷ []) (Gives a) (Gives a) (gives k ex b 0 a)))

  refuses : {A B : Type 0} (plan : Plan A) (go go' : A → World → Outcome B) → ((a : A) → Goes k ex b 0 (go a) (go' a))
      → Goes k ex b 0 (or_refused plan go) (or_refused plan go')
  refuses (Ok plan) go go' h = changes 0 (λ sp. plan.1) (go plan.0) (go' plan.0) (h plan.0)
  refuses (Err s) go go' h = stops k ex b 0 s

  copies : (x : Place) (v : Value) → Goes k ex b 0 (copy_into x v) (copy_into x v)
  copies x v =
      loads 0 kinds.Space x then' then'
      (λ held.
      reads k ex b 0 (λ s p sp. copy_plan None (space_of v) (heads_of sp)) (λ plan. or_refused plan (ends held)) (λ plan. or_refused plan (ends held))
      (λ plan.
      refuses plan (ends held) (ends held)
      (λ s.
      assigns 0 x (Space (Some s) ∷ []) (λ w. Gives tt (without_held (space_of held) w)) (λ w. Gives tt (without_held (space_of held) w))
      (forgets (space_of held) (Gives tt) (Gives tt) (gives k ex b 0 tt)))))
    where
      ends : Value → SpaceNo → World → Outcome (Unit {0})
      ends held s w = Gives tt (without_held (space_of held) (assign x (Space (Some s) ∷ []) w))

      then' : Value → World → Outcome (Unit {0})
      then' held w =
          or_refused (copy_plan None (space_of v) (heads_of w.spaces)) (λ s w. Gives tt (without_held (space_of held) (assign x (Space (Some s) ∷ []) w))) w

  binds_to : (x : Place) (shape : Shape) (v : Value) → Goes k ex b 0 (bind_to x shape v) (bind_to x shape v)
  binds_to x shape v =
      theres 0 (kinds.Space ∷ []) x inner inner
      (branches k ex b 0 (cells_fit (length (cell_kinds shape))) _ (Stopped CellRoom) _ (Stopped CellRoom)
      (reads k ex b 0 (λ s p sp. bind_plan shape (space_of v) (heads_of sp)) (λ plan. or_refused plan ends) (λ plan. or_refused plan ends)
      (λ plan. refuses plan ends ends (λ s. assigns 0 x (Space (Some s) ∷ []) (Gives tt) (Gives tt) (gives k ex b 0 tt))))
      (stops k ex b 0 CellRoom))
    where
      ends : SpaceNo → World → Outcome (Unit {0})
      ends s w = Gives tt (assign x (Space (Some s) ∷ []) w)

      inner : World → Outcome (Unit {0})
      inner =
          branch (cells_fit (length (cell_kinds shape)))
          (λ w. or_refused (bind_plan shape (space_of v) (heads_of w.spaces)) (λ s w. Gives tt (assign x (Space (Some s) ∷ []) w)) w)
          (Stopped CellRoom)

-- ---- turns of a loop

module _ (k : ℕ) (ex : Option Answer) where
  abbrev body : ℕ → (World → Outcome Bool) → World → Outcome (Unit {0})
  body n turn w = bind (turn w) (λ on. branch on (turns n turn) (Gives tt))

  body_one : (n : ℕ) (turn : World → Outcome Bool) → ((w : World) → One 0 w (turn w)) → ((w : World) → One 0 w (turns n turn w)) → (w : World)
      → One 1 w (bind (turn w) (λ on. branch on (turns n turn) (Gives tt)))
  body_one n turn h rest w =
      loose w (bind (turn w) (λ on. branch on (turns n turn) (Gives tt)))
      (bind_one k ex 0 w (turn w) (λ on. branch on (turns n turn) (Gives tt)) by (h w))
    where
      by : (on : Bool) (v : World) → One 0 v (branch on (turns n turn) (Gives tt) v)
      by true v = rest v
      by false v = (gives k ex 0 0 tt).one v

  turns_one : (n : ℕ) (turn : World → Outcome Bool) → ((w : World) → One 0 w (turn w)) → (w : World) → One 0 w (turns n turn w)
  turns_one zero turn h w = record { falls = omega arith; later = λ none. tt }
  turns_one (suc n) turn h w =
      spend_one k ex 0 (λ w. bind (turn w) (λ on. branch on (turns n turn) (Gives tt))) (body_one n turn h (turns_one n turn h)) w w.marks refl

  -- no mark is left
  spent_two : (f : World → Outcome (Unit {0})) (w v : World) (n : ℕ) → n ≤ 0 → Two k ex (spend_at n w f) (OutOfMarks v)
  spent_two f w v zero low = tt
  spent_two f w v (suc n) low = absurd (omega (arith, low))

  turns_late : (n : ℕ) (turn : World → Outcome Bool) → ((w : World) → One 0 w (turn w)) → (w : World) → w.marks ≤ k → Late k (turns n turn w)
  turns_late zero turn h w low = tt
  turns_late (suc n) turn h w low =
      spend_late k ex 0 (λ w. bind (turn w) (λ on. branch on (turns n turn) (Gives tt))) (body_one n turn h (turns_one n turn h)) w w.marks low

  module _ (turn turn' : World → Outcome Bool) where
    turns_two : (n n' b : ℕ) → b ≤ n → b + k ≤ n' → Goes k ex b 0 turn turn' → (w : World) → w.marks ≤ b → Two k ex (turns n turn w) (turns n' turn' (up k ex w))
    turns_two zero n' b le far h w low = turns_late n' turn' h.other (up k ex w) (omega (arith, low, le))
    turns_two (suc n) zero b le far h w low =
        spent_two (λ w. bind (turn w) (λ on. branch on (turns n turn) (Gives tt))) w (up k ex w) w.marks (omega (arith, low, far))
    turns_two (suc n) (suc n') b le far h w low =
        (spends_below k ex b (λ w. bind (turn w) (λ on. branch on (turns n turn) (Gives tt))) (λ w. bind (turn' w) (λ on. branch on (turns n' turn') (Gives tt)))
        (body_one n turn h.one (turns_one n turn h.one)) (body_one n' turn' h.other (turns_one n' turn' h.other))
        (λ m less v few.
        (binds k ex m turn turn' (λ on. branch on (turns n turn) (Gives tt)) (λ on. branch on (turns n' turn') (Gives tt))
        (lower k ex b m 0 turn turn' (omega (arith, less)) h)
        (λ on.
        branches k ex m 0 on (turns n turn) (Gives tt) (turns n' turn') (Gives tt)
        (record {
          one = turns_one n turn h.one;
          other = turns_one n' turn' h.other;
          two = λ x fewer.
              turns_two n n' m (omega (arith, less, le)) (omega (arith, less, far)) (lower k ex b m 0 turn turn' (omega (arith, less)) h) x fewer;
        })
        (gives k ex m 0 tt))).two v few)).two w low

    pub turns_go : (n n' b : ℕ) → b ≤ n → b + k ≤ n' → Goes k ex b 0 turn turn' → Goes k ex b 0 (turns n turn) (turns n' turn')
    turns_go n n' b le far h = record {
      one = turns_one n turn h.one;
      other = turns_one n' turn' h.other;
      two = λ w low. turns_two n n' b le far h w low;
    }

-- ---- phrases

-- what calls do goes on alike
pub record CallsGo (k : ℕ) (ex : Option Answer) (b : ℕ) (c c' : Calls) : Type 0 where
  pub call : (p : ℕ) (xs : List Slot) (held : ℕ) → Goes k ex b 0 (c.call p xs held) (c'.call p xs held)
  pub refer : (p base held : ℕ) → Goes k ex b 0 (c.refer p base held) (c'.refer p base held)

module _ (k : ℕ) (ex : Option Answer) (b : ℕ) (c c' : Calls) (calls : CallsGo k ex b c c') (most most' : ℕ) (le : b ≤ most) (far : b + k ≤ most') where
  abbrev near : ℕ → ℕ → Reach
  near base held = record { calls = c; turns = most; base = base; held = held }

  abbrev far_off : ℕ → ℕ → Reach
  far_off base held = record { calls = c'; turns = most'; base = base; held = held }

  abbrev pub Good : {A : Type 0} → Run A → Type 0
  Good f = (base held : ℕ) → Goes k ex b 0 (f (near base held)) (f (far_off base held))

  good_gives : {A : Type 0} (a : A) → Goes k ex b 0 (Gives a) (Gives a)
  good_gives a = gives k ex b 0 a

  delivers : (vs : List Value) → Good (deliver vs)
  delivers vs base held =
      branches k ex b 0 (bytes_fit (values_bytes vs + held)) (Gives vs) (Stopped OperandRoom) (Gives vs) (Stopped OperandRoom) (gives k ex b 0 vs)
      (stops k ex b 0 OperandRoom)

  delivers_place : (x : Place) → Good (deliver_place x)
  delivers_place x base held =
      branches k ex b 0 (bytes_fit (place_bytes + held)) (Gives x) (Stopped OperandRoom) (Gives x) (Stopped OperandRoom) (gives k ex b 0 x)
      (stops k ex b 0 OperandRoom)

  -- one phrase, and what follows it
  thens : {A B : Type 0} (f : Run A) (go : A → Run B) → Good f → ((a : A) → Good (go a)) → Good (λ n w. bind (f n w) (λ a. go a n))
  thens f go h i base held =
      binds k ex b (f (near base held)) (f (far_off base held)) (λ a. go a (near base held)) (λ a. go a (far_off base held)) (h base held)
      (λ a. i a base held)

  -- with more pending
  under_place : {A : Type 0} (f : Run A) → Good f → Good (λ n. f (holding_place n))
  under_place f h base held = h base (place_bytes + held)

  under_value : {A : Type 0} (vs : List Value) (f : Run A) → Good f → Good (λ n. f (holding vs n))
  under_value vs f h base held = h base (values_bytes vs + held)

  under_passed : {A : Type 0} (x : Passed) (f : Run A) → Good f → Good (λ n. f (holding_passed x n))
  under_passed (AsValue vs) f h base held = h base (values_bytes vs + held)
  under_passed (AsPlace x) f h base held = h base (place_bytes + held)

  alls : (fs : List (Run (Unit {0}))) → AllByRecursion Good fs → Good (all fs)
  alls [] h = λ base held. gives k ex b 0 tt
  alls (f ∷ fs) h = thens f (λ _. all fs) h.0 (λ _. alls fs h.1)

  all_values : (fs : List (Run (List Value))) → AllByRecursion Good fs → Good (values fs)
  all_values [] h = λ base held. gives k ex b 0 []
  all_values (f ∷ fs) h =
      thens f (λ vs n w. bind (values fs (holding vs n) w) (λ us. Gives (the vs ∷ us))) h.0
      (λ vs.
      thens (λ n. values fs (holding vs n)) (λ us n. Gives (the vs ∷ us)) (under_value vs (values fs) (all_values fs h.1)) (λ us base held. gives k ex b 0 (the vs ∷ us)))

  all_actuals : (fs : List (Run Passed)) → AllByRecursion Good fs → Good (actuals fs)
  all_actuals [] h = λ base held. gives k ex b 0 []
  all_actuals (f ∷ fs) h =
      thens f (λ x n w. bind (actuals fs (holding_passed x n) w) (λ xs. Gives (x ∷ xs))) h.0
      (λ x.
      thens (λ n. actuals fs (holding_passed x n)) (λ xs n. Gives (x ∷ xs)) (under_passed x (actuals fs) (all_actuals fs h.1)) (λ xs base held. gives k ex b 0 (x ∷ xs)))

  selects : {A : Type 0} (z : ℤ) (arms : List (Labelled (Run A))) (other : Run A) → AllByRecursion (λ (arm : Labelled (Run A)). Good arm.part) arms → Good other
      → Good (selected z arms other)
  selects z [] other h o base held = o base held
  selects z (arm ∷ arms) other h o base held =
      branches k ex b 0 (holds arm.labels z) (arm.part (near base held)) (selected z arms other (near base held)) (arm.part (far_off base held))
      (selected z arms other (far_off base held)) (h.0 base held) (selects z arms other h.1 o base held)

  branches_of : {A : Type 0} (t : Bool) (f g : Run A) → Good f → Good g → Good (λ n. branch t (f n) (g n))
  branches_of t f g h i base held =
      branches k ex b 0 t (f (near base held)) (g (near base held)) (f (far_off base held)) (g (far_off base held)) (h base held) (i base held)

  spends_of : {A : Type 0} (f : Run A) → Good f → Good (λ n. spend (f n))
  spends_of f h base held =
      spends k ex b (f (near base held)) (f (far_off base held)) (loosely k ex b (f (near base held)) (f (far_off base held)) (h base held))

  -- ---- loops

  whiles : (a : Option (Run (List Value))) → ((f : Run (List Value)) → a ≡ Some f → Good f) → Good (while_true a)
  whiles None h = λ base held. gives k ex b 0 true
  whiles (Some f) h = thens f (λ vs n. Gives (truth_of (the vs))) (h f refl) (λ vs base held. gives k ex b 0 (truth_of (the vs)))

  untils : (a : Option (Run (List Value))) → ((f : Run (List Value)) → a ≡ Some f → Good f) → Good (until_true a)
  untils None h = λ base held. gives k ex b 0 true
  untils (Some f) h = thens f (λ vs n. Gives (not (truth_of (the vs)))) (h f refl) (λ vs base held. gives k ex b 0 (not (truth_of (the vs))))

  then_ons : (f g : Run Bool) → Good f → Good g → Good (then_on f g)
  then_ons f g h i = thens f (λ on n. branch on (g n) (Gives false)) h (λ on. branches_of on g (λ n. Gives false) i (λ base held. gives k ex b 0 false))

  dones : (a : Run (Unit {0})) → Good a → Good (done a)
  dones a h = thens a (λ _ n. Gives true) h (λ _ base held. gives k ex b 0 true)

  turn_goes : (w' u' : Option (Run (List Value))) (units : Run (Unit {0})) (st : Run Bool) → ((f : Run (List Value)) → w' ≡ Some f → Good f)
      → ((f : Run (List Value)) → u' ≡ Some f → Good f) → Good units → Good st → Good (turn w' units u' st)
  turn_goes w' u' units st h i j s =
      then_ons (while_true w') (then_on (done units) (then_on (until_true u') st)) (whiles w' h)
      (then_ons (done units) (then_on (until_true u') st) (dones units j) (then_ons (until_true u') st (untils u' i) s))

  loops : (f : Run Bool) → Good f → Good (λ n. turns n.turns (f n))
  loops f h base held = turns_go k ex (f (near base held)) (f (far_off base held)) most most' b le far (h base held)

  go_ons : Good go_on
  go_ons base held = gives k ex b 0 true

  forevers : Good forever
  forevers = loops go_on go_ons

  stores : (p : Run Place) (a : Run (List Value)) → Good p → Good a → Good (stored p a)
  stores p a h i =
      thens p (λ x n w. bind (a (holding_place n) w) (λ vs w. save x vs (Gives tt) w)) h
      (λ x.
      thens (λ n. a (holding_place n)) (λ vs n. save x vs (Gives tt)) (under_place a i)
      (λ vs base held. saves k ex b x vs (Gives tt) (Gives tt) (gives k ex b 0 tt)))

  steps : (p : Run Place) → Good p → Good (step p)
  steps p h =
      thens p (λ x n w. bind (deliver (Int (pos 1) ∷ []) (holding_place n) w) (λ vs. modify Increase x (the vs) true)) h
      (λ x.
      thens (λ n. deliver (Int (pos 1) ∷ []) (holding_place n)) (λ vs n. modify Increase x (the vs) true)
      (under_place (deliver (Int (pos 1) ∷ [])) (delivers (Int (pos 1) ∷ []))) (λ vs base held. modifies k ex b Increase x (the vs) true))

  steps_from : (x : Place) (way : Way) (limit z : ℤ) → Goes k ex b 0 (step_from x way limit z) (step_from x way limit z)
  steps_from x way limit z =
      branches k ex b 0 (has_reached way limit z) (Gives false) _ (Gives false) _ (gives k ex b 0 false)
      (saves k ex b x (Int (next_number way z) ∷ []) (Gives true) (Gives true) (gives k ex b 0 true))

  steps_to : (p : Run Place) (way : Way) (limit : ℤ) → Good p → Good (step_to p way limit)
  steps_to p way limit h =
      thens p (λ x n. load kinds.Int x (λ v. step_from x way limit (number_of v))) h
      (λ x base held.
      loads k ex b 0 kinds.Int x (λ v. step_from x way limit (number_of v)) (λ v. step_from x way limit (number_of v))
      (λ v. steps_from x way limit (number_of v)))

  limits : (x : Place) (way : Way) (limit : ℤ) (f : Run Bool) → Good f → Good (limited x way limit f)
  limits x way limit f h base held =
      rooms k ex b (Taken ∷ []) _ _
      (binds k ex b _ _ (λ _ w. Gives tt (cut (length w.store - 1) w)) (λ _ w. Gives tt (cut (length w.store - 1) w))
      (loads k ex b 0 kinds.Int x (λ v. branch (is_past way limit (number_of v)) (Gives tt) (turns most (f (near base held))))
      (λ v. branch (is_past way limit (number_of v)) (Gives tt) (turns most' (f (far_off base held))))
      (λ v.
      branches k ex b 0 (is_past way limit (number_of v)) (Gives tt) (turns most (f (near base held))) (Gives tt) (turns most' (f (far_off base held)))
      (gives k ex b 0 tt) (loops f h base held)))
      (λ _. sets k ex b 0 (λ s p sp. take (length s - 1) s) (λ s p sp. p) (λ s p sp. sp) (Gives tt) (Gives tt) (gives k ex b 0 tt)))

  counts : (p : Run Place) (way : Way) (limit : Option (Run (List Value))) (tn : Run Bool → Run Bool) → Good p
      → ((f : Run (List Value)) → limit ≡ Some f → Good f) → ((f : Run Bool) → Good f → Good (tn f)) → Good (counted p way limit tn)
  counts p way None tn h i j = loops (tn (step p)) (j (step p) (steps p h))
  counts p way (Some a) tn h i j =
      thens p (λ x n w. bind (a (holding_place n) w) (λ vs w. limited x way (number_of (the vs)) (tn (step_to p way (number_of (the vs)))) n w)) h
      (λ x.
      thens (λ n. a (holding_place n)) (λ vs n. limited x way (number_of (the vs)) (tn (step_to p way (number_of (the vs)))) n) (under_place a (i a refl))
      (λ vs.
      limits x way (number_of (the vs)) (tn (step_to p way (number_of (the vs))))
      (j (step_to p way (number_of (the vs))) (steps_to p way (number_of (the vs)) h))))

  -- ---- data spaces

  consults : (plan : Plan (Option Value)) → Good (consult plan)
  consults (Ok plan) base held =
      binds k ex b (deliver (eval.answer plan.0) (near base held)) (deliver (eval.answer plan.0) (far_off base held)) (λ vs w. Gives vs (changed_by plan.1 w))
      (λ vs w. Gives vs (changed_by plan.1 w)) (delivers (eval.answer plan.0) base held)
      (λ vs. changes k ex b 0 (λ sp. plan.1) (Gives vs) (Gives vs) (gives k ex b 0 vs))
  consults (Err s) base held = stops k ex b 0 s

  -- ---- each phrase, where its parts go on alike

  abbrev Q : Action → Type 0
  Q a = Good (act a)

  abbrev passed : Actual → Run Passed
  passed =
      fold-Actual (Run (Unit {0})) (Run Passed) (Run Place) (Run (List Value)) (Labelled (Run (Unit {0}))) (Labelled (Run (List Value)))
      action_step actual_step place_step value_step arm_step value_arm_step

  abbrev place_of_phrase : PlacePhrase → Run Place
  place_of_phrase =
      fold-PlacePhrase (Run (Unit {0})) (Run Passed) (Run Place) (Run (List Value)) (Labelled (Run (Unit {0}))) (Labelled (Run (List Value)))
      action_step actual_step place_step value_step arm_step value_arm_step

  abbrev arm_of : Arm → Labelled (Run (Unit {0}))
  arm_of =
      fold-Arm (Run (Unit {0})) (Run Passed) (Run Place) (Run (List Value)) (Labelled (Run (Unit {0}))) (Labelled (Run (List Value)))
      action_step actual_step place_step value_step arm_step value_arm_step

  abbrev value_arm_of : ValueArm → Labelled (Run (List Value))
  value_arm_of =
      fold-ValueArm (Run (Unit {0})) (Run Passed) (Run Place) (Run (List Value)) (Labelled (Run (Unit {0}))) (Labelled (Run (List Value)))
      action_step actual_step place_step value_step arm_step value_arm_step

  abbrev N : Actual → Type 0
  N a = Good (passed a)

  abbrev W : PlacePhrase → Type 0
  W p = Good (place_of_phrase p)

  abbrev P : ValuePhrase → Type 0
  P e = Good (value e)

  abbrev R : Arm → Type 0
  R a = Good (arm_of a).part

  abbrev S : ValueArm → Type 0
  S a = Good (value_arm_of a).part

  abbrev Parts : (Type 0 → Type 0 → Type 0 → Type 0 → Type 0 → Type 0 → Type 0) → Type 0
  Parts F = F ((a : Action) × Q a) ((a : Actual) × N a) ((p : PlacePhrase) × W p) ((e : ValuePhrase) × P e) ((a : Arm) × R a) ((a : ValueArm) × S a)

  actions_good : (us : List ((a : Action) × Q a)) → AllByRecursion Good (map act (map fst us))
  actions_good [] = tt
  actions_good (u ∷ us) = (u.1, actions_good us)

  values_good : (es : List ((e : ValuePhrase) × P e)) → AllByRecursion Good (map value (map fst es))
  values_good [] = tt
  values_good (e ∷ es) = (e.1, values_good es)

  actuals_good : (as' : List ((a : Actual) × N a)) → AllByRecursion Good (map passed (map fst as'))
  actuals_good [] = tt
  actuals_good (a ∷ as') = (a.1, actuals_good as')

  arms_good : (as' : List ((a : Arm) × R a)) → AllByRecursion (λ (arm : Labelled (Run (Unit {0}))). Good arm.part) (map arm_of (map fst as'))
  arms_good [] = tt
  arms_good (a ∷ as') = (a.1, arms_good as')

  value_arms_good : (as' : List ((a : ValueArm) × S a)) → AllByRecursion (λ (arm : Labelled (Run (List Value))). Good arm.part) (map value_arm_of (map fst as'))
  value_arms_good [] = tt
  value_arms_good (a ∷ as') = (a.1, value_arms_good as')

  maybe_good : (o : Option ((e : ValuePhrase) × P e)) (f : Run (List Value)) → option_map value (option_map fst o) ≡ Some f → Good f
  maybe_good None f e = absurd (cc e)
  maybe_good (Some x) f e = subst (λ (g : Run (List Value)). Good g) (same_Some (value x.0) f e) x.1

  place_parts : (y : Parts PlacePhrase-F)
      → Good (place_step (map-PlacePhrase _ _ _ _ _ _ _ _ _ _ _ _ act passed place_of_phrase value arm_of value_arm_of
      (map-PlacePhrase _ _ _ _ _ _ _ _ _ _ _ _ fst fst fst fst fst fst y)))
  place_parts (t.Variable n) = delivers_place (record { area = areas.Run; variable = n })
  place_parts (t.Packet n) = delivers_place (record { area = areas.Packets; variable = n })
  place_parts (t.Local n) = λ base held. delivers_place (record { area = areas.Run; variable = base + n }) base held
  place_parts (t.Parameter n) = λ base held.
      reads k ex b 0 (λ s p sp. eval.place_of (eval.slot_at s (base + n))) (λ x. deliver_place x (near base held)) (λ x. deliver_place x (far_off base held))
      (λ x. delivers_place x base held)
  place_parts (t.Item p a items) =
      thens (place_of_phrase p.0)
      (λ x n w. bind (value a.0 (holding_place n) w) (λ vs. or_outside (in_row items.count (number_of (the vs))) (λ m. deliver_place (beyond x (m * items.cells)) n)))
      p.1
      (λ x.
      thens (λ n. value a.0 (holding_place n)) (λ vs n. or_outside (in_row items.count (number_of (the vs))) (λ m. deliver_place (beyond x (m * items.cells)) n))
      (under_place (value a.0) a.1)
      (λ vs base held.
      outsides k ex b (in_row items.count (number_of (the vs))) (λ m. deliver_place (beyond x (m * items.cells)) (near base held))
      (λ m. deliver_place (beyond x (m * items.cells)) (far_off base held)) (λ m. delivers_place (beyond x (m * items.cells)) base held)))
  place_parts (t.Field p before) = thens (place_of_phrase p.0) (λ x. deliver_place (beyond x before)) p.1 (λ x. delivers_place (beyond x before))
  place_parts (t.Content p s) =
      thens (place_of_phrase p.0) (λ x n. load kinds.Space x (λ v. deliver_place (content_of (space_of v)) n)) p.1
      (λ x base held.
      loads k ex b 0 kinds.Space x (λ v. deliver_place (content_of (space_of v)) (near base held)) (λ v. deliver_place (content_of (space_of v)) (far_off base held))
      (λ v. delivers_place (content_of (space_of v)) base held))

  actual_parts : (y : Parts Actual-F)
      → Good (actual_step (map-Actual _ _ _ _ _ _ _ _ _ _ _ _ act passed place_of_phrase value arm_of value_arm_of
      (map-Actual _ _ _ _ _ _ _ _ _ _ _ _ fst fst fst fst fst fst y)))
  actual_parts (t.Value a) = thens (value a.0) (λ vs n. Gives (AsValue vs)) a.1 (λ vs base held. gives k ex b 0 (AsValue vs))
  actual_parts (t.Place p s) = thens (place_of_phrase p.0) (λ x n. Gives (AsPlace x)) p.1 (λ x base held. gives k ex b 0 (AsPlace x))

  value_parts : (y : Parts ValuePhrase-F)
      → Good (value_step (map-ValuePhrase _ _ _ _ _ _ _ _ _ _ _ _ act passed place_of_phrase value arm_of value_arm_of
      (map-ValuePhrase _ _ _ _ _ _ _ _ _ _ _ _ fst fst fst fst fst fst y)))
  value_parts (t.Number z) = delivers (Int z ∷ [])
  value_parts (t.Truth x) = delivers (Truth x ∷ [])
  value_parts (t.Text x) = delivers (Text x ∷ [])
  value_parts (t.Load p s) =
      thens (place_of_phrase p.0) (λ x n. load_all (cell_kinds s) x (λ vs. deliver vs n)) p.1
      (λ x base held.
      loads_all k ex b (cell_kinds s) x (λ vs. deliver vs (near base held)) (λ vs. deliver vs (far_off base held)) (λ vs. delivers vs base held))
  value_parts (t.Apply op as') =
      thens (values (map value (map fst as'))) (λ vs n. or_stop (result_of op vs) (λ v. deliver (v ∷ []) n)) (all_values (map value (map fst as')) (values_good as'))
      (λ vs base held.
      or_stops k ex b 0 (result_of op vs) (λ v. deliver (v ∷ []) (near base held)) (λ v. deliver (v ∷ []) (far_off base held)) (λ v. delivers (v ∷ []) base held))
  value_parts (t.ValuePhrase::If x a d) =
      thens (value x.0) (λ vs n. branch (truth_of (the vs)) (value a.0 n) (value d.0 n)) x.1
      (λ vs. branches_of (truth_of (the vs)) (value a.0) (value d.0) a.1 d.1)
  value_parts (t.ValuePhrase::Select a arms other) =
      thens (value a.0) (λ vs. selected (number_of (the vs)) (map value_arm_of (map fst arms)) (value other.0)) a.1
      (λ vs. selects (number_of (the vs)) (map value_arm_of (map fst arms)) (value other.0) (value_arms_good arms) other.1)
  value_parts (t.ValuePhrase::Unit a) = spends_of (value a.0) a.1
  value_parts (t.After us a) = thens (all (map act (map fst us))) (λ _. value a.0) (alls (map act (map fst us)) (actions_good us)) (λ _. a.1)
  value_parts (t.Never s) = thens forever (λ _ n. Gives []) forevers (λ _ base held. gives k ex b 0 [])
  value_parts (t.ValuePhrase::Call p as' s) =
      thens (actuals (map passed (map fst as'))) (λ xs n w. bind (n.calls.call p (all_slots xs) n.held w) (λ vs. Gives (delivered vs)))
      (all_actuals (map passed (map fst as')) (actuals_good as'))
      (λ xs base held.
      binds k ex b (c.call p (all_slots xs) held) (c'.call p (all_slots xs) held) (λ vs. Gives (delivered vs)) (λ vs. Gives (delivered vs))
      (calls.call p (all_slots xs) held) (λ vs. gives k ex b 0 (delivered vs)))
  value_parts (t.ValuePhrase::Refer p s) = λ base held.
      binds k ex b (c.refer p base held) (c'.refer p base held) (λ vs. Gives (delivered vs)) (λ vs. Gives (delivered vs)) (calls.refer p base held)
      (λ vs. gives k ex b 0 (delivered vs))
  value_parts (t.Pick a i items s) =
      thens (value a.0)
      (λ vs n w. bind (value i.0 (holding vs n) w) (λ us.
      or_outside (in_row items.count (number_of (the us))) (λ m. deliver (part_of (m * items.cells) items.cells vs) n))) a.1
      (λ vs.
      thens (λ n. value i.0 (holding vs n)) (λ us n. or_outside (in_row items.count (number_of (the us))) (λ m. deliver (part_of (m * items.cells) items.cells vs) n))
      (under_value vs (value i.0) i.1)
      (λ us base held.
      outsides k ex b (in_row items.count (number_of (the us))) (λ m. deliver (part_of (m * items.cells) items.cells vs) (near base held))
      (λ m. deliver (part_of (m * items.cells) items.cells vs) (far_off base held)) (λ m. delivers (part_of (m * items.cells) items.cells vs) base held)))
  value_parts (t.Take a part s) =
      thens (value a.0) (λ vs. deliver (part_of part.before part.cells vs)) a.1 (λ vs. delivers (part_of part.before part.cells vs))
  value_parts (t.ValuePhrase::Ask name as') =
      thens (actuals (map passed (map fst as'))) (λ xs. request_value name xs) (all_actuals (map passed (map fst as')) (actuals_good as'))
      (λ xs base held.
      spends k ex b _ _
      (asks k ex b (λ r. or_stop (answer_of name r) (λ v. deliver (v ∷ []) (near base held))) (λ r. or_stop (answer_of name r) (λ v. deliver (v ∷ []) (far_off base held)))
      (λ r.
      or_stops k ex b 0 (answer_of name r) (λ v. deliver (v ∷ []) (near base held)) (λ v. deliver (v ∷ []) (far_off base held)) (λ v. delivers (v ∷ []) base held))
      (request_of name (map value_given xs)) (own_request name (map value_given xs))))
  value_parts (t.Consult op as') =
      thens (values (map value (map fst as'))) (λ vs n w. consult (planned op vs (heads_of w.spaces)) n w) (all_values (map value (map fst as')) (values_good as'))
      (λ vs base held.
      reads k ex b 0 (λ s p sp. planned op vs (heads_of sp)) (λ plan. consult plan (near base held)) (λ plan. consult plan (far_off base held))
      (λ plan. consults plan base held))

  loop_parts : (while' : Option ((e : ValuePhrase) × P e)) (us : List ((a : Action) × Q a)) (until : Option ((e : ValuePhrase) × P e))
      → Good (λ n. turns n.turns (turn (option_map value (option_map fst while')) (all (map act (map fst us))) (option_map value (option_map fst until)) go_on n))
  loop_parts while' us until =
      loops (turn (option_map value (option_map fst while')) (all (map act (map fst us))) (option_map value (option_map fst until)) go_on)
      (turn_goes (option_map value (option_map fst while')) (option_map value (option_map fst until)) (all (map act (map fst us))) go_on (maybe_good while')
      (maybe_good until) (alls (map act (map fst us)) (actions_good us)) go_ons)

  count_parts : (p : (p : PlacePhrase) × W p) (from : (e : ValuePhrase) × P e) (way : Way) (limit while' : Option ((e : ValuePhrase) × P e))
      (us : List ((a : Action) × Q a)) (until : Option ((e : ValuePhrase) × P e))
      → Good (λ n w. bind (stored (place_of_phrase p.0) (value from.0) n w) (λ _.
      counted (place_of_phrase p.0) way (option_map value (option_map fst limit))
      (turn (option_map value (option_map fst while')) (all (map act (map fst us))) (option_map value (option_map fst until))) n))
  count_parts p from way limit while' us until =
      thens (stored (place_of_phrase p.0) (value from.0))
      (λ _.
      counted (place_of_phrase p.0) way (option_map value (option_map fst limit))
      (turn (option_map value (option_map fst while')) (all (map act (map fst us))) (option_map value (option_map fst until))))
      (stores (place_of_phrase p.0) (value from.0) p.1 from.1)
      (λ _.
      counts (place_of_phrase p.0) way (option_map value (option_map fst limit))
      (turn (option_map value (option_map fst while')) (all (map act (map fst us))) (option_map value (option_map fst until))) p.1 (maybe_good limit)
      (λ f good.
      turn_goes (option_map value (option_map fst while')) (option_map value (option_map fst until)) (all (map act (map fst us))) f (maybe_good while')
      (maybe_good until) (alls (map act (map fst us)) (actions_good us)) good))

  action_parts : (y : Parts Action-F)
      → Good (action_step (map-Action _ _ _ _ _ _ _ _ _ _ _ _ act passed place_of_phrase value arm_of value_arm_of
      (map-Action _ _ _ _ _ _ _ _ _ _ _ _ fst fst fst fst fst fst y)))
  action_parts (t.Action::Unit us) = spends_of (all (map act (map fst us))) (alls (map act (map fst us)) (actions_good us))
  action_parts (t.Store p s a) = stores (place_of_phrase p.0) (value a.0) p.1 a.1
  action_parts (t.Modify change p a) =
      thens (place_of_phrase p.0) (λ x n w. bind (value a.0 (holding_place n) w) (λ vs. modify change x (the vs) tt)) p.1
      (λ x.
      thens (λ n. value a.0 (holding_place n)) (λ vs n. modify change x (the vs) tt) (under_place (value a.0) a.1)
      (λ vs base held. modifies k ex b change x (the vs) tt))
  action_parts (t.Action::If x us vs) =
      thens (value x.0) (λ ts n. branch (truth_of (the ts)) (all (map act (map fst us)) n) (all (map act (map fst vs)) n)) x.1
      (λ ts.
      branches_of (truth_of (the ts)) (all (map act (map fst us))) (all (map act (map fst vs))) (alls (map act (map fst us)) (actions_good us))
      (alls (map act (map fst vs)) (actions_good vs)))
  action_parts (t.Action::Select a arms us) =
      thens (value a.0) (λ vs. selected (number_of (the vs)) (map arm_of (map fst arms)) (all (map act (map fst us)))) a.1
      (λ vs.
      selects (number_of (the vs)) (map arm_of (map fst arms)) (all (map act (map fst us))) (arms_good arms) (alls (map act (map fst us)) (actions_good us)))
  action_parts (t.Loop None us None) = loop_parts None us None
  action_parts (t.Loop None us (Some u)) = loop_parts None us (Some u)
  action_parts (t.Loop (Some w) us None) = loop_parts (Some w) us None
  action_parts (t.Loop (Some w) us (Some u)) = loop_parts (Some w) us (Some u)
  action_parts (t.Count p from way None None us None) = count_parts p from way None None us None
  action_parts (t.Count p from way None None us (Some u)) = count_parts p from way None None us (Some u)
  action_parts (t.Count p from way None (Some w) us None) = count_parts p from way None (Some w) us None
  action_parts (t.Count p from way None (Some w) us (Some u)) = count_parts p from way None (Some w) us (Some u)
  action_parts (t.Count p from way (Some a) None us None) = count_parts p from way (Some a) None us None
  action_parts (t.Count p from way (Some a) None us (Some u)) = count_parts p from way (Some a) None us (Some u)
  action_parts (t.Count p from way (Some a) (Some w) us None) = count_parts p from way (Some a) (Some w) us None
  action_parts (t.Count p from way (Some a) (Some w) us (Some u)) = count_parts p from way (Some a) (Some w) us (Some u)
  action_parts (t.Action::Ask name as') =
      thens (actuals (map passed (map fst as'))) (λ xs n. request name xs) (all_actuals (map passed (map fst as')) (actuals_good as'))
      (λ xs base held. requests_go k ex b name xs)
  action_parts (t.ErrorStop a) =
      thens (value a.0) (λ vs n. Stopped (Own (text_of (the vs)))) a.1 (λ vs base held. stops k ex b 0 (Own (text_of (the vs))))
  action_parts (t.Action::Call p as') =
      thens (actuals (map passed (map fst as'))) (λ xs n w. bind (n.calls.call p (all_slots xs) n.held w) (λ _. Gives tt))
      (all_actuals (map passed (map fst as')) (actuals_good as'))
      (λ xs base held.
      binds k ex b (c.call p (all_slots xs) held) (c'.call p (all_slots xs) held) (λ _. Gives tt) (λ _. Gives tt) (calls.call p (all_slots xs) held)
      (λ _. gives k ex b 0 tt))
  action_parts (t.Action::Refer p) = λ base held.
      binds k ex b (c.refer p base held) (c'.refer p base held) (λ _. Gives tt) (λ _. Gives tt) (calls.refer p base held) (λ _. gives k ex b 0 tt)
  action_parts (t.Leave e) = λ base held. leaves k ex b 0 e None
  action_parts (t.LeaveWith e s a) = thens (value a.0) (λ vs n. Left e (Some vs)) a.1 (λ vs base held. leaves k ex b 0 e (Some vs))
  action_parts (t.Perform op as') =
      thens (values (map value (map fst as'))) (λ vs n w. or_refused (planned op vs (heads_of w.spaces)) (λ _. Gives tt) w)
      (all_values (map value (map fst as')) (values_good as'))
      (λ vs base held.
      reads k ex b 0 (λ s p sp. planned op vs (heads_of sp)) (λ plan. or_refused plan (λ _. Gives tt)) (λ plan. or_refused plan (λ _. Gives tt))
      (λ plan. refuses k ex b plan (λ _. Gives tt) (λ _. Gives tt) (λ _. gives k ex b 0 tt)))
  action_parts (t.Copy p a) =
      thens (place_of_phrase p.0) (λ x n w. bind (value a.0 (holding_place n) w) (λ vs. copy_into x (the vs))) p.1
      (λ x. thens (λ n. value a.0 (holding_place n)) (λ vs n. copy_into x (the vs)) (under_place (value a.0) a.1) (λ vs base held. copies k ex b x (the vs)))
  action_parts (t.Bind p s a) =
      thens (place_of_phrase p.0) (λ x n w. bind (value a.0 (holding_place n) w) (λ vs. bind_to x s (the vs))) p.1
      (λ x. thens (λ n. value a.0 (holding_place n)) (λ vs n. bind_to x s (the vs)) (under_place (value a.0) a.1) (λ vs base held. binds_to k ex b x s (the vs)))

  arm_parts : (y : Parts Arm-F)
      → Good (arm_step (map-Arm _ _ _ _ _ _ _ _ _ _ _ _ act passed place_of_phrase value arm_of value_arm_of
      (map-Arm _ _ _ _ _ _ _ _ _ _ _ _ fst fst fst fst fst fst y))).part
  arm_parts y = alls (map act (map fst y.units)) (actions_good y.units)

  value_arm_parts : (y : Parts ValueArm-F)
      → Good (value_arm_step (map-ValueArm _ _ _ _ _ _ _ _ _ _ _ _ act passed place_of_phrase value arm_of value_arm_of
      (map-ValueArm _ _ _ _ _ _ _ _ _ _ _ _ fst fst fst fst fst fst y))).part
  value_arm_parts y = y.value.1

  -- ---- each phrase, by induction

  pub action_good : (a : Action) → Good (act a)
  action_good = ind-Action Q N W P R S
      (λ x y is. rw (← is) (rw fold-roll-Action (action_parts y)))
      (λ x y is. rw (← is) (rw fold-roll-Actual (actual_parts y)))
      (λ x y is. rw (← is) (rw fold-roll-PlacePhrase (place_parts y)))
      (λ x y is. rw (← is) (rw fold-roll-ValuePhrase (value_parts y)))
      (λ x y is. rw (fold-roll-Arm, ← is) (arm_parts y))
      (λ x y is. rw (fold-roll-ValueArm, ← is) (value_arm_parts y))

  pub value_good : (e : ValuePhrase) → Good (value e)
  value_good = ind-ValuePhrase Q N W P R S
      (λ x y is. rw (← is) (rw fold-roll-Action (action_parts y)))
      (λ x y is. rw (← is) (rw fold-roll-Actual (actual_parts y)))
      (λ x y is. rw (← is) (rw fold-roll-PlacePhrase (place_parts y)))
      (λ x y is. rw (← is) (rw fold-roll-ValuePhrase (value_parts y)))
      (λ x y is. rw (fold-roll-Arm, ← is) (arm_parts y))
      (λ x y is. rw (fold-roll-ValueArm, ← is) (value_arm_parts y))

  acts_good : (us : List Action) → AllByRecursion Good (map act us)
  acts_good [] = tt
  acts_good (u ∷ us) = (action_good u, acts_good us)

  pub units_good : (us : List Action) → Good (all (map act us))
  units_good us = alls (map act us) (acts_good us)

  pub content_good : (x : Content) → Good (content x)
  content_good (contents.Units us) = thens (all (map act us)) (λ _ n. Gives None) (units_good us) (λ _ base held. gives k ex b 0 None)
  content_good (contents.Value s a) = thens (value a) (λ vs n. Gives (Some vs)) (value_good a) (λ vs base held. gives k ex b 0 (Some vs))
