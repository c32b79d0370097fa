-- What a phrase does depends on calls only at the bodies that it names. One induction over the phrases.
use Rattle.std.proofs.Common.{◌≡◌, ℕ, ◌+◌, Bool, List, [], ◌∷◌, ◌++◌, map, Option, Some, None, refl, ap, ◌∙◌}
use Rattle.std.specs.Prelude.{ℤ, Contains, option_map, Ok, Err}
use Rattle.std.proofs.Math.Path.{fun_ext}
use Rattle.std.proofs.lemmas.List.Elements.{Contains-append_left, Contains-append_right, Contains-push}
use Rattle.eu_base.specs.declared.value.Value.{Value}
use Rattle.eu_base.specs.declared.operation.Way.{Way}
use Rattle.eu_base.specs.Values.{number_of, truth_of}
use Rattle.eu_base.specs.Room.{values_bytes, place_bytes}
use Rattle.eu_base.specs.Operations.{result_of}
use Rattle.eu_base.specs.DataSpaces.{heads_of}
use Rattle.eu_base.specs.SpaceOperations.{Plan, planned}
use Rattle.elan_types.specs.declared.core_phrase.Content.{Content}
use Rattle.elan_types.specs.declared.core_phrase.Content.TheVariants as contents
use Rattle.elan_types.specs.declared.core_phrase.PlacePhrase.{PlacePhrase}
use Rattle.elan_types.specs.declared.core_phrase.Action.{Action}
use Rattle.elan_types.specs.declared.core_phrase.Actual.{Actual}
use Rattle.elan_types.specs.declared.core_phrase.ValuePhrase.{ValuePhrase}
use Rattle.elan_types.specs.declared.core_phrase.Arm.{Arm}
use Rattle.elan_types.specs.declared.core_phrase.ValueArm.{ValueArm}
use Rattle.elan_types.specs.declared.core_phrase.Action.TheOpen as t
use Rattle.elan_types.specs.declared.core_phrase.Action.TheOpen.{Action-F, Actual-F, PlacePhrase-F, ValuePhrase-F, Arm-F, ValueArm-F}
use Rattle.elan_types.specs.declared.core_phrase.Action.TheFolds.{fold-Actual, fold-PlacePhrase, fold-Arm, fold-ValueArm, ind-Action, ind-ValuePhrase}
use Rattle.elan_types.specs.declared.core_phrase.Action.TheFolds.{map-Action, map-Actual, map-PlacePhrase, map-ValuePhrase}
use Rattle.elan_types.specs.declared.core_phrase.Action.TheFolds.{fold-roll-Action, fold-roll-Actual, fold-roll-PlacePhrase, fold-roll-ValuePhrase}
use Rattle.elan_types.specs.declared.core_phrase.Action.TheFolds.{fold-roll-Arm, fold-roll-ValueArm}
use Rattle.elan_types.specs.Eval.{World, Outcome, Gives, Place, Calls, Reach, Run, Passed, AsValue, AsPlace, Labelled, bind, branch, or_stop, deliver}
use Rattle.elan_types.specs.Eval.{holding_passed, the, all_slots, delivered, holds, selected, turns, while_true, until_true, then_on}
use Rattle.elan_types.specs.Eval.{done, turn, go_on, step, step_to, limited, counted, stored, request, request_value, all, values, actuals, spend, content}
use Rattle.elan_types.specs.Eval.{consult, or_refused}
use Rattle.elan_types.specs.Eval.{act, value, action_step, actual_step, place_step, value_step, arm_step, value_arm_step}
use Rattle.code_gen.specs.Names as names
use Rattle.code_gen.specs.Names.{Names}

abbrev fst : {A : Type 0} {B : A → Type 0} → (a : A) × B a → A
fst x = x.0

-- the same function of two things that are the same
pub ap2 : {A B C : Type 0} (f : A → B → C) {a a' : A} {b b' : B} → a ≡ a' → b ≡ b' → f a b ≡ f a' b'
ap2 f {a} {a'} {b} {b'} p q = ap (λ x. f x b) p ∙ ap (f a') q

pub ap3 : {A B C D : Type 0} (f : A → B → C → D) {a a' : A} {b b' : B} {c c' : C} → a ≡ a' → b ≡ b' → c ≡ c' → f a b c ≡ f a' b' c'
ap3 f {a} {a'} {b} {b'} {c} {c'} p q r = ap (λ x. f x b c) p ∙ ap (λ x. f a' x c) q ∙ ap (f a' b') r

-- what runs as a phrase does with these calls: from so many turns, a base, and so many bytes pending
abbrev pub Fixed : Type 0 → Type 0
Fixed A = ℕ → ℕ → ℕ → World → Outcome A

abbrev reach : Calls → ℕ → ℕ → ℕ → Reach
reach c turns base held = record { calls = c; turns = turns; base = base; held = held }

abbrev pub at' : {A : Type 0} → Calls → Run A → Fixed A
at' c f turns base held = f (reach c turns base held)

abbrev run : {A : Type 0} → Fixed A → Run A
run f r = f r.turns r.base r.held

-- calls of a body do the same
abbrev pub Agree : Calls → Calls → ℕ → Type 0
Agree c d n = (c.call n ≡ d.call n) × (c.refer n ≡ d.refer n)

module _ (c d : Calls) where
  abbrev AllAgree : Names → Type 0
  AllAgree ns = (n : ℕ) → Contains ns n → Agree c d n

  left : (ms ns : Names) → AllAgree (ms ++ ns) → AllAgree ms
  left ms ns h n i = h n (Contains-append_left ms ns n i)

  right : (ms ns : Names) → AllAgree (ms ++ ns) → AllAgree ns
  right ms ns h n i = h n (Contains-append_right ms ns n i)

  head : (n : ℕ) (ns : Names) → AllAgree (n ∷ ns) → Agree c d n
  head n ns h = h n (Contains-append_left (n ∷ []) ns n (Contains-push [] n))

  tail : (n : ℕ) (ns : Names) → AllAgree (n ∷ ns) → AllAgree ns
  tail n ns = right (n ∷ []) ns

  abbrev Same : {A : Type 0} → Run A → Type 0
  Same f = at' c f ≡ at' d f

  abbrev SameArm : {A : Type 0} → Labelled (Run A) → Type 0
  SameArm arm = at' c arm.part ≡ at' d arm.part

  -- ---- what the parts of a phrase are

  abbrev actual_run : Actual → Run Passed
  actual_run =
      fold-Actual (Run (Unit {0})) (Run Passed) (Run Place) (Run (List Value)) (Labelled (Run (Unit {0}))) (Labelled (Run (List Value))) action_step actual_step
      place_step value_step arm_step value_arm_step

  abbrev place_run : PlacePhrase → Run Place
  place_run =
      fold-PlacePhrase (Run (Unit {0})) (Run Passed) (Run Place) (Run (List Value)) (Labelled (Run (Unit {0}))) (Labelled (Run (List Value))) action_step
      actual_step place_step value_step arm_step value_arm_step

  abbrev arm_run : Arm → Labelled (Run (Unit {0}))
  arm_run =
      fold-Arm (Run (Unit {0})) (Run Passed) (Run Place) (Run (List Value)) (Labelled (Run (Unit {0}))) (Labelled (Run (List Value))) action_step actual_step
      place_step value_step arm_step value_arm_step

  abbrev value_arm_run : ValueArm → Labelled (Run (List Value))
  value_arm_run =
      fold-ValueArm (Run (Unit {0})) (Run Passed) (Run Place) (Run (List Value)) (Labelled (Run (Unit {0}))) (Labelled (Run (List Value))) action_step
      actual_step place_step value_step arm_step value_arm_step

  abbrev Q : Action → Type 0
  Q a = AllAgree (names.in_action a) → Same (act a)

  abbrev O : Actual → Type 0
  O a = AllAgree (names.in_actual a) → Same (actual_run a)

  abbrev W : PlacePhrase → Type 0
  W p = AllAgree (names.in_place p) → Same (place_run p)

  abbrev P : ValuePhrase → Type 0
  P v = AllAgree (names.in_value v) → Same (value v)

  abbrev R : Arm → Type 0
  R a = AllAgree (names.in_arm a) → SameArm (arm_run a)

  abbrev S : ValueArm → Type 0
  S a = AllAgree (names.in_value_arm a) → SameArm (value_arm_run a)

  abbrev Below : (Type 0 → Type 0 → Type 0 → Type 0 → Type 0 → Type 0 → Type 0) → Type 0
  Below F = F ((a : Action) × Q a) ((a : Actual) × O a) ((p : PlacePhrase) × W p) ((v : ValuePhrase) × P v) ((a : Arm) × R a) ((a : ValueArm) × S a)

  -- ---- lists of parts

  abbrev all_names : {A : Type 0} {B : A → Type 0} → (A → Names) → List ((a : A) × B a) → Names
  all_names f xs = names.all (map f (map fst xs))

  actions_same : (us : List ((a : Action) × Q a)) → AllAgree (all_names names.in_action us) → Same (all (map act (map fst us)))
  actions_same [] h = refl
  actions_same (u ∷ us) h =
      ap2 {C = Fixed (Unit {0})} (λ x y t b k w. bind (x t b k w) (λ _. y t b k)) (u.1 (left (names.in_action u.0) (all_names names.in_action us) h))
      (actions_same us (right (names.in_action u.0) (all_names names.in_action us) h))

  values_same : (as' : List ((v : ValuePhrase) × P v)) → AllAgree (all_names names.in_value as') → Same (values (map value (map fst as')))
  values_same [] h = refl
  values_same (a ∷ as') h =
      ap2 {C = Fixed (List Value)} (λ x y t b k w. bind (x t b k w) (λ vs w. bind (y t b (values_bytes vs + k) w) (λ us. Gives (the vs ∷ us))))
      (a.1 (left (names.in_value a.0) (all_names names.in_value as') h)) (values_same as' (right (names.in_value a.0) (all_names names.in_value as') h))

  -- with what was passed pending besides
  passed_same : {A : Type 0} (f : Run A) → Same f → (x : Passed) (t b k : ℕ) → f (holding_passed x (reach c t b k)) ≡ f (holding_passed x (reach d t b k))
  passed_same f s (AsValue vs) t b k = ap (λ g. g t b (values_bytes vs + k)) s
  passed_same f s (AsPlace x) t b k = ap (λ g. g t b (place_bytes + k)) s

  actuals_same : (as' : List ((a : Actual) × O a)) → AllAgree (all_names names.in_actual as') → Same (actuals (map actual_run (map fst as')))
  actuals_same [] h = refl
  actuals_same (a ∷ as') h =
      let rest = actuals (map actual_run (map fst as')) in
      let others = actuals_same as' (right (names.in_actual a.0) (all_names names.in_actual as') h) in
      ap {B = Fixed (List Passed)} (λ x t b k w. bind (x t b k w) (λ v w. bind (rest (holding_passed v (reach c t b k)) w) (λ xs. Gives (v ∷ xs))))
      (a.1 (left (names.in_actual a.0) (all_names names.in_actual as') h))
      ∙ fun_ext (λ t. fun_ext (λ b. fun_ext (λ k. fun_ext (λ w.
      ap (λ (g : Passed → World → Outcome (List Passed)). bind (actual_run a.0 (reach d t b k) w) g)
      (fun_ext (λ v. ap {B = World → Outcome (List Passed)} (λ g w. bind (g w) (λ xs. Gives (v ∷ xs))) (passed_same rest others v t b k)))))))

  -- the part that a number chooses
  abbrev SameChoice : {A : Type 0} → (ℤ → Run A) → Type 0
  SameChoice {A} f = ◌≡◌ {A = ℤ → Fixed A} (λ z. at' c (f z)) (λ z. at' d (f z))

  choice_same : {A : Type 0} (arm : Labelled (Run A)) (others : ℤ → Run A) → SameArm arm → SameChoice others
      → SameChoice (λ z n w. branch (holds arm.labels z) (arm.part n) (others z n) w)
  choice_same {A} arm others s o =
      ap2 {C = ℤ → Fixed A} (λ x y z t b k w. branch (holds arm.labels z) (x t b k) (y z t b k) w) s o

  arms_same : (arms : List ((a : Arm) × R a)) (other : Run (Unit {0})) → AllAgree (all_names names.in_arm arms) → Same other
      → SameChoice (λ z. selected z (map arm_run (map fst arms)) other)
  arms_same [] other h s = ap {B = ℤ → Fixed (Unit {0})} (λ x z. x) s
  arms_same (a ∷ arms) other h s =
      choice_same (arm_run a.0) (λ z. selected z (map arm_run (map fst arms)) other) (a.1 (left (names.in_arm a.0) (all_names names.in_arm arms) h))
      (arms_same arms other (right (names.in_arm a.0) (all_names names.in_arm arms) h) s)

  value_arms_same : (arms : List ((a : ValueArm) × S a)) (other : Run (List Value)) → AllAgree (all_names names.in_value_arm arms) → Same other
      → SameChoice (λ z. selected z (map value_arm_run (map fst arms)) other)
  value_arms_same [] other h s = ap {B = ℤ → Fixed (List Value)} (λ x z. x) s
  value_arms_same (a ∷ arms) other h s =
      choice_same (value_arm_run a.0) (λ z. selected z (map value_arm_run (map fst arms)) other)
      (a.1 (left (names.in_value_arm a.0) (all_names names.in_value_arm arms) h))
      (value_arms_same arms other (right (names.in_value_arm a.0) (all_names names.in_value_arm arms) h) s)

  chosen_same : {A : Type 0} (a : Run (List Value)) (f : ℤ → Run A) → Same a → SameChoice f
      → Same (λ n w. bind (a n w) (λ vs. f (number_of (the vs)) n))
  chosen_same {A} a f s o = ap2 {C = Fixed A} (λ x y t b k w. bind (x t b k w) (λ vs. y (number_of (the vs)) t b k)) s o

  -- ---- loops

  abbrev MaybeValue : Type 0
  MaybeValue = Option ((v : ValuePhrase) × P v)

  abbrev run_if : MaybeValue → Option (Run (List Value))
  run_if a = option_map value (option_map fst a)

  abbrev names_if : MaybeValue → Names
  names_if a = names.if_written (option_map names.in_value (option_map fst a))

  while_same : (w : MaybeValue) → AllAgree (names_if w) → Same (while_true (run_if w))
  while_same None h = refl
  while_same (Some a) h = ap (λ (x : Fixed (List Value)). at' c (while_true (Some (run x)))) (a.1 h)

  until_same : (u : MaybeValue) → AllAgree (names_if u) → Same (until_true (run_if u))
  until_same None h = refl
  until_same (Some a) h = ap (λ (x : Fixed (List Value)). at' c (until_true (Some (run x)))) (a.1 h)

  then_same : (f g : Run Bool) → Same f → Same g → Same (then_on f g)
  then_same f g = ap2 (λ (x y : Fixed Bool). at' c (then_on (run x) (run y)))

  turn_same : (w : MaybeValue) (us : List ((a : Action) × Q a)) (u : MaybeValue) (s : Run Bool)
      → AllAgree (names_if w ++ (all_names names.in_action us ++ names_if u)) → Same s → Same (turn (run_if w) (all (map act (map fst us))) (run_if u) s)
  turn_same w us u s h e =
      let units = all (map act (map fst us)) in
      let g = right (names_if w) (all_names names.in_action us ++ names_if u) h in
      then_same (while_true (run_if w)) (then_on (done units) (then_on (until_true (run_if u)) s))
      (while_same w (left (names_if w) (all_names names.in_action us ++ names_if u) h))
      (then_same (done units) (then_on (until_true (run_if u)) s)
      (ap (λ (x : Fixed (Unit {0})). at' c (done (run x))) (actions_same us (left (all_names names.in_action us) (names_if u) g)))
      (then_same (until_true (run_if u)) s (until_same u (right (all_names names.in_action us) (names_if u) g)) e))

  loop_same : (w : MaybeValue) (us : List ((a : Action) × Q a)) (u : MaybeValue)
      → AllAgree (names_if w ++ (all_names names.in_action us ++ names_if u))
      → Same (λ n. turns n.turns (turn (run_if w) (all (map act (map fst us))) (run_if u) go_on n))
  loop_same w us u h = ap {B = Fixed (Unit {0})} (λ x t b k. turns t (x t b k)) (turn_same w us u go_on h refl)

  counted_same : (p : (p : PlacePhrase) × W p) (way : Way) (l w : MaybeValue) (us : List ((a : Action) × Q a)) (u : MaybeValue)
      → Same (place_run p.0) → AllAgree (names_if l) → AllAgree (names_if w ++ (all_names names.in_action us ++ names_if u))
      → Same (counted (place_run p.0) way (run_if l) (turn (run_if w) (all (map act (map fst us))) (run_if u)))
  counted_same p way None w us u s g h =
      ap {B = Fixed (Unit {0})} (λ x t b k. turns t (x t b k))
      (turn_same w us u (step (place_run p.0)) h (ap (λ (x : Fixed Place). at' c (step (run x))) s))
  counted_same p way (Some a) w us u s g h =
      let each = fun_ext (λ (z : ℤ). turn_same w us u (step_to (place_run p.0) way z) h (ap (λ (x : Fixed Place). at' c (step_to (run x) way z)) s)) in
      ap3 {D = Fixed (Unit {0})}
      (λ x y s t b k w. bind (x t b k w) (λ x w. bind (y t b (place_bytes + k) w) (λ vs.
      limited x way (number_of (the vs)) (run (s (number_of (the vs)))) (reach c t b k))))
      s (a.1 g) each

  -- ---- each form

  place_here : (y : Below PlacePhrase-F)
      → AllAgree (names.place_step (map-PlacePhrase _ _ _ _ _ _ _ _ _ _ _ _ names.in_action names.in_actual names.in_place names.in_value names.in_arm names.in_value_arm
      (map-PlacePhrase _ _ _ _ _ _ _ _ _ _ _ _ fst fst fst fst fst fst y)))
      → Same (place_step (map-PlacePhrase _ _ _ _ _ _ _ _ _ _ _ _ act actual_run place_run value arm_run value_arm_run
      (map-PlacePhrase _ _ _ _ _ _ _ _ _ _ _ _ fst fst fst fst fst fst y)))
  place_here (t.Variable x) h = refl
  place_here (t.Packet x) h = refl
  place_here (t.Local x) h = refl
  place_here (t.Parameter x) h = refl
  place_here (t.Item p a items) h =
      ap2 (λ (x : Fixed Place) (y : Fixed (List Value)). at' c (place_step (t.Item (run x) (run y) items)))
      (p.1 (left (names.in_place p.0) (names.in_value a.0) h)) (a.1 (right (names.in_place p.0) (names.in_value a.0) h))
  place_here (t.Field p before) h = ap (λ (x : Fixed Place). at' c (place_step (t.Field (run x) before))) (p.1 h)
  place_here (t.Content p s) h = ap (λ (x : Fixed Place). at' c (place_step (t.Content (run x) s))) (p.1 h)

  -- what is planned on data spaces is delivered, whatever calls do
  consulted_same : (plan : Plan (Option Value)) (t b k : ℕ) (w : World) → consult plan (reach c t b k) w ≡ consult plan (reach d t b k) w
  consulted_same (Ok plan) t b k w = refl
  consulted_same (Err s) t b k w = refl

  value_here : (y : Below ValuePhrase-F)
      → AllAgree (names.value_step (map-ValuePhrase _ _ _ _ _ _ _ _ _ _ _ _ names.in_action names.in_actual names.in_place names.in_value names.in_arm names.in_value_arm
      (map-ValuePhrase _ _ _ _ _ _ _ _ _ _ _ _ fst fst fst fst fst fst y)))
      → Same (value_step (map-ValuePhrase _ _ _ _ _ _ _ _ _ _ _ _ act actual_run place_run value arm_run value_arm_run
      (map-ValuePhrase _ _ _ _ _ _ _ _ _ _ _ _ fst fst fst fst fst fst y)))
  value_here (t.Number z) h = refl
  value_here (t.Truth b) h = refl
  value_here (t.Text x) h = refl
  value_here (t.Load p s) h = ap (λ (x : Fixed Place). at' c (value_step (t.Load (run x) s))) (p.1 h)
  value_here (t.Apply op as') h =
      ap {B = Fixed (List Value)} (λ x t b k w. bind (x t b k w) (λ vs. or_stop (result_of op vs) (λ v. deliver (v ∷ []) (reach c t b k)))) (values_same as' h)
  value_here (t.ValuePhrase::If i a b) h =
      let g = right (names.in_value i.0) (names.in_value a.0 ++ names.in_value b.0) h in
      ap3 (λ (x y z : Fixed (List Value)). at' c (value_step (t.ValuePhrase::If (run x) (run y) (run z))))
      (i.1 (left (names.in_value i.0) (names.in_value a.0 ++ names.in_value b.0) h)) (a.1 (left (names.in_value a.0) (names.in_value b.0) g))
      (b.1 (right (names.in_value a.0) (names.in_value b.0) g))
  value_here (t.ValuePhrase::Select a arms other) h =
      let g = right (names.in_value a.0) (all_names names.in_value_arm arms ++ names.in_value other.0) h in
      chosen_same (value a.0) (λ z. selected z (map value_arm_run (map fst arms)) (value other.0))
      (a.1 (left (names.in_value a.0) (all_names names.in_value_arm arms ++ names.in_value other.0) h))
      (value_arms_same arms (value other.0) (left (all_names names.in_value_arm arms) (names.in_value other.0) g)
      (other.1 (right (all_names names.in_value_arm arms) (names.in_value other.0) g)))
  value_here (t.ValuePhrase::Unit a) h = ap (λ (x : Fixed (List Value)). at' c (value_step (t.ValuePhrase::Unit (run x)))) (a.1 h)
  value_here (t.After us a) h =
      ap2 {C = Fixed (List Value)} (λ x y t b k w. bind (x t b k w) (λ _. y t b k))
      (actions_same us (left (all_names names.in_action us) (names.in_value a.0) h)) (a.1 (right (all_names names.in_action us) (names.in_value a.0) h))
  value_here (t.Never s) h = refl
  value_here (t.ValuePhrase::Call p as' s) h =
      ap2 {C = Fixed (List Value)} (λ x call t b k w. bind (x t b k w) (λ xs w. bind (call (all_slots xs) k w) (λ vs. Gives (delivered vs))))
      (actuals_same as' (tail p (all_names names.in_actual as') h)) (head p (all_names names.in_actual as') h).0
  value_here (t.ValuePhrase::Refer p s) h =
      ap {B = Fixed (List Value)} (λ refer t b k w. bind (refer b k w) (λ vs. Gives (delivered vs))) (head p [] h).1
  value_here (t.Pick a i items s) h =
      ap2 (λ (x y : Fixed (List Value)). at' c (value_step (t.Pick (run x) (run y) items s))) (a.1 (left (names.in_value a.0) (names.in_value i.0) h))
      (i.1 (right (names.in_value a.0) (names.in_value i.0) h))
  value_here (t.Take a part s) h = ap (λ (x : Fixed (List Value)). at' c (value_step (t.Take (run x) part s))) (a.1 h)
  value_here (t.ValuePhrase::Ask name as') h =
      ap {B = Fixed (List Value)} (λ x t b k w. bind (x t b k w) (λ xs. request_value name xs (reach c t b k))) (actuals_same as' h)
  value_here (t.Consult op as') h =
      ap {B = Fixed (List Value)} (λ x t b k w. bind (x t b k w) (λ vs w. consult (planned op vs (heads_of w.spaces)) (reach c t b k) w)) (values_same as' h)
      ∙ fun_ext (λ t. fun_ext (λ b. fun_ext (λ k. fun_ext (λ w.
      ap (λ (g : List Value → World → Outcome (List Value)). bind (values (map value (map fst as')) (reach d t b k) w) g)
      (fun_ext (λ vs. fun_ext (λ w. consulted_same (planned op vs (heads_of w.spaces)) t b k w)))))))

  actual_here : (y : Below Actual-F)
      → AllAgree (names.actual_step (map-Actual _ _ _ _ _ _ _ _ _ _ _ _ names.in_action names.in_actual names.in_place names.in_value names.in_arm names.in_value_arm
      (map-Actual _ _ _ _ _ _ _ _ _ _ _ _ fst fst fst fst fst fst y)))
      → Same (actual_step (map-Actual _ _ _ _ _ _ _ _ _ _ _ _ act actual_run place_run value arm_run value_arm_run
      (map-Actual _ _ _ _ _ _ _ _ _ _ _ _ fst fst fst fst fst fst y)))
  actual_here (t.Value a) h = ap (λ (x : Fixed (List Value)). at' c (actual_step (t.Value (run x)))) (a.1 h)
  actual_here (t.Place p s) h = ap (λ (x : Fixed Place). at' c (actual_step (t.Place (run x) s))) (p.1 h)

  -- A part that may be left out is mapped only where it is known which it is, so loops are told apart below.
  counts_same : (p : (p : PlacePhrase) × W p) (from : (v : ValuePhrase) × P v) (way : Way) (l w : MaybeValue) (us : List ((a : Action) × Q a))
      (u : MaybeValue)
      → AllAgree (names.in_place p.0 ++ (names.in_value from.0 ++ (names_if l ++ (names_if w ++ (all_names names.in_action us ++ names_if u)))))
      → Same (λ n w'. bind (stored (place_run p.0) (value from.0) n w')
      (λ _. counted (place_run p.0) way (run_if l) (turn (run_if w) (all (map act (map fst us))) (run_if u)) n))
  counts_same p from way l w us u h =
      let turns = names_if w ++ (all_names names.in_action us ++ names_if u) in
      let place = p.1 (left (names.in_place p.0) (names.in_value from.0 ++ (names_if l ++ turns)) h) in
      let g = right (names.in_place p.0) (names.in_value from.0 ++ (names_if l ++ turns)) h in
      let first = from.1 (left (names.in_value from.0) (names_if l ++ turns) g) in
      let i = right (names.in_value from.0) (names_if l ++ turns) g in
      ap3 {D = Fixed (Unit {0})} (λ x y z t b k w. bind (stored (run x) (run y) (reach c t b k) w) (λ _. z t b k))
      place first (counted_same p way l w us u place (left (names_if l) turns i) (right (names_if l) turns i))

  action_here : (y : Below Action-F)
      → AllAgree (names.action_step (map-Action _ _ _ _ _ _ _ _ _ _ _ _ names.in_action names.in_actual names.in_place names.in_value names.in_arm names.in_value_arm
      (map-Action _ _ _ _ _ _ _ _ _ _ _ _ fst fst fst fst fst fst y)))
      → Same (action_step (map-Action _ _ _ _ _ _ _ _ _ _ _ _ act actual_run place_run value arm_run value_arm_run
      (map-Action _ _ _ _ _ _ _ _ _ _ _ _ fst fst fst fst fst fst y)))
  action_here (t.Action::Unit us) h = ap {B = Fixed (Unit {0})} (λ x t b k. spend (x t b k)) (actions_same us h)
  action_here (t.Store p s a) h =
      ap2 (λ (x : Fixed Place) (y : Fixed (List Value)). at' c (action_step (t.Store (run x) s (run y))))
      (p.1 (left (names.in_place p.0) (names.in_value a.0) h)) (a.1 (right (names.in_place p.0) (names.in_value a.0) h))
  action_here (t.Modify change p a) h =
      ap2 (λ (x : Fixed Place) (y : Fixed (List Value)). at' c (action_step (t.Modify change (run x) (run y))))
      (p.1 (left (names.in_place p.0) (names.in_value a.0) h)) (a.1 (right (names.in_place p.0) (names.in_value a.0) h))
  action_here (t.Action::If i us vs) h =
      let g = right (names.in_value i.0) (all_names names.in_action us ++ all_names names.in_action vs) h in
      ap3 {D = Fixed (Unit {0})} (λ x y z t b k w. bind (x t b k w) (λ a. branch (truth_of (the a)) (y t b k) (z t b k)))
      (i.1 (left (names.in_value i.0) (all_names names.in_action us ++ all_names names.in_action vs) h))
      (actions_same us (left (all_names names.in_action us) (all_names names.in_action vs) g))
      (actions_same vs (right (all_names names.in_action us) (all_names names.in_action vs) g))
  action_here (t.Action::Select a arms us) h =
      let g = right (names.in_value a.0) (all_names names.in_arm arms ++ all_names names.in_action us) h in
      chosen_same (value a.0) (λ z. selected z (map arm_run (map fst arms)) (all (map act (map fst us))))
      (a.1 (left (names.in_value a.0) (all_names names.in_arm arms ++ all_names names.in_action us) h))
      (arms_same arms (all (map act (map fst us))) (left (all_names names.in_arm arms) (all_names names.in_action us) g)
      (actions_same us (right (all_names names.in_arm arms) (all_names names.in_action us) g)))
  action_here (t.Loop None us None) h = loop_same None us None h
  action_here (t.Loop None us (Some u)) h = loop_same None us (Some u) h
  action_here (t.Loop (Some w) us None) h = loop_same (Some w) us None h
  action_here (t.Loop (Some w) us (Some u)) h = loop_same (Some w) us (Some u) h
  action_here (t.Count p from way None None us None) h = counts_same p from way None None us None h
  action_here (t.Count p from way None None us (Some u)) h = counts_same p from way None None us (Some u) h
  action_here (t.Count p from way None (Some w) us None) h = counts_same p from way None (Some w) us None h
  action_here (t.Count p from way None (Some w) us (Some u)) h = counts_same p from way None (Some w) us (Some u) h
  action_here (t.Count p from way (Some a) None us None) h = counts_same p from way (Some a) None us None h
  action_here (t.Count p from way (Some a) None us (Some u)) h = counts_same p from way (Some a) None us (Some u) h
  action_here (t.Count p from way (Some a) (Some w) us None) h = counts_same p from way (Some a) (Some w) us None h
  action_here (t.Count p from way (Some a) (Some w) us (Some u)) h = counts_same p from way (Some a) (Some w) us (Some u) h
  action_here (t.Action::Ask name as') h = ap {B = Fixed (Unit {0})} (λ x t b k w. bind (x t b k w) (request name)) (actuals_same as' h)
  action_here (t.ErrorStop a) h = ap (λ (x : Fixed (List Value)). at' c (action_step (t.ErrorStop (run x)))) (a.1 h)
  action_here (t.Action::Call p as') h =
      ap2 {C = Fixed (Unit {0})} (λ x call t b k w. bind (x t b k w) (λ xs w. bind (call (all_slots xs) k w) (λ _. Gives tt)))
      (actuals_same as' (tail p (all_names names.in_actual as') h)) (head p (all_names names.in_actual as') h).0
  action_here (t.Action::Refer p) h = ap {B = Fixed (Unit {0})} (λ refer t b k w. bind (refer b k w) (λ _. Gives tt)) (head p [] h).1
  action_here (t.Leave e) h = refl
  action_here (t.LeaveWith e s a) h = ap (λ (x : Fixed (List Value)). at' c (action_step (t.LeaveWith e s (run x)))) (a.1 h)
  action_here (t.Perform op as') h =
      ap {B = Fixed (Unit {0})} (λ x t b k w. bind (x t b k w) (λ vs w. or_refused (planned op vs (heads_of w.spaces)) (λ _. Gives tt) w)) (values_same as' h)
  action_here (t.Copy p a) h =
      ap2 (λ (x : Fixed Place) (y : Fixed (List Value)). at' c (action_step (t.Copy (run x) (run y))))
      (p.1 (left (names.in_place p.0) (names.in_value a.0) h)) (a.1 (right (names.in_place p.0) (names.in_value a.0) h))
  action_here (t.Bind p s a) h =
      ap2 (λ (x : Fixed Place) (y : Fixed (List Value)). at' c (action_step (t.Bind (run x) s (run y))))
      (p.1 (left (names.in_place p.0) (names.in_value a.0) h)) (a.1 (right (names.in_place p.0) (names.in_value a.0) h))

  action_same : (a : Action) → Q a
  action_same = ind-Action Q O W P R S
      (λ x y is. rw (fold-roll-Action, fold-roll-Action, ← is) (action_here y))
      (λ x y is. rw (fold-roll-Actual, fold-roll-Actual, ← is) (actual_here y))
      (λ x y is. rw (fold-roll-PlacePhrase, fold-roll-PlacePhrase, ← is) (place_here y))
      (λ x y is. rw (fold-roll-ValuePhrase, fold-roll-ValuePhrase, ← is) (value_here y))
      (λ x y is. rw (fold-roll-Arm, fold-roll-Arm, ← is) (actions_same y.units))
      (λ x y is. rw (fold-roll-ValueArm, fold-roll-ValueArm, ← is) y.value.1)

  value_same : (v : ValuePhrase) → P v
  value_same = ind-ValuePhrase Q O W P R S
      (λ x y is. rw (fold-roll-Action, fold-roll-Action, ← is) (action_here y))
      (λ x y is. rw (fold-roll-Actual, fold-roll-Actual, ← is) (actual_here y))
      (λ x y is. rw (fold-roll-PlacePhrase, fold-roll-PlacePhrase, ← is) (place_here y))
      (λ x y is. rw (fold-roll-ValuePhrase, fold-roll-ValuePhrase, ← is) (value_here y))
      (λ x y is. rw (fold-roll-Arm, fold-roll-Arm, ← is) (actions_same y.units))
      (λ x y is. rw (fold-roll-ValueArm, fold-roll-ValueArm, ← is) y.value.1)

  pub units_same : (us : List Action) → AllAgree (names.in_units us) → Same (all (map act us))
  units_same [] h = refl
  units_same (u ∷ us) h =
      ap2 {C = Fixed (Unit {0})} (λ x y t b k w. bind (x t b k w) (λ _. y t b k)) (action_same u (left (names.in_action u) (names.in_units us) h))
      (units_same us (right (names.in_action u) (names.in_units us) h))

  pub content_same : (x : Content) → AllAgree (names.in_content x) → Same (content x)
  content_same (contents.Units us) h = ap {B = Fixed (Option (List Value))} (λ x t b k w. bind (x t b k w) (λ _. Gives None)) (units_same us h)
  content_same (contents.Value s a) h = ap {B = Fixed (Option (List Value))} (λ x t b k w. bind (x t b k w) (λ vs. Gives (Some vs))) (value_same a h)
