-- A body that is well typed stays so where more variables stand behind those outside, and more bodies behind those that are there.
use Rattle.std.proofs.Common.{◌≡◌, ℕ, zero, suc, ◌==◌, Bool, true, false, ◌&&◌, List, [], ◌∷◌, ◌++◌, map, length, take, drop, replicate, Option}
use Rattle.std.proofs.Common.{Some, None, refl, sym, ap, ◌∙◌, subst, arith, eqb-true}
use Rattle.std.specs.Prelude.{slice_get}
use Rattle.std.proofs.lemmas.List.{append-nil}
use Rattle.eu_base.specs.declared.value.Kind.{Kind}
use Rattle.eu_base.specs.declared.value.Kind.TheVariants as kinds
use Rattle.eu_base.specs.declared.shape.Shape.{Shape}
use Rattle.eu_base.specs.Values.{same_kind}
use Rattle.eu_base.specs.Shapes.{cell_kinds, joined}
use Rattle.eu_base.specs.Operations.{operand_kinds, change_kind}
use Rattle.eu_base.specs.SpaceOperations.{space_operand_kinds}
use Rattle.elan_types.specs.declared.core_phrase.Access.TheVariants.{Const, Var}
use Rattle.elan_types.specs.declared.core_phrase.Exit.{Exit}
use Rattle.elan_types.specs.declared.core_phrase.Exit.TheVariants as exits
use Rattle.elan_types.specs.declared.core_phrase.Formal.{Formal}
use Rattle.elan_types.specs.declared.core_phrase.Scope.{Scope}
use Rattle.elan_types.specs.declared.core_phrase.Scope.TheVariants.{Own, Of, Level}
use Rattle.elan_types.specs.declared.core_phrase.Content.{Content}
use Rattle.elan_types.specs.declared.core_phrase.Content.TheVariants as contents
use Rattle.elan_types.specs.declared.core_phrase.Body.{Body}
use Rattle.elan_types.specs.declared.core_phrase.PlacePhrase.{PlacePhrase}
use Rattle.elan_types.specs.declared.core_phrase.Action.{Action}
use Rattle.elan_types.specs.declared.core_phrase.Actual.{Actual}
use Rattle.elan_types.specs.declared.core_phrase.ValuePhrase.{ValuePhrase}
use Rattle.elan_types.specs.declared.core_phrase.Arm.{Arm}
use Rattle.elan_types.specs.declared.core_phrase.ValueArm.{ValueArm}
use Rattle.elan_types.specs.declared.core_phrase.Action.TheOpen as t
use Rattle.elan_types.specs.declared.core_phrase.Action.TheOpen.{Action-F, Actual-F, PlacePhrase-F, ValuePhrase-F, Arm-F, ValueArm-F}
use Rattle.elan_types.specs.declared.core_phrase.Action.TheFolds.{fold-Actual, fold-Arm, fold-ValueArm, ind-Action, ind-ValuePhrase, map-Action, map-Actual}
use Rattle.elan_types.specs.declared.core_phrase.Action.TheFolds.{map-PlacePhrase, map-ValuePhrase, fold-roll-Action, fold-roll-Actual, fold-roll-PlacePhrase}
use Rattle.elan_types.specs.declared.core_phrase.Action.TheFolds.{fold-roll-ValuePhrase, fold-roll-Arm, fold-roll-ValueArm}
use Rattle.elan_types.specs.Typing.{Typed, Taken, has_shape, has, agree, only_if, have, all_agree, all_true, takes, take_all, given_as, Held, OfKind, OfPlace}
use Rattle.elan_types.specs.Typing.{values_held, place_held, is_none, leaves_without, leaves_with, Home, scope_of, result_of, delivered_by, taken_by, refines}
use Rattle.elan_types.specs.Typing.{owner_at, frame_at, owner, frame_in, around, left_from, begins, starts, if_true, item_kinds, has_part, request_formals}
use Rattle.elan_types.specs.Typing.{Outside, frame_here, place_kinds_step, value_kind_step, actual_kind_step, value_arm_kind_step, action_typed_step}
use Rattle.elan_types.specs.Typing.{arm_typed_step, phrase_shape, place_kinds, is_typed, is_content_typed, IsScope}
use Rattle.elan_types.proofs.Shapes.{both}

abbrev fst : {A : Type 0} {B : A → Type 0} → (a : A) × B a → A
fst x = x.0

-- these kinds stand first among those
abbrev pub Before : {A : Type 0} → List A → List A → Type 0
Before {A} xs ys = (rest : List A) × (ys ≡ xs ++ rest)

-- what is there stays; where nothing is, anything may come
abbrev Stays : {A : Type 0} → Option A → Option A → Type 0
Stays {A} a b = (x : A) → a ≡ Some x → b ≡ Some x

-- a test that holds goes on to hold
abbrev Holds : Bool → Bool → Type 0
Holds a b = a ≡ true → b ≡ true

both_hold : {a b c d : Bool} → Holds a c → Holds b d → Holds (a && b) (c && d)
both_hold {a} {b} {c} {d} f g e = let h = both a b e in ap (λ x. x && d) (f h.0) ∙ g h.1

-- what a function makes of something that stays, if it makes nothing of nothing
some_holds : {A : Type 0} (f g : Option A → Bool) {o p : Option A} → Stays o p → f None ≡ false → ((x : A) → Holds (f (Some x)) (g (Some x)))
    → Holds (f o) (g p)
some_holds f g {o = None} stays none each e = absurd cc
some_holds f g {o = Some x} stays none each e = subst (λ o. g o ≡ true) (sym (stays x refl)) (each x e)

test_holds : {A : Type 0} (f : Option A → Bool) {o p : Option A} → Stays o p → f None ≡ false → Holds (f o) (f p)
test_holds f stays none = some_holds f f stays none (λ x e. e)

some_stays : {A B : Type 0} (f g : Option A → Option B) {o p : Option A} → Stays o p → f None ≡ None
    → ((x : A) → Stays (f (Some x)) (g (Some x))) → Stays (f o) (g p)
some_stays f g {o = None} stays none each y e = absurd cc
some_stays f g {o = Some x} stays none each y e = subst (λ o. g o ≡ Some y) (sym (stays x refl)) (each x y e)

some_before : {A B : Type 0} (f : Option A → List B) {o p : Option A} → Stays o p → f None ≡ [] → Before (f o) (f p)
some_before f {o = None} {p} stays none = (f p, ap (λ l. l ++ f p) (sym none))
some_before f {o = Some x} stays none = ([], ap f (stays x refl) ∙ sym (append-nil (f (Some x))))

-- ---- lists with more behind

-- what a function makes of the first, where it makes a beginning of what it makes of all
by_more : {A B : Type 0} (f : List A → List B) → ((xs rest : List A) → Before (f xs) (f (xs ++ rest))) → (xs : List A) {ys : List A} → Before xs ys
    → Before (f xs) (f ys)
by_more f more xs b = subst (λ l. Before (f xs) (f l)) (sym b.1) (more xs b.0)

drop_more : {A : Type 0} (n : ℕ) (xs rest : List A) → Before (drop n xs) (drop n (xs ++ rest))
drop_more zero xs rest = (rest, refl)
drop_more (suc n) [] rest = (drop (suc n) rest, refl)
drop_more (suc n) (x ∷ xs) rest = drop_more n xs rest

values_more : (hs rest : List Held) → Before (values_held hs) (values_held (hs ++ rest))
values_more [] rest = (values_held rest, refl)
values_more (OfKind k ∷ hs) rest = let b = values_more hs rest in (b.0, ap (λ l. k ∷ l) b.1)
values_more (OfPlace ks ∷ hs) rest = ([], refl)

begins_more : (ks js rest : List Kind) → Holds (begins ks js) (begins ks (js ++ rest))
begins_more [] js rest e = refl
begins_more (k ∷ ks) [] rest e = absurd cc
begins_more (k ∷ ks) (j ∷ js) rest e = both_hold {a = same_kind k j} (λ i. i) (begins_more ks js rest) e

starts_hold : (ks xs : List Kind) {ys : List Kind} → Before xs ys → Holds (starts ks xs) (starts ks ys)
starts_hold [] xs b e = absurd cc
starts_hold (k ∷ ks) xs b e = subst (λ l. begins (k ∷ ks) l ≡ true) (sym b.1) (begins_more (k ∷ ks) xs b.0 e)

take_more : (n : ℕ) (xs rest : List Kind) → length (take n xs) ≡ n → take n (xs ++ rest) ≡ take n xs
take_more zero xs rest e = refl
take_more (suc n) [] rest e = absurd (omega (arith, e))
take_more (suc n) (x ∷ xs) rest e = ap (λ l. x ∷ l) (take_more n xs rest (omega (arith, e)))

-- items stay the same, or there were none
items_more : (count cells : ℕ) (xs rest : List Kind) → Before (item_kinds count cells xs) (item_kinds count cells (xs ++ rest))
items_more count cells xs rest = by_test _ refl
  where
    test : List Kind → List Kind → Bool
    test first l = length first == cells && begins (joined (replicate count first)) l

    by_test : (b : Bool) → test (take cells xs) xs ≡ b → Before (if_true b (take cells xs)) (item_kinds count cells (xs ++ rest))
    by_test false e = (item_kinds count cells (xs ++ rest), refl)
    by_test true e =
        let same = take_more cells xs rest (eqb-true _ cells (both _ _ e).0) in
        let holds = both_hold {a = length (take cells xs) == cells} (λ i. i) (begins_more (joined (replicate count (take cells xs))) xs rest) e in
        ([], ap (λ l. if_true (test l (xs ++ rest)) l) same ∙ ap (λ b. if_true b (take cells xs)) holds ∙ sym (append-nil (take cells xs)))

if_before : {a b : Bool} (xs : List Kind) {ys : List Kind} → Holds a b → Before xs ys → Before (if_true a xs) (if_true b ys)
if_before {a = false} {b} xs {ys} h before = (if_true b ys, refl)
if_before {a = true} {b} xs {ys} h before = subst (λ c. Before xs (if_true c ys)) (sym (h refl)) before

found_more : {A : Type 0} (xs rest : List A) (n : ℕ) → Stays (slice_get xs n) (slice_get (xs ++ rest) n)
found_more [] rest n x e = absurd cc
found_more (y ∷ xs) rest zero x e = e
found_more (y ∷ xs) rest (suc n) x e = found_more xs rest n x e

held_more : (n : ℕ) (hs rest : List Held) → Before (place_held (slice_get hs n)) (place_held (slice_get (hs ++ rest) n))
held_more n hs rest = some_before place_held (found_more hs rest n) refl

-- ---- the shapes of parts

only_if_stays : {a b : Bool} {s t : Typed} → Holds a b → Stays s t → Stays (only_if a s) (only_if b t)
only_if_stays {a = false} h stays x e = absurd cc
only_if_stays {a = true} {b} {s} {t} h stays x e = subst (λ c. only_if c t ≡ Some x) (sym (h refl)) (stays x e)

has_holds : (s : Shape) {a b : Typed} → Stays a b → Holds (has_shape s a) (has_shape s b)
has_holds s stays = test_holds (has_shape s) stays refl

agree_holds : {a b c d : Typed} → Stays a c → Stays b d → Holds (agree a b) (agree c d)
agree_holds {a} {b} {c} {d} left right = some_holds (λ x. agree x b) (λ x. agree x d) left refl (λ s. has_holds s right)

all_hold : {A : Type 0} (f g : A → Bool) (xs : List ((x : A) × Holds (f x) (g x)))
    → Holds (all_true (map f (map fst xs))) (all_true (map g (map fst xs)))
all_hold f g [] e = refl
all_hold f g (x ∷ xs) e = both_hold x.1 (all_hold f g xs) e

have_hold : {A : Type 0} (f g : A → Typed) (ks : List Kind) (xs : List ((x : A) × Stays (f x) (g x)))
    → Holds (have ks (map f (map fst xs))) (have ks (map g (map fst xs)))
have_hold f g [] [] e = refl
have_hold f g [] (x ∷ xs) e = absurd cc
have_hold f g (k ∷ ks) [] e = absurd cc
have_hold f g (k ∷ ks) (x ∷ xs) e = both_hold (has_holds _ x.1) (have_hold f g ks xs) e

agree_hold : {A : Type 0} (f g : A → Typed) {a b : Typed} → Stays a b → (xs : List ((x : A) × Stays (f x) (g x)))
    → Holds (all_agree a (map f (map fst xs))) (all_agree b (map g (map fst xs)))
agree_hold f g stays [] e = refl
agree_hold f g stays (x ∷ xs) e = both_hold (agree_holds stays x.1) (agree_hold f g stays xs) e

take_hold : {A : Type 0} (f g : A → Taken) (ps : List Formal) (xs : List ((x : A) × Stays (f x) (g x)))
    → Holds (take_all ps (map f (map fst xs))) (take_all ps (map g (map fst xs)))
take_hold f g [] [] e = refl
take_hold f g [] (x ∷ xs) e = absurd cc
take_hold f g (p ∷ ps) [] e = absurd cc
take_hold f g (p ∷ ps) (x ∷ xs) e = both_hold (test_holds (takes p) x.1 refl) (take_hold f g ps xs) e

taken_holds : {A : Type 0} (f g : A → Taken) (s : Scope) (xs : List ((x : A) × Stays (f x) (g x)))
    → Holds (taken_by (Some s) (map f (map fst xs))) (taken_by (Some s) (map g (map fst xs)))
taken_holds f g (Own parameters variables) xs e = take_hold f g parameters xs e
taken_holds f g (Of p) xs e = absurd cc
taken_holds f g Level xs e = absurd cc

refines_nothing : (home : Home) → refines home None ≡ false
refines_nothing None = refl
refines_nothing (Some n) = refl

-- ---- each phrase

module _ (outside : Outside) (bodies : List Body) (home : Home) where
  abbrev typed : Action → Bool
  typed = is_typed outside bodies home

  abbrev given : Actual → Taken
  given = fold-Actual Bool Taken (List Kind) Typed Bool Typed (action_typed_step outside bodies home) (actual_kind_step outside bodies home)
      (place_kinds_step outside bodies home) (value_kind_step outside bodies home) (arm_typed_step outside bodies home)
      (value_arm_kind_step outside bodies home)

  abbrev place : PlacePhrase → List Kind
  place = place_kinds outside bodies home

  abbrev shape : ValuePhrase → Typed
  shape = phrase_shape outside bodies home

  abbrev arm_typed : Arm → Bool
  arm_typed = fold-Arm Bool Taken (List Kind) Typed Bool Typed (action_typed_step outside bodies home) (actual_kind_step outside bodies home)
      (place_kinds_step outside bodies home) (value_kind_step outside bodies home) (arm_typed_step outside bodies home)
      (value_arm_kind_step outside bodies home)

  abbrev arm_shape : ValueArm → Typed
  arm_shape = fold-ValueArm Bool Taken (List Kind) Typed Bool Typed (action_typed_step outside bodies home) (actual_kind_step outside bodies home)
      (place_kinds_step outside bodies home) (value_kind_step outside bodies home) (arm_typed_step outside bodies home)
      (value_arm_kind_step outside bodies home)

  -- one layer, from the phrases below it
  abbrev action_layer : Action-F Action Actual PlacePhrase ValuePhrase Arm ValueArm → Bool
  action_layer z = action_typed_step outside bodies home (map-Action _ _ _ _ _ _ _ _ _ _ _ _ typed given place shape arm_typed arm_shape z)

  abbrev actual_layer : Actual-F Action Actual PlacePhrase ValuePhrase Arm ValueArm → Taken
  actual_layer z = actual_kind_step outside bodies home (map-Actual _ _ _ _ _ _ _ _ _ _ _ _ typed given place shape arm_typed arm_shape z)

  abbrev place_layer : PlacePhrase-F Action Actual PlacePhrase ValuePhrase Arm ValueArm → List Kind
  place_layer z = place_kinds_step outside bodies home (map-PlacePhrase _ _ _ _ _ _ _ _ _ _ _ _ typed given place shape arm_typed arm_shape z)

  abbrev value_layer : ValuePhrase-F Action Actual PlacePhrase ValuePhrase Arm ValueArm → Typed
  value_layer z = value_kind_step outside bodies home (map-ValuePhrase _ _ _ _ _ _ _ _ _ _ _ _ typed given place shape arm_typed arm_shape z)

  -- the tests of a call, and of a refinement that is named
  abbrev called : List Actual → (Typed → Bool) → Option Body → Bool
  called as' test o = taken_by (scope_of o) (map given as') && test (delivered_by o)

  abbrev referred : (Typed → Bool) → Option Body → Bool
  referred test o = refines (owner bodies home) (scope_of o) && test (delivered_by o)

-- Here the body stands in which the phrases are.
module _ (few many : Outside) (packets : Before few.packets many.packets) (variables : Before few.variables many.variables) (bodies more : List Body) (n : ℕ)
    (body : Body) (there : slice_get bodies n ≡ Some body) where
  abbrev all : List Body
  all = bodies ++ more

  abbrev home : Home
  home = Some n

  abbrev Q : Action → Type 0
  Q a = Holds (typed few bodies home a) (typed many all home a)

  abbrev N : Actual → Type 0
  N a = Stays (given few bodies home a) (given many all home a)

  abbrev W : PlacePhrase → Type 0
  W p = Before (place few bodies home p) (place many all home p)

  abbrev P : ValuePhrase → Type 0
  P v = Stays (shape few bodies home v) (shape many all home v)

  abbrev R : Arm → Type 0
  R a = Holds (arm_typed few bodies home a) (arm_typed many all home a)

  abbrev S : ValueArm → Type 0
  S a = Stays (arm_shape few bodies home a) (arm_shape many all home a)

  abbrev Below : (Type 0 → Type 0 → Type 0 → Type 0 → Type 0 → Type 0 → Type 0) → Type 0
  Below F = F ((a : Action) × Q a) ((a : Actual) × N a) ((p : PlacePhrase) × W p) ((v : ValuePhrase) × P v) ((a : Arm) × R a) ((a : ValueArm) × S a)

  -- ---- the bodies that a phrase names

  found : (p : ℕ) → Stays (slice_get bodies p) (slice_get all p)
  found = found_more bodies more

  owner_kept : owner bodies home ≡ owner all home
  owner_kept = ap (λ o. owner_at n (scope_of o)) (there ∙ sym (found n body there))

  frame_in_before : (h : Home) → Before (frame_in bodies h) (frame_in all h)
  frame_in_before None = ([], refl)
  frame_in_before (Some p) = some_before (λ o. frame_at (scope_of o)) (found p) refl

  frame_before : Before (frame_here few bodies home) (frame_here many all home)
  frame_before = subst (λ o. Before (frame_here few bodies home) (frame_in all o)) owner_kept (frame_in_before (owner bodies home))

  -- of a body that is not there no delivery is asked
  call_holds : (p : ℕ) (as' : List ((a : Actual) × N a)) (test : Typed → Bool)
      → Holds (called few bodies home (map fst as') test (slice_get bodies p)) (called many all home (map fst as') test (slice_get all p))
  call_holds p as' test =
      some_holds (called few bodies home (map fst as') test) (called many all home (map fst as') test) (found p) refl
      (λ b. both_hold (taken_holds _ _ b.scope as') (λ e. e))

  refer_holds : (p : ℕ) (test : Typed → Bool) → Holds (referred few bodies home test (slice_get bodies p)) (referred many all home test (slice_get all p))
  refer_holds p test =
      some_holds (referred few bodies home test) (referred many all home test) (found p)
      (ap (λ b. b && test None) (refines_nothing (owner bodies home)))
      (λ b e. subst (λ o. (refines o (Some b.scope) && test (delivered_by (Some b))) ≡ true) owner_kept e)

  around_stays : (s : Scope) → Stays (around bodies (Some s)) (around all (Some s))
  around_stays (Own parameters variables) x e = absurd cc
  around_stays (Of p) x e = some_stays result_of result_of (found p) refl (λ b y i. i) x e
  around_stays Level x e = absurd cc

  left_stays : (e : Exit) → Stays (left_from bodies e home) (left_from all e home)
  left_stays exits.Body = some_stays result_of result_of (found n) refl (λ b y i. i)
  left_stays exits.Around = some_stays (λ o. around bodies (scope_of o)) (λ o. around all (scope_of o)) (found n) refl (λ b. around_stays b.scope)

  -- ---- one layer

  place_here : (y : Below PlacePhrase-F)
      → Before (place_layer few bodies home (map-PlacePhrase _ _ _ _ _ _ _ _ _ _ _ _ fst fst fst fst fst fst y))
      (place_layer many all home (map-PlacePhrase _ _ _ _ _ _ _ _ _ _ _ _ fst fst fst fst fst fst y))
  place_here (t.Variable x) = by_more (drop x) (drop_more x) _ variables
  place_here (t.Packet x) = by_more (drop x) (drop_more x) _ packets
  place_here (t.Local x) = by_more values_held values_more _ (by_more (drop x) (drop_more x) _ frame_before)
  place_here (t.Parameter x) = by_more (λ l. place_held (slice_get l x)) (held_more x) _ frame_before
  place_here (t.Item p a items) = if_before _ (has_holds _ a.1) (by_more (item_kinds items.count items.cells) (items_more items.count items.cells) _ p.1)
  place_here (t.Field p before) = by_more (drop before) (drop_more before) _ p.1
  place_here (t.Content p s) = if_before _ (both_hold (starts_hold (kinds.Space ∷ []) _ p.1) (λ e. e)) ([], sym (append-nil (cell_kinds s)))

  value_here : (y : Below ValuePhrase-F)
      → Stays (value_layer few bodies home (map-ValuePhrase _ _ _ _ _ _ _ _ _ _ _ _ fst fst fst fst fst fst y))
      (value_layer many all home (map-ValuePhrase _ _ _ _ _ _ _ _ _ _ _ _ fst fst fst fst fst fst y))
  value_here (t.Number z) = λ x e. e
  value_here (t.Truth b) = λ x e. e
  value_here (t.Text z) = λ x e. e
  value_here (t.Load p s) = only_if_stays (starts_hold (cell_kinds s) _ p.1) (λ x e. e)
  value_here (t.Apply op as') = only_if_stays (have_hold _ _ (operand_kinds op) as') (λ x e. e)
  value_here (t.ValuePhrase::If c a b) = only_if_stays (both_hold (has_holds _ c.1) (agree_holds a.1 b.1)) a.1
  value_here (t.ValuePhrase::Select v arms other) = only_if_stays (both_hold (has_holds _ v.1) (agree_hold _ _ other.1 arms)) other.1
  value_here (t.ValuePhrase::Unit a) = a.1
  value_here (t.After us a) = only_if_stays (all_hold _ _ us) a.1
  value_here (t.Never s) = λ x e. e
  value_here (t.ValuePhrase::Call p as' s) = only_if_stays (call_holds p as' (has_shape s)) (λ x e. e)
  value_here (t.ValuePhrase::Refer p s) = only_if_stays (refer_holds p (has_shape s)) (λ x e. e)
  value_here (t.Pick a i items s) = only_if_stays (both_hold (has_holds _ a.1) (both_hold (has_holds _ i.1) (λ e. e))) (λ x e. e)
  value_here (t.Take a part s) = only_if_stays (test_holds (has_part part (cell_kinds s)) a.1 refl) (λ x e. e)
  value_here (t.ValuePhrase::Ask name as') = only_if_stays (take_hold _ _ (request_formals name) as') (λ x e. e)
  value_here (t.Consult op as') = only_if_stays (have_hold _ _ (space_operand_kinds op) as') (λ x e. e)

  actual_here : (y : Below Actual-F)
      → Stays (actual_layer few bodies home (map-Actual _ _ _ _ _ _ _ _ _ _ _ _ fst fst fst fst fst fst y))
      (actual_layer many all home (map-Actual _ _ _ _ _ _ _ _ _ _ _ _ fst fst fst fst fst fst y))
  actual_here (t.Value a) = some_stays (given_as Const) (given_as Const) a.1 refl (λ s x e. e)
  actual_here (t.Place p s) =
      some_stays (given_as Var) (given_as Var) (only_if_stays (starts_hold (cell_kinds s) _ p.1) (λ x e. e)) refl (λ s x e. e)

  -- A part that may be left out is mapped only where it is known which it is, so loops are told apart below.
  left_out : Holds true true
  left_out e = e

  counted : {a b c d e f g h : Bool} (p : (p : PlacePhrase) × W p) (from : (v : ValuePhrase) × P v) → Holds a e → Holds b f → Holds c g → Holds d h
      → Holds (starts (kinds.Int ∷ []) (place few bodies home p.0) && (has kinds.Int (shape few bodies home from.0) && (a && (b && (c && d)))))
      (starts (kinds.Int ∷ []) (place many all home p.0) && (has kinds.Int (shape many all home from.0) && (e && (f && (g && h)))))
  counted p from limit condition us until =
      both_hold (starts_hold (kinds.Int ∷ []) _ p.1) (both_hold (has_holds _ from.1) (both_hold limit (both_hold condition (both_hold us until))))

  action_here : (y : Below Action-F)
      → Holds (action_layer few bodies home (map-Action _ _ _ _ _ _ _ _ _ _ _ _ fst fst fst fst fst fst y))
      (action_layer many all home (map-Action _ _ _ _ _ _ _ _ _ _ _ _ fst fst fst fst fst fst y))
  action_here (t.Action::Unit us) = all_hold _ _ us
  action_here (t.Store p s a) = both_hold (starts_hold (cell_kinds s) _ p.1) (has_holds _ a.1)
  action_here (t.Modify change p a) = both_hold (starts_hold (change_kind change ∷ []) _ p.1) (has_holds _ a.1)
  action_here (t.Action::If c us vs) = both_hold (has_holds _ c.1) (both_hold (all_hold _ _ us) (all_hold _ _ vs))
  action_here (t.Action::Select a arms vs) = both_hold (has_holds _ a.1) (both_hold (all_hold _ _ arms) (all_hold _ _ vs))
  action_here (t.Loop None us None) = both_hold left_out (both_hold (all_hold _ _ us) left_out)
  action_here (t.Loop None us (Some u)) = both_hold left_out (both_hold (all_hold _ _ us) (has_holds _ u.1))
  action_here (t.Loop (Some c) us None) = both_hold (has_holds _ c.1) (both_hold (all_hold _ _ us) left_out)
  action_here (t.Loop (Some c) us (Some u)) = both_hold (has_holds _ c.1) (both_hold (all_hold _ _ us) (has_holds _ u.1))
  action_here (t.Count p from way None None us None) = counted p from left_out left_out (all_hold _ _ us) left_out
  action_here (t.Count p from way None None us (Some u)) = counted p from left_out left_out (all_hold _ _ us) (has_holds _ u.1)
  action_here (t.Count p from way None (Some c) us None) = counted p from left_out (has_holds _ c.1) (all_hold _ _ us) left_out
  action_here (t.Count p from way None (Some c) us (Some u)) = counted p from left_out (has_holds _ c.1) (all_hold _ _ us) (has_holds _ u.1)
  action_here (t.Count p from way (Some a) None us None) = counted p from (has_holds _ a.1) left_out (all_hold _ _ us) left_out
  action_here (t.Count p from way (Some a) None us (Some u)) = counted p from (has_holds _ a.1) left_out (all_hold _ _ us) (has_holds _ u.1)
  action_here (t.Count p from way (Some a) (Some c) us None) = counted p from (has_holds _ a.1) (has_holds _ c.1) (all_hold _ _ us) left_out
  action_here (t.Count p from way (Some a) (Some c) us (Some u)) = counted p from (has_holds _ a.1) (has_holds _ c.1) (all_hold _ _ us) (has_holds _ u.1)
  action_here (t.Action::Ask name as') = both_hold (take_hold _ _ (request_formals name) as') (λ e. e)
  action_here (t.ErrorStop a) = has_holds _ a.1
  action_here (t.Action::Call p as') = call_holds p as' is_none
  action_here (t.Action::Refer p) = refer_holds p is_none
  action_here (t.Leave x) = test_holds leaves_without (left_stays x) refl
  action_here (t.LeaveWith x s a) = both_hold (has_holds _ a.1) (test_holds (leaves_with s) (left_stays x) refl)
  action_here (t.Perform op as') = both_hold (have_hold _ _ (space_operand_kinds op) as') (λ e. e)
  action_here (t.Copy p a) = both_hold (starts_hold (kinds.Space ∷ []) _ p.1) (has_holds _ a.1)
  action_here (t.Bind p s a) = both_hold (starts_hold (kinds.Space ∷ []) _ p.1) (has_holds _ a.1)

  action_stays : (a : Action) → Q a
  action_stays = ind-Action Q N W P R S
      (λ x y is. rw (fold-roll-Action, fold-roll-Action, ← is) (action_here y))
      (λ x y is. rw (fold-roll-Actual, fold-roll-Actual, ← is) (actual_here y))
      (λ x y is. rw (fold-roll-PlacePhrase, fold-roll-PlacePhrase, ← is) (place_here y))
      (λ x y is. rw (fold-roll-ValuePhrase, fold-roll-ValuePhrase, ← is) (value_here y))
      (λ x y is. rw (fold-roll-Arm, fold-roll-Arm, ← is) (all_hold _ _ y.units))
      (λ x y is. rw (fold-roll-ValueArm, fold-roll-ValueArm, ← is) y.value.1)

  value_stays : (v : ValuePhrase) → P v
  value_stays = ind-ValuePhrase Q N W P R S
      (λ x y is. rw (fold-roll-Action, fold-roll-Action, ← is) (action_here y))
      (λ x y is. rw (fold-roll-Actual, fold-roll-Actual, ← is) (actual_here y))
      (λ x y is. rw (fold-roll-PlacePhrase, fold-roll-PlacePhrase, ← is) (place_here y))
      (λ x y is. rw (fold-roll-ValuePhrase, fold-roll-ValuePhrase, ← is) (value_here y))
      (λ x y is. rw (fold-roll-Arm, fold-roll-Arm, ← is) (all_hold _ _ y.units))
      (λ x y is. rw (fold-roll-ValueArm, fold-roll-ValueArm, ← is) y.value.1)

  units_stay : (us : List Action) → Holds (all_true (map (typed few bodies home) us)) (all_true (map (typed many all home) us))
  units_stay [] e = refl
  units_stay (u ∷ us) e = both_hold (action_stays u) (units_stay us) e

-- ---- bodies and scopes, as they stand

module _ (few many : Outside) (packets : Before few.packets many.packets) (variables : Before few.variables many.variables) (bodies more : List Body) where
  pub content_stays : (n : ℕ) (b : Body) → slice_get bodies n ≡ Some b → (c : Content) → is_content_typed few bodies (Some n) c ≡ true
      → is_content_typed many (bodies ++ more) (Some n) c ≡ true
  content_stays n b is (contents.Units us) e = units_stay few many packets variables bodies more n b is us e
  content_stays n b is (contents.Value s v) e = has_holds _ (value_stays few many packets variables bodies more n b is v) e

  pub scope_stays : (s : Scope) → IsScope bodies s → IsScope (bodies ++ more) s
  scope_stays (Own parameters variables) i = tt
  scope_stays (Of p) i = (i.0, (i.1.0, (i.1.1.0, found_more bodies more p i.0 i.1.1.1, i.1.1.2)))
  scope_stays Level i = tt
