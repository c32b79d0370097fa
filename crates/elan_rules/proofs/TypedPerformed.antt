-- What can be called means what has the shapes that it asks for.
use Rattle.std.proofs.Common.{◌≡◌, ℕ, Bool, true, false, if◌then◌else◌, List, [], ◌∷◌, ◌++◌, ◌+◌, suc, arith, map, Option, Some, None, refl, sym, ap, subst}
use Rattle.std.proofs.Common.{◌∙◌}
use Rattle.elan_types.specs.declared.elan_type.ElanType.{ElanType}
use Rattle.eu_base.specs.declared.value.Kind.TheVariants as kinds
use Rattle.elan_types.specs.declared.core_phrase.Formal.{Formal}
use Rattle.elan_types.specs.declared.core_phrase.PlacePhrase.{PlacePhrase}
use Rattle.elan_types.specs.declared.core_phrase.ValuePhrase.{ValuePhrase}
use Rattle.elan_types.specs.declared.core_phrase.Action.{Action}
use Rattle.elan_types.specs.declared.core_phrase.Action.TheVariants as action
use Rattle.elan_meant.specs.declared.meant.Meant.{Meant}
use Rattle.std.specs.Prelude.{slice_get, option_map}
use Rattle.elan_types.specs.declared.core_phrase.Access.{Access}
use Rattle.elan_types.specs.declared.core_phrase.Access.TheVariants.{Const, Var}
use Rattle.elan_types.specs.declared.elan_type.Parameter.{Parameter}
use Rattle.elan_types.specs.declared.core_phrase.Actual.{Actual}
use Rattle.elan_types.specs.declared.core_phrase.Actual.TheVariants as actual
use Rattle.elan_types.specs.declared.core_phrase.Scope.{Scope as Owner}
use Rattle.elan_types.specs.declared.core_phrase.Scope.TheVariants as owner
use Rattle.elan_types.specs.declared.core_phrase.Body.{Body}
use Rattle.elan_types.specs.Typing.{Typed, Taken, same_access, formal, starts, only_if, have, has_shape, takes, take_all, taken_by, given_as}
use Rattle.elan_types.specs.Typing.{result_of_content, delivered_by, scope_of, is_none, request_formals}
use Rattle.elan_types.specs.Types.{shape_in, type_in, formal_of, held_var, values_of}
use Rattle.elan_scope.specs.declared.delivery.Delivery.{Delivery}
use Rattle.elan_scope.specs.declared.delivery.Delivery.TheVariants.{Open, Nothing, Of}
use Rattle.elan_names.specs.declared.heading.What.{What}
use Rattle.elan_names.specs.declared.heading.What.TheVariants.{Routine, Refinement}
use Rattle.elan_names.specs.declared.heading.Heading.{Heading}
use Rattle.elan_scope.specs.Scope as scope
use Rattle.std.specs.Option.{option_or}
use Rattle.elan_scope.specs.Scope.{Callable}
use Rattle.eu_base.specs.declared.value.Kind.{Kind}
use Rattle.eu_base.specs.declared.shape.Shape.{Shape}
use Rattle.eu_base.specs.declared.shape.Shape.TheVariants.{Cell}
use Rattle.eu_base.specs.Shapes.{cell_kinds, same_shape}
use Rattle.eu_base.specs.Operations.{operand_kinds, result_kind, change_kind}
use Rattle.eu_base.specs.Requests.{request_kinds, request_places, request_result}
use Rattle.eu_base.specs.declared.request.RequestName.{RequestName}
use Rattle.eu_base.specs.declared.space_operation.SpaceOperation.{SpaceOperation}
use Rattle.eu_base.specs.SpaceOperations.{space_operand_kinds, space_result_kind}
use Rattle.elan_names.specs.Callees.{Callee}
use Rattle.elan_names.specs.Callees as Callees
use Rattle.elan_names.specs.declared.predefined.Predefined.{Predefined}
use Rattle.elan_names.specs.declared.predefined.Predefined.TheVariants.{Operation, Change, Request, OnSpaces, ErrorStop}
use Rattle.elan_names.specs.Predefined.{Row, parameters, result}
use Rattle.elan_meant.specs.Operands.{delivers, fit}
use Rattle.elan_types.proofs.Shapes.{same_shape_self, same_shape_is}
use Rattle.elan_rules.proofs.Typed as ty
use Rattle.elan_rules.proofs.Typed.{type_shape, has_self, agree_self, only_if_holds, both, and_true, Gives, on_if, on_bind}
use Rattle.elan_meant.specs.Parts as p
use Rattle.value_rules.specs.Calls as r
use Rattle.elan_rules.proofs.TypeEquations.{Stand, shape, cells, actual_taken, apply_is, consult_is, modify_is, perform_is, ask_is, answer_is, error_stop_is, call_is, action_call_is}
use Rattle.elan_rules.proofs.TypeEquations.{given_value_is, given_place_is}

-- ---- bodies as their headings tell

abbrev pub owner_with : Option ℕ → Owner
owner_with None = owner.Level
owner_with (Some n) = owner.Of n

-- the number among all bodies of one of a level, before whose bodies there are so many
abbrev pub behind : ℕ → Option ℕ → Option ℕ
behind before o = option_map (λ n. before + n) o

abbrev pub Headed : ℕ → What → Body → Type 0
Headed before (Routine sort ps r) b =
    (vs : List Kind) × (b.scope ≡ owner.Own (map formal_of ps) vs) × (result_of_content b.content ≡ option_map shape_in r)
Headed before (Refinement home) b = b.scope ≡ owner_with (behind before home)

abbrev pub Delivering : Delivery → Body → Type 0
Delivering Open b = ⊥
Delivering Nothing b = result_of_content b.content ≡ None
Delivering (Of t) b = result_of_content b.content ≡ Some (shape_in t)

pub record BodyFits (before : ℕ) (o : Option Body) (h : Heading) (d : Delivery) : Type 0 where
  pub body : Body
  pub is : o ≡ Some body
  pub headed : Headed before h.what body
  pub delivers : Delivering d body

-- ---- what is predefined, as a core knows it

all_formals : (ks js : List Kind)
    → map formal_of (values_of ks ++ map (λ k. held_var (type_in k)) js) ≡ map (λ k. formal Const (Cell k)) ks ++ map (λ k. formal Var (Cell k)) js
all_formals [] [] = refl
all_formals [] (j ∷ js) =
    ap (λ (i : Shape). formal Var i ∷ map formal_of (map (λ k. held_var (type_in k)) js)) (type_shape j)
    ∙ ap (λ (fs : List Formal). formal Var (Cell j) ∷ fs) (all_formals [] js)
all_formals (k ∷ ks) js =
    ap (λ (i : Shape). formal Const i ∷ map formal_of (values_of ks ++ map (λ k. held_var (type_in k)) js)) (type_shape k)
    ∙ ap (λ (fs : List Formal). formal Const (Cell k) ∷ fs) (all_formals ks js)

value_formals : (ks : List Kind) → map formal_of (values_of ks) ≡ map (λ k. formal Const (Cell k)) ks
value_formals [] = refl
value_formals (k ∷ ks) =
    ap (λ (i : Shape). formal Const i ∷ map formal_of (values_of ks)) (type_shape k)
    ∙ ap (λ (fs : List Formal). formal Const (Cell k) ∷ fs) (value_formals ks)

change_formals : (k : Kind) → map formal_of (held_var (type_in k) ∷ values_of (k ∷ [])) ≡ formal Var (Cell k) ∷ formal Const (Cell k) ∷ []
change_formals k =
    ap (λ (i : Shape). formal Var i ∷ map formal_of (values_of (k ∷ []))) (type_shape k)
    ∙ ap (λ (fs : List Formal). formal Var (Cell k) ∷ fs) (value_formals (k ∷ []))

module _ (here : Stand) where
  abbrev Has : Shape → ValuePhrase → Type 0
  Has = ty.Has here

  abbrev AllTyped : List Action → Type 0
  AllTyped = ty.AllTyped here

  abbrev Good : Meant → Type 0
  Good = ty.Good here

  abbrev AllGood : List Meant → Type 0
  AllGood = ty.AllGood here

  abbrev Stands : Shape → PlacePhrase → Type 0
  Stands = ty.Stands here

  abbrev Lies : Shape → PlacePhrase → Type 0
  Lies = ty.Lies here

  -- ---- what parameters are given

  abbrev GivenFor : Formal → Actual → Type 0
  GivenFor f a = takes f (actual_taken here a) ≡ true

  same_access_self : (a : Access) → same_access a a ≡ true
  same_access_self Const = refl
  same_access_self Var = refl

  takes_self : (s : Shape) (a : Access) (b : Taken) → b ≡ Some (formal a s) → takes (formal a s) b ≡ true
  takes_self s a b e = subst (λ (c : Taken). takes (formal a s) c ≡ true) (sym e) (and_true _ _ (same_shape_self s) (same_access_self a))

  given_as_typed : (a : Access) (s : Shape) (b : Typed) → b ≡ Some s → given_as a b ≡ Some (formal a s)
  given_as_typed a s b e = ap (given_as a) e

  place_given : (s : Shape) (x : PlacePhrase) → Lies s x → GivenFor (formal Var s) (actual.Place x s)
  place_given s x l = takes_self s Var _ (given_place_is here x s ∙ given_as_typed Var s _ (only_if_holds _ _ s l.0 refl))

  given_as_good : (at : ℕ) (a : Access) (t : ElanType) (m : Meant) → Good m → delivers t m ≡ true
      → Gives (GivenFor (formal a (shape_in t))) (r.given_as at a t m)
  given_as_good at Const t m g e =
      takes_self (shape_in t) Const _ (given_value_is here (p.value_of m) ∙ given_as_typed Const (shape_in t) _ (ty.value_typed here t m g e))
  given_as_good at Var t m g e =
      on_bind (Lies (shape_in t)) (GivenFor (formal Var (shape_in t))) (p.variable at m) _ (ty.variable_good here at t m g e)
      (λ x l. place_given (shape_in t) x l)

  abbrev AllGiven : List Formal → List Actual → Type 0
  AllGiven fs as' = take_all fs (map (actual_taken here) as') ≡ true

  given_good : (at : ℕ) (ps : List Parameter) (ms : List Meant) → AllGood ms → fit ps ms ≡ true → Gives (AllGiven (map formal_of ps)) (r.given at ps ms)
  given_good at [] [] g e = refl
  given_good at [] (m ∷ ms) g e = absurd cc
  given_good at (q ∷ ps) [] g e = absurd cc
  given_good at (q ∷ ps) (m ∷ ms) g e =
      let b = both _ _ e in
      let fs = map formal_of ps in
      on_bind (GivenFor (formal_of q)) (AllGiven (formal_of q ∷ fs)) (r.given_as at q.access q.of m) _ (given_as_good at q.access q.of m g.0 b.0)
      (λ x h. on_bind (AllGiven fs) (AllGiven (formal_of q ∷ fs)) (r.given at ps ms) _ (given_good at ps ms g.1 b.1) (λ xs i. and_true _ _ h i))

  -- ---- calls

  taken_holds : (n : ℕ) (b : Body) (fs : List Formal) (vs : List Kind) (as' : List Taken) → slice_get here.bodies n ≡ Some b → b.scope ≡ owner.Own fs vs
      → take_all fs as' ≡ true → taken_by (scope_of (slice_get here.bodies n)) as' ≡ true
  taken_holds n b fs vs as' e o h =
      ap (λ (c : Option Body). taken_by (scope_of c) as') e ∙ ap (λ (z : Owner). taken_by (Some z) as') o ∙ h

  pub none_holds : (n : ℕ) (b : Body) → slice_get here.bodies n ≡ Some b → result_of_content b.content ≡ None
      → is_none (delivered_by (slice_get here.bodies n)) ≡ true
  none_holds n b e o = ap (λ (c : Option Body). is_none (delivered_by c)) e ∙ ap is_none o

  pub has_holds : (n : ℕ) (b : Body) (s : Shape) → slice_get here.bodies n ≡ Some b → result_of_content b.content ≡ Some s
      → has_shape s (delivered_by (slice_get here.bodies n)) ≡ true
  has_holds n b s e o = has_self s _ (ap delivered_by e ∙ o)

  -- ---- what a callee does with it

  -- It means what has the shapes that it asks for, where its parameters are given what they take.
  abbrev pub Performs : Callee → List Parameter → Option ElanType → Type 0
  Performs f ps o = (as' : List Actual) → AllGiven (map formal_of ps) as' → (at : ℕ) → Gives Good (r.performed at f o as')

  body_performs : (n : ℕ) (b : Body) (ps : List Parameter) (vs : List Kind) (o : Option ElanType) → slice_get here.bodies n ≡ Some b
      → b.scope ≡ owner.Own (map formal_of ps) vs → result_of_content b.content ≡ option_map shape_in o → Performs (Callees.Body n) ps o
  body_performs n b ps vs None e z d as' h at =
      ty.single_typed here (action.Call n as') (action_call_is here n as' ∙ and_true _ _ (taken_holds n b (map formal_of ps) vs _ e z h) (none_holds n b e d))
  body_performs n b ps vs (Some t) e z d as' h at =
      let s = shape_in t in
      call_is here n as' s ∙ only_if_holds _ _ s (and_true _ _ (taken_holds n b (map formal_of ps) vs _ e z h) (has_holds n b s e d)) refl

  -- a value is given for a CONST parameter, a place for a VAR parameter
  value_has : (s : Shape) (v : ValuePhrase) → GivenFor (formal Const s) (actual.Value v) → has_shape s (shape here v) ≡ true
  value_has s v h = by_shape (shape here v) (subst (λ (b : Taken). takes (formal Const s) b ≡ true) (given_value_is here v) h)
    where
      by_shape : (a : Typed) → takes (formal Const s) (given_as Const a) ≡ true → has_shape s a ≡ true
      by_shape None e = absurd cc
      by_shape (Some r) e = (both (same_shape s r) _ e).0

  no_place : (s r : Shape) (x : PlacePhrase) → GivenFor (formal Const s) (actual.Place x r) → ⊥
  no_place s r x h =
      by_shape (only_if (starts (cell_kinds r) (cells here x)) (Some r)) (subst (λ (b : Taken). takes (formal Const s) b ≡ true) (given_place_is here x r) h)
    where
      by_shape : (a : Typed) → takes (formal Const s) (given_as Var a) ≡ true → ⊥
      by_shape None e = cc
      by_shape (Some q) e = let f = (both (same_shape s q) _ e).1 in cc

  place_stands : (s r : Shape) (x : PlacePhrase) → GivenFor (formal Var s) (actual.Place x r) → Stands s x
  place_stands s r x h =
      by_test (starts (cell_kinds r) (cells here x)) refl (subst (λ (b : Taken). takes (formal Var s) b ≡ true) (given_place_is here x r) h)
    where
      by_test : (b : Bool) → starts (cell_kinds r) (cells here x) ≡ b → takes (formal Var s) (given_as Var (only_if b (Some r))) ≡ true → Stands s x
      by_test true g e = subst (λ (q : Shape). Stands q x) (sym (same_shape_is s r (both (same_shape s r) _ e).0)) g
      by_test false g e = absurd cc

  values_have : (ks : List Kind) (as' : List Actual) → AllGiven (map (λ k. formal Const (Cell k)) ks) as' → have ks (map (shape here) (r.values_in as')) ≡ true
  values_have [] [] h = refl
  values_have [] (a ∷ as') h = absurd cc
  values_have (k ∷ ks) [] h = absurd cc
  values_have (k ∷ ks) (actual.Value v ∷ as') h = let b = both _ _ h in and_true _ _ (value_has (Cell k) v b.0) (values_have ks as' b.1)
  values_have (k ∷ ks) (actual.Place x s ∷ as') h = absurd (no_place (Cell k) s x (both _ _ h).0)

  -- parameters are given what they take, as a core knows them
  given_by : (fs gs : List Formal) (as' : List Actual) → fs ≡ gs → AllGiven fs as' → AllGiven gs as'
  given_by fs gs as' e h = subst (λ (hs : List Formal). AllGiven hs as') e h

  request_performs : (q : RequestName) (as' : List Actual) (at : ℕ) → AllGiven (request_formals q) as' → (o : Option Kind) → request_result q ≡ o
      → Gives Good (r.performed at (Callees.Predefined (Request q)) (option_map type_in o) as')
  request_performs q as' at k None e =
      ty.single_typed here (action.Ask q as') (ask_is here q as' ∙ and_true _ _ k (ap (λ (o : Option Kind). is_none (option_map Cell o)) e))
  request_performs q as' at k (Some kind) e =
      answer_is here q as'
      ∙ only_if_holds _ _ _ k (ap (λ (o : Option Kind). option_map Cell o) e ∙ ap (λ (i : Shape). Some i) (sym (type_shape kind)))

  spaces_perform : (o : SpaceOperation) (as' : List Actual) (at : ℕ) → have (space_operand_kinds o) (map (shape here) (r.values_in as')) ≡ true
      → (q : Option Kind) → space_result_kind o ≡ q → Gives Good (r.performed at (Callees.Predefined (OnSpaces o)) (option_map type_in q) as')
  spaces_perform o as' at k None e =
      let act = action.Perform o (r.values_in as') in
      ty.single_typed here act (perform_is here o (r.values_in as') ∙ and_true _ _ k (ap (λ (q : Option Kind). is_none (option_map Cell q)) e))
  spaces_perform o as' at k (Some kind) e =
      consult_is here o (r.values_in as')
      ∙ only_if_holds _ _ _ k (ap (λ (q : Option Kind). option_map Cell q) e ∙ ap (λ (i : Shape). Some i) (sym (type_shape kind)))

  pub predefined_performs : (f : Predefined) → Performs (Callees.Predefined f) (parameters f) (result f)
  predefined_performs (Operation o) as' h at =
      let ks = operand_kinds o in
      let k = result_kind o in
      apply_is here o (r.values_in as')
      ∙ only_if_holds _ _ _ (values_have ks as' (given_by _ _ as' (value_formals ks) h)) (ap (λ (i : Shape). Some i) (sym (type_shape k)))
  predefined_performs (Change c) [] h at = tt
  predefined_performs (Change c) (actual.Value v ∷ as') h at = tt
  predefined_performs (Change c) (actual.Place x t ∷ []) h at = tt
  predefined_performs (Change c) (actual.Place x s ∷ actual.Value v ∷ []) h at =
      let k = change_kind c in
      let b = both _ _ (given_by _ _ (actual.Place x s ∷ actual.Value v ∷ []) (change_formals k) h) in
      ty.single_typed here (action.Modify c x v) (modify_is here c x v
      ∙ and_true _ _ (ty.cell_there here k x (place_stands (Cell k) s x b.0)) (value_has (Cell k) v (both _ _ b.1).0))
  predefined_performs (Change c) (actual.Place x t ∷ actual.Value v ∷ a ∷ as') h at = tt
  predefined_performs (Change c) (actual.Place x t ∷ actual.Place y u ∷ as') h at = tt
  predefined_performs (Request q) as' h at =
      request_performs q as' at (given_by _ _ as' (all_formals (request_kinds q) (request_places q)) h) (request_result q) refl
  predefined_performs (OnSpaces o) as' h at =
      let ks = space_operand_kinds o in
      spaces_perform o as' at (values_have ks as' (given_by _ _ as' (value_formals ks) h)) (space_result_kind o) refl
  predefined_performs ErrorStop [] h at = tt
  predefined_performs ErrorStop (actual.Place x t ∷ as') h at = tt
  predefined_performs ErrorStop (actual.Value v ∷ []) h at =
      let b = both _ _ (given_by _ _ (actual.Value v ∷ []) (value_formals (kinds.Text ∷ [])) h) in
      ty.single_typed here (action.ErrorStop v) (error_stop_is here v ∙ value_has (Cell kinds.Text) v b.0)
  predefined_performs ErrorStop (actual.Value v ∷ a ∷ as') h at = tt

  -- ---- what can be called

  abbrev pub Calls : Callable → Type 0
  Calls c = Performs c.callee c.parameters c.result

  abbrev AllCall : List Callable → Type 0
  AllCall [] = Unit {0}
  AllCall (c ∷ cs) = Calls c × AllCall cs

  pub predefined_calls : (rs : List Row) → AllCall (map scope.predefined_callable rs)
  predefined_calls [] = tt
  predefined_calls (l ∷ rs) = (predefined_performs l.2, predefined_calls rs)

  -- The bodies from this number on are those of these headings, in a level before whose bodies there are so many.
  abbrev pub Fitting : ℕ → ℕ → List Heading → Type 0
  Fitting before n hs = (i : ℕ) (h : Heading) → slice_get hs i ≡ Some h → (d : Delivery) × BodyFits before (slice_get here.bodies (n + i)) h d

  module _ (before : ℕ) where
    one_calls : (n : ℕ) (x : List ℕ) (w : What) (b : Body) (rest : List Callable) → slice_get here.bodies n ≡ Some b → Headed before w b → AllCall rest
        → AllCall (scope.own_callable n x w ++ rest)
    one_calls n x (Routine sort ps o) b rest e h g = (body_performs n b ps h.0 o e h.1 h.2, g)
    one_calls n x (Refinement home) b rest e h g = g

    pub own_calls : (n : ℕ) (hs : List Heading) → Fitting before n hs → AllCall (scope.own_callables n hs)
    own_calls n [] f = tt
    own_calls n (h ∷ hs) f =
        let b = (f 0 h refl).1 in
        let z : n + 0 ≡ n = omega arith in
        one_calls n h.name h.what b.body (scope.own_callables (n + 1) hs) (ap (slice_get here.bodies) (sym z) ∙ b.is) b.headed
        (own_calls (n + 1) hs (λ i g e.
        let y : n + suc i ≡ n + 1 + i = omega arith in
        let c = f (suc i) g e in
        (c.0, subst (λ (m : ℕ). BodyFits before (slice_get here.bodies m) g c.0) y c.1)))

  abbrev pub MayCall : (Callable → Bool) → Option Callable → Type 0
  MayCall test None = Unit {0}
  MayCall test (Some c) = Calls c × (test c ≡ true)

  pub first_calls : (test : Callable → Bool) (cs : List Callable) → AllCall cs → MayCall test (scope.first test cs)
  first_calls test [] g = tt
  first_calls test (c ∷ cs) g = by_test (first_calls test cs g.1) (test c) refl
    where
      by_test : MayCall test (scope.first test cs) → (b : Bool) → test c ≡ b → MayCall test (if b then Some c else scope.first test cs)
      by_test rest true e = (g.0, e)
      by_test rest false e = rest

  pub else_calls : (test : Callable → Bool) (o q : Option Callable) → MayCall test o → MayCall test q → MayCall test (option_or o q)
  else_calls test None q h i = i
  else_calls test (Some c) q h i = h

  pub called_good : (at : ℕ) (c : Callable) (ms : List Meant) → Calls c → AllGood ms → fit c.parameters ms ≡ true → Gives Good (r.called at c ms)
  called_good at c ms h g e =
      on_bind (AllGiven (map formal_of c.parameters)) Good (r.given at c.parameters ms) _ (given_good at c.parameters ms g e) (λ as' i. h as' i at)
