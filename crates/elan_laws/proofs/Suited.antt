-- What is chosen does something with what it is given.
use Rattle.std.proofs.Common.{◌≡◌, ℕ, ◌+◌, Bool, true, false, ◌&&◌, if◌then◌else◌, List, [], ◌∷◌, ◌++◌, map, Option, Some, None, refl, subst}
use Rattle.elan_types.specs.declared.elan_type.ElanType.{ElanType}
use Rattle.elan_types.specs.declared.elan_type.ElanType.TheVariants.{Text}
use Rattle.elan_types.specs.declared.core_phrase.Actual.{Actual}
use Rattle.elan_types.specs.declared.core_phrase.Actual.TheVariants as actual
use Rattle.elan_types.specs.declared.core_phrase.Action.TheVariants as action
use Rattle.elan_types.specs.declared.core_phrase.ValuePhrase.TheVariants as value
use Rattle.eu_base.specs.declared.operation.Change.{Change as Changed}
use Rattle.eu_base.specs.Operations.{change_kind}
use Rattle.eu_base.specs.declared.value.Kind.{Kind}
use Rattle.eu_base.specs.declared.request.RequestName.{RequestName}
use Rattle.eu_base.specs.Requests.{request_result}
use Rattle.elan_types.specs.Types.{type_in, shape_in, held_const, held_var}
use Rattle.elan_laws.specs.Below.elan_names.specs.declared.heading.Sort.{Sort}
use Rattle.elan_laws.specs.Below.elan_names.specs.declared.heading.What.{What}
use Rattle.elan_laws.specs.Below.elan_names.specs.declared.heading.What.TheVariants.{Routine, Refinement}
use Rattle.elan_laws.specs.Below.elan_names.specs.declared.heading.Heading.{Heading}
use Rattle.elan_laws.specs.Below.elan_scope.specs.declared.scope.Scope.{Scope}
use Rattle.elan_laws.specs.Below.elan_scope.specs.declared.scope.Within.{Within}
use Rattle.elan_laws.specs.Below.elan_names.specs.Callees.{Predefined}
use Rattle.elan_laws.specs.Below.elan_names.specs.declared.predefined.Predefined.{Predefined as Name}
use Rattle.eu_base.specs.declared.space_operation.SpaceOperation.{SpaceOperation}
use Rattle.eu_base.specs.SpaceOperations.{space_result_kind}
use Rattle.elan_laws.specs.Below.elan_names.specs.declared.predefined.Predefined.TheVariants.{Operation, Change, Request, OnSpaces, ErrorStop}
use Rattle.elan_laws.specs.Below.elan_names.specs.Predefined.{Row, predefined, parameters, result}
use Rattle.std.specs.Prelude.{option_map, option_to_list}
use Rattle.elan_laws.specs.Below.elan_names.specs.declared.interface.Inserted.{Inserted}
use Rattle.elan_laws.specs.Below.elan_scope.specs.walks.Seen.{called_in}
use Rattle.elan_laws.specs.Below.elan_scope.specs.Scope.{layers, routine_layer, level_layer, packet_layer, predefined_layer}
use Rattle.elan_laws.specs.Below.elan_scope.specs.Scope.{Callable, Layer, own_callable, own_callables, predefined_callable}
use Rattle.std.specs.Option.{option_or}
use Rattle.elan_laws.specs.Below.elan_scope.specs.Scope.{first, first_in, called_by, is_called}
use Rattle.elan_laws.specs.Below.elan_meant.specs.declared.meant.Meant.{Meant}
use Rattle.elan_laws.specs.Below.elan_meant.specs.declared.meant.Meant.TheVariants.{Variable, Value, Done}
use Rattle.elan_laws.specs.Below.elan_meant.specs.Verdict.{gives}
use Rattle.elan_laws.specs.Below.elan_meant.specs.Operands.{delivers, fit, takes, chosen}
use Rattle.elan_laws.specs.Below.elan_meant.specs.Parts.{value_of}
use Rattle.elan_laws.specs.Below.value_rules.specs.Calls.{given, performed, values_in}

both : (a b : Bool) → (a && b) ≡ true → b ≡ true
both true b e = e
both false b e = absurd cc

module _ (at : ℕ) (ms : List Meant) where
  abbrev Does : Callable → List Actual → Type 0
  Does c as' = (m : Meant) × (performed at c.callee c.result as' ≡ gives m)

  -- where it fits, it does something with what it is given
  abbrev Suits : Callable → Type 0
  Suits c = (as' : List Actual) → fit c.parameters ms ≡ true → given at c.parameters ms ≡ gives as' → Does c as'

  abbrev AllSuit : List Callable → Type 0
  AllSuit [] = Unit {0}
  AllSuit (c ∷ cs) = Suits c × AllSuit cs

  own_suits : (n : ℕ) (x : List ℕ) (w : What) → AllSuit (own_callable n x w)
  own_suits n x (Routine sort ps None) = (λ as' f g. (Done (action.Call n as' ∷ []), refl), tt)
  own_suits n x (Routine sort ps (Some t)) = (λ as' f g. (Value at t (value.Call n as' (shape_in t)), refl), tt)
  own_suits n x (Refinement home) = tt

  suit_append : (cs ds : List Callable) → AllSuit cs → AllSuit ds → AllSuit (cs ++ ds)
  suit_append [] ds h g = g
  suit_append (c ∷ cs) ds h g = (h.0, suit_append cs ds h.1 g)

  owns_suit : (n : ℕ) (hs : List Heading) → AllSuit (own_callables n hs)
  owns_suit n [] = tt
  owns_suit n (h ∷ hs) = suit_append (own_callable n h.name h.what) (own_callables (n + 1) hs) (own_suits n h.name h.what) (owns_suit (n + 1) hs)

  -- ---- predefined names

  changes : (c : Changed) (t : ElanType) (ks : List Meant) (as' : List Actual) → fit (held_var t ∷ held_const t ∷ []) ks ≡ true
      → given at (held_var t ∷ held_const t ∷ []) ks ≡ gives as' → (m : Meant) × (performed at (Predefined (Change c)) None as' ≡ gives m)
  changes c t [] as' f g = absurd cc
  changes c t (m ∷ []) as' f g = let e : false ≡ true = both (delivers t m) false f in absurd cc
  changes c t (Variable p u x ∷ n ∷ []) as' f g =
      let given_is : actual.Place x (shape_in t) ∷ actual.Value (value_of n) ∷ [] ≡ as' = cc in
      subst (λ (l : List Actual). (m : Meant) × (performed at (Predefined (Change c)) None l ≡ gives m)) given_is
      (Done (action.Modify c x (value_of n) ∷ []), refl)
  changes c t (m ∷ n ∷ []) as' f g = absurd cc
  changes c t (m ∷ n ∷ k ∷ ks) as' f g =
      let e : false ≡ true = both (delivers t n) false (both (delivers t m) (delivers t n && false) f) in absurd cc

  stops : (ks : List Meant) (as' : List Actual) → fit (held_const Text ∷ []) ks ≡ true → given at (held_const Text ∷ []) ks ≡ gives as'
      → (m : Meant) × (performed at (Predefined ErrorStop) None as' ≡ gives m)
  stops [] as' f g = absurd cc
  stops (m ∷ []) as' f g =
      let given_is : actual.Value (value_of m) ∷ [] ≡ as' = cc in
      subst (λ (l : List Actual). (n : Meant) × (performed at (Predefined ErrorStop) None l ≡ gives n)) given_is
      (Done (action.ErrorStop (value_of m) ∷ []), refl)
  stops (m ∷ n ∷ ks) as' f g = let e : false ≡ true = both (delivers Text m) false f in absurd cc

  requests : (q : RequestName) (o : Option Kind) (as' : List Actual)
      → (m : Meant) × (performed at (Predefined (Request q)) (option_map type_in o) as' ≡ gives m)
  requests q None as' = (Done (action.Ask q as' ∷ []), refl)
  requests q (Some k) as' = (Value at (type_in k) (value.Ask q as'), refl)

  asks_spaces : (o : SpaceOperation) (q : Option Kind) (as' : List Actual)
      → (m : Meant) × (performed at (Predefined (OnSpaces o)) (option_map type_in q) as' ≡ gives m)
  asks_spaces o None as' = (Done (action.Perform o (values_in as') ∷ []), refl)
  asks_spaces o (Some k) as' = (Value at (type_in k) (value.Consult o (values_in as')), refl)

  named_suits : (r : Row) → Suits (predefined_callable r)
  named_suits r = by_name r.2
    where
      by_name : (o : Name) (as' : List Actual) → fit (parameters o) ms ≡ true → given at (parameters o) ms ≡ gives as'
          → (m : Meant) × (performed at (Predefined o) (result o) as' ≡ gives m)
      by_name (Operation o) as' f g = (Value at _ (value.Apply o (values_in as')), refl)
      by_name (Change c) as' f g = changes c (type_in (change_kind c)) ms as' f g
      by_name (Request q) as' f g = requests q (request_result q) as'
      by_name (OnSpaces o) as' f g = asks_spaces o (space_result_kind o) as'
      by_name ErrorStop as' f g = stops ms as' f g

  rows_suit : (rs : List Row) → AllSuit (map predefined_callable rs)
  rows_suit [] = tt
  rows_suit (r ∷ rs) = (named_suits r, rows_suit rs)

  -- ---- the first that takes them

  abbrev Chosen : Option Callable → Type 0
  Chosen None = Unit {0}
  Chosen (Some c) = Suits c × (fit c.parameters ms ≡ true)

  module _ (sort : Sort) (x : List ℕ) where
    -- what of them is seen
    first_suits : (sees : List ℕ → Bool) (cs : List Callable) → AllSuit cs → Chosen (first (λ c. sees c.name && takes sort x ms c) cs)
    first_suits sees [] h = tt
    first_suits sees (c ∷ cs) h = by_test (sees c.name && takes sort x ms c) refl (first_suits sees cs h.1)
      where
        rest : Option Callable
        rest = first (λ d. sees d.name && takes sort x ms d) cs

        by_test : (b : Bool) → (sees c.name && takes sort x ms c) ≡ b → Chosen rest → Chosen (if b then Some c else rest)
        by_test true e g = (h.0, both (is_called sort x c) (fit c.parameters ms) (both (sees c.name) (takes sort x ms c) e))
        by_test false e g = g

    or_suits : (o p : Option Callable) → Chosen o → Chosen p → Chosen (option_or o p)
    or_suits None p h g = g
    or_suits (Some c) p h g = h

    abbrev LayersSuit : List Layer → Type 0
    LayersSuit [] = Unit {0}
    LayersSuit (l ∷ ls) = AllSuit l.callables × LayersSuit ls

    layers_suit : (ls : List Layer) → LayersSuit ls → Chosen (first_in (called_in (takes sort x ms)) ls)
    layers_suit [] h = tt
    layers_suit (l ∷ ls) h =
        or_suits (called_in (takes sort x ms) l) (first_in (called_in (takes sort x ms)) ls) (first_suits l.sees l.callables h.0)
        (layers_suit ls h.1)

    packets_suit : (ps : List Inserted) → LayersSuit (map packet_layer ps ++ predefined_layer ∷ [])
    packets_suit [] = (rows_suit predefined, tt)
    packets_suit (p ∷ ps) = (owns_suit p.bodies_before p.interface.headings, packets_suit ps)

    around_suit : (w : Option Within) (s : Scope)
        → LayersSuit (option_to_list (option_map routine_layer w) ++ level_layer s ∷ (map packet_layer s.packets ++ predefined_layer ∷ []))
    around_suit None s = (owns_suit s.bodies_before s.headings, packets_suit s.packets)
    around_suit (Some w) s = (tt, (owns_suit s.bodies_before s.headings, packets_suit s.packets))

    chosen_suits : (s : Scope) → Chosen (chosen s sort x ms)
    unfolding called_by
    chosen_suits s = layers_suit (layers s) (around_suit s.routine s)

    pub suited : (s : Scope) (c : Callable) (as' : List Actual) → chosen s sort x ms ≡ Some c → given at c.parameters ms ≡ gives as' → Does c as'
    suited s c as' e g = let h = subst Chosen e (chosen_suits s) in h.0 as' h.1 g
