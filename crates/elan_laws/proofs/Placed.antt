-- Rules break at the place of their phrase or of a part, and what phrases mean keeps such a place.
use Rattle.eu_base.specs.declared.operation.Way.{Way}
use Rattle.std.proofs.Common.{ℕ, ◌+◌, ℤ, Bool, true, false, ◌&&◌, ◌||◌, if◌then◌else◌, nat_le, List, [], ◌∷◌, length, drop, Option, Some, None, nat_eq, zero, suc}
use Rattle.elan_types.specs.declared.elan_type.ElanType.{ElanType}
use Rattle.elan_types.specs.declared.elan_type.ElanType.TheVariants as type
use Rattle.elan_types.specs.Types.{concrete, is_own_from, shape_in, has_own, items, field}
use Rattle.std.specs.Option.{option_map_or}
use Rattle.elan_types.specs.declared.core_phrase.PlacePhrase.TheVariants as place
use Rattle.elan_types.specs.declared.core_phrase.ValuePhrase.TheVariants as value
use Rattle.elan_types.specs.declared.why.Why.{Why}
use Rattle.elan_types.specs.declared.why.Why.TheVariants as why
use Rattle.eu_base.specs.declared.value.TheConstants.{TEXT_BYTES}
use Rattle.eu_base.specs.Operations.{in_range}
use Rattle.elan_types.specs.declared.core_phrase.Action.{Action}
use Rattle.elan_types.specs.declared.elan_type.Parameter.{Parameter}
use Rattle.elan_types.specs.declared.core_phrase.Access.{Access}
use Rattle.elan_types.specs.declared.core_phrase.Access.TheVariants.{Const, Var}
use Rattle.elan_types.specs.declared.core_phrase.Actual.{Actual}
use Rattle.elan_types.specs.declared.core_phrase.Actual.TheVariants as actual
use Rattle.elan_types.specs.declared.core_phrase.ValuePhrase.{ValuePhrase}
use Rattle.elan_types.specs.declared.core_phrase.Exit.{Exit}
use Rattle.elan_laws.specs.Below.elan_scope.specs.declared.delivery.Delivery.{Delivery}
use Rattle.elan_laws.specs.Below.elan_scope.specs.declared.delivery.Delivery.TheVariants.{Open, Nothing, Of}
use Rattle.elan_laws.specs.Below.elan_names.specs.declared.heading.Heading.{Heading}
use Rattle.elan_laws.specs.Below.elan_names.specs.declared.heading.Sort.{Sort}
use Rattle.elan_laws.specs.Below.elan_names.specs.declared.heading.Sort.TheVariants.{Procedure, Operator}
use Rattle.elan_laws.specs.Below.elan_scope.specs.declared.scope.Scope.{Scope}
use Rattle.elan_laws.specs.Below.elan_scope.specs.Scope.{Found}
use Rattle.elan_laws.specs.Below.elan_scope.specs.declared.scope.Home.{Home}
use Rattle.elan_laws.specs.Below.elan_names.specs.declared.denoter.Denoter.{Denoter}
use Rattle.elan_laws.specs.Below.elan_names.specs.declared.denoter.Denoter.TheVariants as denoters
use Rattle.elan_laws.specs.Below.elan_names.specs.declared.entry.Denotes.{Denotes}
use Rattle.elan_laws.specs.Below.elan_names.specs.declared.entry.Denotes.TheVariants as denotes
use Rattle.elan_laws.specs.Below.elan_scope.specs.declared.scope.Usage.{Usage}
use Rattle.elan_laws.specs.Below.elan_scope.specs.declared.scope.Usage.TheVariants.{Expression, Counter}
use Rattle.elan_laws.specs.Below.elan_scope.specs.declared.known.Known.{Known}
use Rattle.elan_laws.specs.Below.elan_names.specs.Callees.{Callee}
use Rattle.elan_laws.specs.Below.elan_names.specs.Callees.{Predefined, Body}
use Rattle.elan_laws.specs.Below.elan_names.specs.declared.predefined.Predefined.TheVariants.{Operation, Change, Request, OnSpaces, ErrorStop}
use Rattle.elan_laws.specs.Below.elan_scope.specs.Known.{leads_back, delivery_at}
use Rattle.std.specs.Prelude.{◌||◌, is_some}
use Rattle.elan_laws.specs.Below.elan_names.specs.declared.type_name.TypeName.{TypeName}
use Rattle.elan_laws.specs.Below.elan_scope.specs.Scope.{Callable, number_named, find, find_own, find_own_type, is_known, has_open, is_alike, left, first_heading}
use Rattle.elan_laws.specs.Below.elan_scope.specs.Scope.{types_of, refinement_named}
use Rattle.elan_laws.specs.Below.elan_scope.specs.Phrase as form
use Rattle.elan_laws.specs.Below.elan_scope.specs.Phrase.{Form, Plain, plain}
use Rattle.elan_laws.specs.Below.elan_scope.specs.Ruled as ruled
use Rattle.elan_laws.specs.Below.elan_scope.specs.Ruled.{Ruled, hangs}
use Rattle.elan_laws.specs.Below.elan_meant.specs.declared.meant.Meant.{Meant}
use Rattle.elan_laws.specs.Below.elan_meant.specs.declared.meant.Meant.TheVariants.{Absent, Variable, Value, Left, Labels, Start}
use Rattle.elan_laws.specs.Below.elan_meant.specs.Verdict.{Verdict, gives, breaks, ◌>>=◌, told, unless}
use Rattle.elan_laws.specs.Below.elan_meant.specs.Operands.{delivers, fit, chosen, becomes}
use Rattle.elan_laws.specs.Below.elan_meant.specs.Parts as p
use Rattle.elan_laws.specs.Below.value_rules.specs.Values as v
use Rattle.elan_laws.specs.Below.value_rules.specs.walks.Steps as value_walk
use Rattle.elan_laws.specs.Below.value_rules.specs.Calls as r
use Rattle.elan_laws.specs.Below.elan_rules.specs.Units as u
use Rattle.elan_laws.specs.Below.elan_rules.specs.Loops as o
use Rattle.elan_laws.specs.Below.elan_rules.specs.walks.UnitSteps as unit_walk
use Rattle.elan_laws.specs.Below.elan_rules.specs.Choices as c
use Rattle.elan_laws.specs.Below.elan_rules.specs.walks.ChoiceSteps as choice_walk
use Rattle.elan_laws.specs.Below.elan_rules.specs.Rules as all
use Rattle.elan_laws.specs.Below.elan_rules.specs.Rules.{rule, ruled}
use Rattle.elan_laws.specs.Order.{Follows, own}

-- among these places
module _ (ns : List ℕ) where
  abbrev pub In : ℕ → Type 0
  In at = Follows (at ∷ []) ns

  -- A variable or a value tells one of them as its place.
  abbrev pub Placed : Meant → Type 0
  Placed (Variable at t x) = In at
  Placed (Value at t x) = In at
  Placed _ = Unit {0}

  abbrev pub AllPlaced : List Meant → Type 0
  AllPlaced [] = Unit {0}
  AllPlaced (m ∷ ms) = Placed m × AllPlaced ms

  -- Where a rule is broken, it is at one of them.
  abbrev pub Tells : {A : Type 0} → (A → Type 0) → Verdict A → Type 0
  Tells P (gives x) = P x
  Tells P (breaks f) = In f.0

  abbrev pub MayTell : {A : Type 0} → (A → Type 0) → Ruled A → Type 0
  MayTell P (ruled.gives x) = P x
  MayTell P (ruled.breaks f) = In f.0
  MayTell P hangs = Unit {0}

  abbrev Any : {A : Type 0} → A → Type 0
  Any x = Unit {0}

  pub on_told : {A : Type 0} (P : A → Type 0) (w : Verdict A) → Tells P w → MayTell P (told w)
  on_told P (gives x) h = h
  on_told P (breaks f) h = h

  on_if : {A : Type 0} (P : A → Type 0) (b : Bool) (x y : Verdict A) → Tells P x → Tells P y → Tells P (if b then x else y)
  on_if P true x y h k = h
  on_if P false x y h k = k

  on_either : {A : Type 0} (P : A → Type 0) (b : Bool) (x y : Ruled A) → MayTell P x → MayTell P y → MayTell P (if b then x else y)
  on_either P true x y h k = h
  on_either P false x y h k = k

  on_unless : {A : Type 0} (P : A → Type 0) (b : Bool) (x : Ruled A) → MayTell P x → MayTell P (unless b x)
  on_unless P b x h = on_either P b hangs x tt h

  on_bind : {A B : Type 0} (P : A → Type 0) (Q : B → Type 0) (w : Verdict A) (f : A → Verdict B) → Tells P w → ((x : A) → P x → Tells Q (f x))
      → Tells Q (w >>= f)
  on_bind P Q (gives x) f h k = k x h
  on_bind P Q (breaks d) f h k = h

  -- ---- parts

  nth_placed : (ms : List Meant) (n : ℕ) → AllPlaced ms → Placed (p.nth ms n)
  nth_placed [] n h = tt
  nth_placed (m ∷ ms) zero h = h.0
  nth_placed (m ∷ ms) (suc n) h = nth_placed ms n h.1

  odd_placed : (ms : List Meant) → AllPlaced ms → Placed (choice_walk.otherwise (p.odd ms))
  odd_placed [] h = tt
  odd_placed (m ∷ []) h = h.0
  odd_placed (m ∷ n ∷ ms) h = odd_placed ms h.1.1

  module _ (at : ℕ) (here : In at) where
    or_broken : (b : Bool) (m : Meant) (y : Why) → Placed m → Tells Placed (if b then gives m else breaks (at, y))
    or_broken b m y h = on_if Placed b (gives m) (breaks (at, y)) h here

    variable_placed : (m : Meant) → Placed m → Tells Any (p.variable at m)
    variable_placed (Variable q t x) h = tt
    variable_placed (Value q t x) h = h
    variable_placed _ h = here

    number_placed : (n : ℤ) → Tells Placed (v.number at n)
    number_placed n = on_if Placed (in_range n) (gives (Value at type.Int (value.Number n))) (breaks (at, why.WrongType)) here here

    text_placed : (x : List ℕ) → Tells Placed (v.text at x)
    text_placed x = on_if Placed (nat_le (length x) TEXT_BYTES) (gives (Value at type.Text (value.Text x))) (breaks (at, why.WrongType)) here here

    denoter_placed : (d : Denoter) → Tells Placed (v.denoter at d)
    denoter_placed (denoters.Number n) = number_placed n
    denoter_placed (denoters.Truth b) = here
    denoter_placed (denoters.Text x) = text_placed x

    bracketed_placed : (m : Meant) → Placed (v.bracketed at m)
    bracketed_placed (Variable q t x) = here
    bracketed_placed (Value q t x) = here
    bracketed_placed _ = tt

    concr_as_placed : (own : Bool) (o : Option ElanType) (go : ElanType → Meant) → ((u : ElanType) → Placed (go u)) → Tells Placed (v.concr_as at own o go)
    concr_as_placed true (Some u) go h = h u
    concr_as_placed false (Some u) go h = here
    concr_as_placed own None go h = here

    concr_placed : (s : Scope) (m : Meant) → Tells Placed (v.concr at s m)
    concr_placed s (Variable q t x) = concr_as_placed (is_own_from s.types_before t) (concrete t) (λ z. Variable at z x) (λ z. here)
    concr_placed s (Value q t x) = concr_as_placed (is_own_from s.types_before t) (concrete t) (λ z. Value at z x) (λ z. here)
    concr_placed s _ = here

    item_as_placed : (o : Option (ℕ × ElanType)) (go : ℕ × ElanType → Meant) → ((q : ℕ × ElanType) → Placed (go q)) → Tells Placed (v.item_as at o go)
    item_as_placed (Some q) go h = h q
    item_as_placed None go h = here

    item_placed : (m : Meant) (i : ValuePhrase) → Tells Placed (v.item at m i)
    item_placed (Variable q t x) i = item_as_placed (items t) (λ z. Variable at z.1 (place.Item x i (v.items_of z))) (λ z. here)
    item_placed (Value q t x) i = item_as_placed (items t) (λ z. Value at z.1 (value.Pick x i (v.items_of z) (shape_in z.1))) (λ z. here)
    item_placed _ i = here

    indexed_placed : (m i : Meant) → Tells Placed (v.indexed at m i)
    indexed_placed m i = on_if Placed (delivers type.Int i) (v.item at m (p.value_of i)) (breaks (at, why.WrongType)) (item_placed m (p.value_of i)) here

    field_as_placed : (o : Option (ℕ × ElanType)) (go : ℕ × ElanType → Meant) → ((q : ℕ × ElanType) → Placed (go q)) → Tells Placed (v.field_as at o go)
    field_as_placed (Some q) go h = h q
    field_as_placed None go h = here

    field_part_placed : (x : List ℕ) (m : Meant) → Tells Placed (v.field_part at x m)
    field_part_placed x (Variable q t y) = field_as_placed (field t x) (λ z. Variable at z.1 (place.Field y z.0)) (λ z. here)
    field_part_placed x (Value q t y) = field_as_placed (field t x) (λ z. Value at z.1 (value.Take y (v.part_of t z) (shape_in z.1))) (λ z. here)
    field_part_placed x _ = here

    -- ---- calls

    given_as_placed : (a : Access) (t : ElanType) (m : Meant) → Placed m → Tells Any (r.given_as at a t m)
    given_as_placed Const t m h = tt
    given_as_placed Var t m h = on_bind Any Any (p.variable at m) (λ x. gives (actual.Place x (shape_in t))) (variable_placed m h) (λ x k. tt)

    given_placed : (ps : List Parameter) (ms : List Meant) → AllPlaced ms → Tells Any (r.given at ps ms)
    given_placed [] ms h = tt
    given_placed (q ∷ ps) [] h = tt
    given_placed (q ∷ ps) (m ∷ ms) h =
        on_bind Any Any (r.given_as at q.access q.of m) _ (given_as_placed q.access q.of m h.0)
        (λ a k. on_bind Any Any (r.given at ps ms) (λ as'. gives (a ∷ as')) (given_placed ps ms h.1) (λ as' k. tt))

    performed_placed : (q : Callee) (t : Option ElanType) (as' : List Actual) → Tells Placed (r.performed at q t as')
    performed_placed (Predefined (Operation d)) (Some t) as' = here
    performed_placed (Predefined (Operation d)) None as' = here
    performed_placed (Predefined (Change d)) t [] = here
    performed_placed (Predefined (Change d)) t (actual.Value x ∷ as') = here
    performed_placed (Predefined (Change d)) t (actual.Place x y ∷ []) = here
    performed_placed (Predefined (Change d)) t (actual.Place x y ∷ actual.Place z w ∷ as') = here
    performed_placed (Predefined (Change d)) t (actual.Place x y ∷ actual.Value z ∷ []) = tt
    performed_placed (Predefined (Change d)) t (actual.Place x y ∷ actual.Value z ∷ a ∷ as') = here
    performed_placed (Predefined (Request q)) (Some t) as' = here
    performed_placed (Predefined (Request q)) None as' = tt
    performed_placed (Predefined (OnSpaces d)) (Some t) as' = here
    performed_placed (Predefined (OnSpaces d)) None as' = tt
    performed_placed (Predefined ErrorStop) t [] = here
    performed_placed (Predefined ErrorStop) t (actual.Place x y ∷ as') = here
    performed_placed (Predefined ErrorStop) t (actual.Value z ∷ []) = tt
    performed_placed (Predefined ErrorStop) t (actual.Value z ∷ a ∷ as') = here
    performed_placed (Body n) (Some t) as' = here
    performed_placed (Body n) None as' = tt

    called_placed : (q : Callable) (ms : List Meant) → AllPlaced ms → Tells Placed (r.called at q ms)
    called_placed q ms h =
        on_bind Any Placed (r.given at q.parameters ms) (r.performed at q.callee q.result) (given_placed q.parameters ms h)
        (λ as' k. performed_placed q.callee q.result as')

    applied_as_placed : (known : Bool) (ms : List Meant) (q : Option Callable) → AllPlaced ms → Tells Placed (r.applied_as at known ms q)
    applied_as_placed known ms (Some q) h = called_placed q ms h
    applied_as_placed known ms None h = on_if Placed known _ _ here here

    applied_placed : (s : Scope) (sort : Sort) (x : List ℕ) (ms : List Meant) → AllPlaced ms → Tells Placed (r.applied at s sort x ms)
    applied_placed s sort x ms h = by_start (r.start_among ms)
      where
        by_start : (o : Option ℕ) → Tells Placed (r.applied_or at s sort x ms o)
        by_start (Some n) =
            let two = p.nth ms 0 ∷ p.nth ms 2 ∷ [] in
            on_if Placed (fit (r.begins n).parameters two) _ _ (called_placed (r.begins n) two (nth_placed ms 0 h, (nth_placed ms 2 h, tt))) here
        by_start None = applied_as_placed (r.is_begin sort x (length ms) || is_known s sort x (length ms)) ms (chosen s sort x ms) h

    start_named_placed : (s : Scope) (x : List ℕ) → Tells Placed (r.start_named at s x)
    start_named_placed s x = by_number (r.start_of s x)
      where
        by_number : (o : Option ℕ) → Tells Placed (r.start_as at (r.is_name_known s x) o)
        by_number (Some n) = tt
        by_number None = on_if Placed (r.is_name_known s x) _ _ tt here

    started_placed : (may : Bool) (m : Meant) → Tells Placed (r.started at may m)
    started_placed true (Start n) = tt
    started_placed true m = here
    started_placed false m = here

    -- ---- names

    referred_placed : (n : ℕ) (d : Delivery) → MayTell Placed (r.referred at n d)
    referred_placed n Open = tt
    referred_placed n Nothing = tt
    referred_placed n (Of t) = here

    refined_placed : (k : Known) (s : Scope) (q : Option ℕ) → MayTell Placed (r.refined k at s q)
    refined_placed k s None = here
    refined_placed k s (Some n) = on_either Placed (leads_back k n s.refinement) _ _ here (referred_placed (s.bodies_before + n) (delivery_at k n))

    refined_as_placed : (k : Known) (w : Usage) (s : Scope) (q : Option ℕ) → MayTell Placed (r.refined_as k w at s q)
    refined_as_placed k Expression s q = refined_placed k s q
    refined_as_placed k Counter s q = here

    denoted_placed : (k : Known) (w : Usage) (s : Scope) (x : List ℕ) (home : Home) (n : ℕ) (d : Denotes) → MayTell Placed (r.denoted k w at s x home n d)
    denoted_placed k w s x home n (denotes.Variable t) = here
    denoted_placed k w s x home n (denotes.Constant t) = here
    denoted_placed k w s x home n (denotes.Bound t) = here
    denoted_placed k w s x home n (denotes.Parameter q) = parameter_placed q.of q.access
      where
        parameter_placed : (t : ElanType) (a : Access) → Placed (r.parameter at t a (r.place_in home n a))
        parameter_placed t Const = here
        parameter_placed t Var = here
    denoted_placed k w s x home n denotes.Procedure = on_told Placed (r.applied at s Procedure x []) (applied_placed s Procedure x [] tt)
    denoted_placed k w s x home n denotes.Refinement = refined_as_placed k w s (refinement_named s x)
    denoted_placed k w s x home n (denotes.Denoter d) = on_told Placed (v.denoter at d) (denoter_placed d)

    named_placed : (k : Known) (w : Usage) (s : Scope) (x : List ℕ) (q : Option Found) → MayTell Placed (r.named k w at s x q)
    named_placed k w s x None = on_told Placed (r.applied at s Procedure x []) (applied_placed s Procedure x [] tt)
    named_placed k w s x (Some f) = denoted_placed k w s x f.home f.number f.denotes

    declared_placed : (q : Option Found) → Tells Placed (r.declared at q)
    declared_placed None = here
    declared_placed (Some f) = on_if Placed (nat_eq f.at at) _ _ (first_placed f.denotes) here
      where
        first_placed : (d : Denotes) → Placed (r.declared_as at f.home f.number d)
        first_placed (denotes.Variable t) = here
        first_placed (denotes.Constant t) = here
        first_placed (denotes.Bound t) = here
        first_placed _ = tt

    type_declared_placed : (q : Option TypeName) → Tells Placed (r.type_declared at q)
    type_declared_placed None = here
    type_declared_placed (Some t) = on_if Placed (nat_eq t.at at) _ _ tt here

    headed_as_placed : (missing : Bool) → Tells Placed (r.headed_as at missing)
    headed_as_placed missing = on_if Placed missing _ _ here tt

    headed_placed : (missing : Bool) (q : Option (ℕ × Heading)) → Tells Placed (r.headed at missing q)
    headed_placed missing None = here
    headed_placed missing (Some b) = on_if Placed (nat_eq b.1.at at) _ _ (headed_as_placed missing) here

    heading_placed : (ps : List Parameter) (missing : Bool) (q : Option (ℕ × Heading)) → Tells Placed (r.heading at ps missing q)
    heading_placed ps missing q = on_if Placed (has_open ps) _ _ (headed_as_placed missing) (headed_placed missing q)

    leaving_placed : (k : Known) (q : Option (Exit × ℕ)) (m : Meant) → Tells Placed (r.leaving k at q m)
    leaving_placed k None m = here
    leaving_placed k (Some e) m = on_if Placed (r.agrees (delivery_at k e.1) m) _ _ tt here

    exported_placed : (doubled : Bool) (may : Option Bool) → Tells Placed (r.exported at doubled may)
    exported_placed true may = here
    exported_placed false None = here
    exported_placed false (Some false) = here
    exported_placed false (Some true) = tt

    -- ---- stores and loops

    stored_placed : (m n : Meant) → Placed m → Tells Any (u.stored at m n)
    stored_placed m n h =
        on_bind Any Any (u.agreed at m n) _ (agreed_placed (p.type_in m))
        (λ t k. on_bind Any Any (p.variable at m) _ (variable_placed m h) (λ x k. tt))
      where
        agreed_placed : (t : Option ElanType) → Tells Any (u.agreed_as at t n)
        agreed_placed None = here
        agreed_placed (Some t) = on_if Any (delivers t n) _ _ tt here

    assigned_placed : (m n : Meant) → Placed m → Tells Placed (u.assigned at m n)
    assigned_placed m n h =
        on_if Placed (option_map_or has_own (p.type_in m) false) _ _ here (on_bind Any Placed (u.stored at m n) _ (stored_placed m n h) (λ a k. tt))

    initial_placed : (m n : Meant) → Placed m → Tells Placed (u.initial at m n)
    initial_placed m n h = on_bind Any Placed (u.stored_or at m n (u.binding m n)) _ (by_binding (u.binding m n)) (λ a k. tt)
      where
        by_binding : (o : Option Action) → Tells Any (u.stored_or at m n o)
        by_binding None = stored_placed m n h
        by_binding (Some a) = tt

    counted_placed : (w : Way) (n f l q us z : Meant) → Placed n → Tells Placed (o.counted at w n f l q us z)
    counted_placed w n f l q us z h =
        on_if Placed (unit_walk.are_numbers n f l && o.conditions q z) (p.variable at n >>= (λ x. gives (o.count w f l q us z x))) (breaks (at, why.WrongType))
        (on_bind Any Placed (p.variable at n) (λ x. gives (o.count w f l q us z x)) (variable_placed n h) (λ x k. tt)) here

    -- ---- choices

    delivering_placed : (as' : List Action) (f : ElanType → ValuePhrase) (d : Option Delivery) → Tells Placed (c.delivering at as' f d)
    delivering_placed as' f None = here
    delivering_placed as' f (Some Nothing) = tt
    delivering_placed as' f (Some Open) = tt
    delivering_placed as' f (Some (Of t)) = here

    branched_placed : (g : c.Guard) (m : Meant) → Tells Placed (c.branched at g m)
    branched_placed g m =
        on_if Placed (delivers type.Bool g.0) (c.chosen_of at (p.value_of g.0) g.1 m) (breaks (at, why.WrongType))
        (delivering_placed (choice_walk.if_actions (p.value_of g.0) g.1 m) (choice_walk.if_value (p.value_of g.0) g.1 m)
        (c.joined (c.delivery_in g.1) (c.delivery_in m))) here

    chain_placed : (gs : List c.Guard) (w : Verdict Meant) → Tells Placed w → Tells Placed (c.chain at gs w)
    chain_placed [] w h = h
    chain_placed (g ∷ gs) w h = on_bind Placed Placed (c.chain at gs w) (c.branched at g) (chain_placed gs w h) (λ m k. branched_placed g m)

    selected_placed : (m : Meant) (ms : List Meant) → Tells Placed (c.selected at m ms)
    selected_placed m ms =
        let gs = p.pairs ms in
        let n = choice_walk.otherwise (p.odd ms) in
        on_if Placed (delivers type.Int m) (c.selected_by at (p.value_of m) gs n) (breaks (at, why.WrongType))
        (delivering_placed (choice_walk.select_actions (p.value_of m) gs n) (choice_walk.select_value (p.value_of m) gs n)
        (c.agreed (Some (c.delivery_in n)) gs)) here

    label_as_placed : (earlier : List ℤ) (w : Why) (q : Option ℤ) → Tells Placed (c.label_as at earlier w q)
    label_as_placed earlier w None = here
    label_as_placed earlier w (Some n) = on_if Placed (choice_walk.is_in earlier n) (breaks (at, why.Doubled)) (gives (Labels (n ∷ []))) here tt

    label_named_placed : (earlier : List ℤ) (known : Bool) (q : Option Found) → Tells Placed (c.label_named at earlier known q)
    label_named_placed earlier known q = label_as_placed earlier (if is_some q || known then why.WrongType else why.Unknown) (number_named q)

  -- ---- units

  alone_placed : (m : Meant) → Placed m → Placed (u.alone m)
  alone_placed (Variable q t x) h = h
  alone_placed (Value q t x) h = h
  alone_placed _ h = tt

  without_value_placed : (m : Meant) → Placed m → Tells Placed (u.without_value m)
  without_value_placed (Variable q t x) h = h
  without_value_placed (Value q t x) h = h
  without_value_placed _ h = tt

  last_placed : (n : Meant) (ms : List Meant) → Placed n → AllPlaced ms → Placed (u.last_value n ms)
  last_placed n [] h g = h
  last_placed n (m ∷ ms) h g = last_placed (u.or_last n m) ms (either n m h g.0) g.1
    where
      either : (n m : Meant) → Placed n → Placed m → Placed (u.or_last n m)
      either n (Value q t x) h g = g
      either n (Left as') h g = tt
      either n _ h g = h

  ended_placed : (as' : List Action) (m : Meant) → Placed m → Placed (u.ended as' m)
  ended_placed as' (Value q t x) h = h
  ended_placed as' _ h = tt

  assignment_placed : (at : ℕ) (here : In at) (s : Scope) (named : Bool) (m n : Meant) → Placed m → Placed n → Tells Placed (all.assignment at s named m n)
  assignment_placed at here s named m n h g = by_binding (u.binding_if named m n)
    where
      by_choice : (q : Option Callable) → Tells Placed (all.assignment_as at m n q)
      by_choice (Some q) =
          on_bind Placed Placed (r.called at q (m ∷ n ∷ [])) (λ k. gives (u.alone k)) (called_placed at here q (m ∷ n ∷ []) (h, (g, tt)))
          (λ k i. alone_placed k i)
      by_choice None = assigned_placed at here m n h

      by_binding : (o : Option Action) → Tells Placed (all.assignment_or at s m n o)
      by_binding (Some a) = tt
      by_binding None = by_choice (chosen s Operator becomes (m ∷ n ∷ []))

  -- ---- all rules

  abbrev Owned : ℕ → Form → Type 0
  Owned at f = Follows (own at f) ns

  pub rule_placed : (at : ℕ) (f : Plain) (ms : List Meant) → Owned at (plain f) → AllPlaced ms → Tells Placed (rule at f ms)
  rule_placed at form.absent ms h g = tt
  rule_placed at (form.number n) ms h g = number_placed at h n
  rule_placed at (form.truth b) ms h g = h
  rule_placed at (form.text x) ms h g = text_placed at h x
  rule_placed at (form.applied s sort x) ms h g = applied_placed at h s sort x ms g
  rule_placed at (form.start_name s x) ms h g = start_named_placed at h s x
  rule_placed at (form.start may) ms h g = started_placed at h may (p.nth ms 0)
  rule_placed at form.bracket ms h g = bracketed_placed at h (p.nth ms 0)
  rule_placed at (form.concr s) ms h g = concr_placed at h s (p.nth ms 0)
  rule_placed at form.index ms h g = indexed_placed at h (p.nth ms 0) (p.nth ms 1)
  rule_placed at (form.field x) ms h g = field_part_placed at h x (p.nth ms 0)
  rule_placed at form.cand ms h g =
      or_broken at h (value_walk.are_truths (p.nth ms 0) (p.nth ms 1))
      (value_walk.decided at false (p.value_of (p.nth ms 0)) (p.value_of (p.nth ms 1))) why.WrongType h
  rule_placed at form.cor ms h g =
      or_broken at h (value_walk.are_truths (p.nth ms 0) (p.nth ms 1))
      (value_walk.decided at true (p.value_of (p.nth ms 0)) (p.value_of (p.nth ms 1))) why.WrongType h
  rule_placed at form.choice ms h g = chain_placed at h (p.pairs ms) (gives (choice_walk.otherwise (p.odd ms))) (odd_placed ms g)
  rule_placed at (form.label earlier n) ms h g = on_if Placed (choice_walk.is_in earlier n) (breaks (at, why.Doubled)) (gives (Labels (n ∷ []))) h tt
  rule_placed at (form.label_name earlier s x) ms h g = label_named_placed at h earlier (is_known s Procedure x 0) (find s x)
  rule_placed at form.labels ms h g = tt
  rule_placed at form.selection ms h g = selected_placed at h (p.nth ms 0) (drop 1 ms)
  rule_placed at (form.declares s x) ms h g = declared_placed at h (find_own s x)
  rule_placed at form.initial ms h g = initial_placed at h (p.nth ms 0) (p.nth ms 1) (nth_placed ms 0 g)
  rule_placed at form.declaration ms h g = tt
  rule_placed at form.definition ms h g = tt
  rule_placed at (form.type_name s x) ms h g = type_declared_placed at h (find_own_type s x)
  rule_placed at form.statement ms h g = alone_placed (p.nth ms 0) (nth_placed ms 0 g)
  rule_placed at (form.assignment s named) ms h g = assignment_placed at h s named (p.nth ms 0) (p.nth ms 1) (nth_placed ms 0 g) (nth_placed ms 1 g)
  rule_placed at form.loop ms h g =
      let q = p.nth ms 0 in
      let z = p.nth ms 2 in
      or_broken at h (o.conditions q z) (unit_walk.uncounted q (p.nth ms 1) z) why.WrongType tt
  rule_placed at (form.count w) ms h g =
      counted_placed at h w (p.nth ms 0) (p.nth ms 1) (p.nth ms 2) (p.nth ms 3) (p.nth ms 4) (p.nth ms 5) (nth_placed ms 0 g)
  rule_placed at form.without_value ms h g = without_value_placed (p.nth ms 0) (nth_placed ms 0 g)
  rule_placed at (form.must_deliver t) ms h g = or_broken at h (u.agrees_with t (p.nth ms 0)) (p.nth ms 0) why.WrongType (nth_placed ms 0 g)
  rule_placed at form.units ms h g = ended_placed (p.actions_of ms) (u.last_value Absent ms) (last_placed Absent ms tt g)
  rule_placed at (form.heading s sort x ps q missing) ms h g = heading_placed at h ps missing (first_heading (is_alike sort x (types_of ps)) s.headings)
  rule_placed at (form.body q t) ms h g = tt
  rule_placed at form.routine ms h g = tt
  rule_placed at (form.refinement q) ms h g = tt
  rule_placed at (form.exported doubled may) ms h g = exported_placed at h doubled may
  rule_placed at form.level ms h g = tt

  pub ruled_placed : (k : Known) (at : ℕ) (f : Form) (ms : List Meant) → Owned at f → AllPlaced ms → MayTell Placed (ruled k at f ms)
  ruled_placed k at (form.named w s x) ms h g =
      on_unless Placed (r.is_open_name s x (find s x)) (r.named k w at s x (find s x)) (named_placed at h k w s x (find s x))
  ruled_placed k at (form.leave s x) ms h g =
      on_unless Placed (r.leaves_open s (left s x)) (told (r.leaving k at (left s x) (p.nth ms 0)))
      (on_told Placed (r.leaving k at (left s x) (p.nth ms 0)) (leaving_placed at h k (left s x) (p.nth ms 0)))
  ruled_placed k at (plain f) ms h g = on_unless Placed (all.hangs_on at f ms) (told (rule at f ms)) (on_told Placed (rule at f ms) (rule_placed at f ms h g))
