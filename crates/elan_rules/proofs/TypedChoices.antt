-- IF and SELECT have the shapes that they ask for.
use Rattle.std.proofs.Common.{◌≡◌, ℕ, ℤ, Bool, true, false, if◌then◌else◌, List, [], ◌∷◌, map, Option, Some, None, refl, sym, subst, ◌∙◌}
use Rattle.elan_types.specs.declared.elan_type.ElanType.{ElanType}
use Rattle.elan_types.specs.declared.elan_type.ElanType.TheVariants as types
use Rattle.eu_base.specs.declared.value.Kind.TheVariants.{Int, Truth as Truths}
use Rattle.eu_base.specs.declared.shape.Shape.{Shape}
use Rattle.eu_base.specs.declared.shape.Shape.TheVariants.{Cell}
use Rattle.elan_types.specs.declared.core_phrase.ValuePhrase.{ValuePhrase}
use Rattle.elan_types.specs.declared.core_phrase.Action.{Action}
use Rattle.elan_types.specs.declared.core_phrase.Action.TheVariants as action
use Rattle.elan_meant.specs.declared.meant.Meant.{Meant}
use Rattle.elan_meant.specs.declared.meant.Meant.TheVariants.{Absent, Variable, Value, Done, Left, Labels, Bodies, Level, Start}
use Rattle.elan_types.specs.Typing.{Typed, all_agree, all_true}
use Rattle.elan_types.specs.Types.{same_type, shape_in}
use Rattle.elan_scope.specs.declared.delivery.Delivery.{Delivery}
use Rattle.elan_scope.specs.declared.delivery.Delivery.TheVariants.{Open, Nothing, Of}
use Rattle.std.specs.Prelude.{◌||◌, is_some}
use Rattle.elan_types.specs.declared.why.Why.{Why}
use Rattle.elan_types.specs.declared.why.Why.TheVariants.{Unknown, WrongType}
use Rattle.elan_scope.specs.Scope.{Found, number_named}
use Rattle.elan_meant.specs.Operands.{delivers}
use Rattle.elan_meant.specs.Verdict.{Verdict, gives}
use Rattle.elan_rules.proofs.Typed as ty
use Rattle.elan_rules.proofs.Typed.{same_type_is, has_self, agree_self, only_if_holds, both, and_true, Gives, on_if, on_bind}
use Rattle.elan_meant.specs.Parts as p
use Rattle.elan_rules.specs.Choices as r
use Rattle.elan_rules.specs.walks.ChoiceSteps as w
use Rattle.elan_rules.proofs.TypedUnits.{unreached_typed, if_value_typed}
use Rattle.elan_rules.proofs.TypeEquations.{Stand, arm_typed, arm_shape, if_is, select_is, value_select_is, value_arm_is, arm_is}

module _ (here : Stand) where
  abbrev Has : Shape → ValuePhrase → Type 0
  Has = ty.Has here

  abbrev AllTyped : List Action → Type 0
  AllTyped = ty.AllTyped here

  abbrev Good : Meant → Type 0
  Good = ty.Good here

  abbrev PairsGood : List (Meant × Meant) → Type 0
  PairsGood = ty.PairsGood here

  abbrev MayGood : Option Meant → Type 0
  MayGood = ty.MayGood here

  otherwise_good : (o : Option Meant) → MayGood o → Good (w.otherwise o)
  otherwise_good None g = tt
  otherwise_good (Some m) g = g

  -- ---- what parts deliver, and whether they agree

  -- what parts deliver can be this type
  abbrev Allows : ElanType → Delivery → Type 0
  Allows t Open = Unit {0}
  Allows t Nothing = ⊥
  Allows t (Of u) = u ≡ t

  abbrev CanBe : ElanType → Meant → Type 0
  CanBe t m = Allows t (r.delivery_in m)

  value_as_typed : (t : ElanType) (m : Meant) → Good m → CanBe t m → Has (shape_in t) (r.value_as t m)
  value_as_typed t Absent g e = absurd e
  value_as_typed t (Variable at u x) g e = absurd e
  value_as_typed t (Value at u v) g e = subst (λ (z : ElanType). Has (shape_in z) v) e g
  value_as_typed t (Done as') g e = absurd e
  value_as_typed t (Left as') g e = unreached_typed here t as' g
  value_as_typed t (Labels ns) g e = absurd e
  value_as_typed t (Start k) g e = absurd e
  value_as_typed t (Bodies bs) g e = absurd e
  value_as_typed t (Level us bs) g e = absurd e

  abbrev AllowsSome : ElanType → Option Delivery → Type 0
  AllowsSome t None = ⊥
  AllowsSome t (Some d) = Allows t d

  join_of : (t u v : ElanType) → AllowsSome t (if same_type u v then Some (Of u) else None) → (u ≡ t) × (v ≡ t)
  join_of t u v a = by_test (same_type u v) refl a
    where
      by_test : (b : Bool) → same_type u v ≡ b → AllowsSome t (if b then Some (Of u) else None) → (u ≡ t) × (v ≡ t)
      by_test true e k = (k, sym (same_type_is u v e) ∙ k)
      by_test false e k = absurd k

  -- what is joined allows a type only where both do
  join_allows : (t : ElanType) (d e : Delivery) → AllowsSome t (r.joined d e) → Allows t d × Allows t e
  join_allows t Open e a = (tt, a)
  join_allows t Nothing Open a = absurd a
  join_allows t Nothing Nothing a = absurd a
  join_allows t Nothing (Of u) a = absurd a
  join_allows t (Of u) Open a = (a, tt)
  join_allows t (Of u) Nothing a = absurd a
  join_allows t (Of u) (Of v) a = join_of t u v a

  delivering_good : (at : ℕ) (as' : List Action) (f : ElanType → ValuePhrase) (o : Option Delivery) → AllTyped as'
      → ((t : ElanType) → AllowsSome t o → Has (shape_in t) (f t)) → Gives Good (r.delivering at as' f o)
  delivering_good at as' f None h k = tt
  delivering_good at as' f (Some Nothing) h k = h
  delivering_good at as' f (Some Open) h k = h
  delivering_good at as' f (Some (Of t)) h k = k t refl

  -- ---- IF

  if_typed : (c : ValuePhrase) (m n : Meant) → Has (Cell Truths) c → Good m → Good n → AllTyped (w.if_actions c m n)
  if_typed c m n h g k =
      ty.single_typed here (action.If c (p.actions m) (p.actions n)) (if_is here c (p.actions m) (p.actions n)
      ∙ and_true _ _ (has_self (Cell Truths) _ h) (and_true _ _ (ty.actions_typed here m g) (ty.actions_typed here n k)))

  chosen_good : (at : ℕ) (c : ValuePhrase) (m n : Meant) → Has (Cell Truths) c → Good m → Good n → Gives Good (r.chosen_of at c m n)
  chosen_good at c m n h g k =
      delivering_good at (w.if_actions c m n) (w.if_value c m n) (r.joined (r.delivery_in m) (r.delivery_in n)) (if_typed c m n h g k)
      (λ t e. let a = join_allows t (r.delivery_in m) (r.delivery_in n) e in
      if_value_typed here c (shape_in t) (r.value_as t m) (r.value_as t n) h (value_as_typed t m g a.0) (value_as_typed t n k a.1))

  branched_good : (at : ℕ) (b : r.Guard) (m : Meant) → Good b.0 × Good b.1 → Good m → Gives Good (r.branched at b m)
  branched_good at b m g h =
      on_if Good (delivers types.Bool b.0) _ _ (λ e. chosen_good at (p.value_of b.0) b.1 m (ty.kind_value here Truths b.0 g.0 e) g.1 h) (λ e. tt)

  chain_good : (at : ℕ) (gs : List r.Guard) (q : Verdict Meant) → PairsGood gs → Gives Good q → Gives Good (r.chain at gs q)
  chain_good at [] q g h = h
  chain_good at (b ∷ gs) q g h = on_bind Good Good (r.chain at gs q) (r.branched at b) (chain_good at gs q g.1 h) (λ m k. branched_good at b m g.0 k)

  pub choice_good : (at : ℕ) (ms : List Meant) → ty.AllGood here ms → Gives Good (r.choice at ms)
  choice_good at ms g =
      let h = ty.pairs_good here ms g in chain_good at (p.pairs ms) (gives (w.otherwise (p.odd ms))) h.0 (otherwise_good (p.odd ms) h.1)

  -- ---- SELECT

  action_arms_typed : (gs : List r.Guard) → PairsGood gs → all_true (map (arm_typed here) (map r.action_arm gs)) ≡ true
  action_arms_typed [] g = refl
  action_arms_typed (b ∷ gs) g =
      and_true _ _ (arm_is here (r.labels_in b.0) (p.actions b.1) ∙ ty.actions_typed here b.1 g.0.1) (action_arms_typed gs g.1)

  select_typed : (v : ValuePhrase) (gs : List r.Guard) (m : Meant) → Has (Cell Int) v → PairsGood gs → Good m → AllTyped (w.select_actions v gs m)
  select_typed v gs m h g k =
      ty.single_typed here (action.Select v (map r.action_arm gs) (p.actions m)) (select_is here v (map r.action_arm gs) (p.actions m)
      ∙ and_true _ _ (has_self (Cell Int) _ h) (and_true _ _ (action_arms_typed gs g) (ty.actions_typed here m k)))

  abbrev AllCanBe : ElanType → List r.Guard → Type 0
  AllCanBe t [] = Unit {0}
  AllCanBe t (b ∷ gs) = CanBe t b.1 × AllCanBe t gs

  value_arms_agree : (t : ElanType) (a : Typed) → a ≡ Some (shape_in t) → (gs : List r.Guard) → PairsGood gs → AllCanBe t gs
      → all_agree a (map (arm_shape here) (map (r.value_arm t) gs)) ≡ true
  value_arms_agree t a h [] g e = refl
  value_arms_agree t a h (b ∷ gs) g e =
      and_true _ _ (agree_self (shape_in t) _ _ h (value_arm_is here (r.labels_in b.0) (r.value_as t b.1) ∙ value_as_typed t b.1 g.0.1 e.0))
      (value_arms_agree t a h gs g.1 e.1)

  agreed_allows : (t : ElanType) (gs : List r.Guard) (o : Option Delivery) → AllowsSome t (r.agreed o gs) → AllowsSome t o × AllCanBe t gs
  agreed_allows t [] o a = (a, tt)
  agreed_allows t (b ∷ gs) None a = absurd (agreed_allows t gs None a).0
  agreed_allows t (b ∷ gs) (Some d) a =
      let e = agreed_allows t gs (r.joined d (r.delivery_in b.1)) a in
      let c = join_allows t d (r.delivery_in b.1) e.0 in
      (c.0, (c.1, e.1))

  selected_by_good : (at : ℕ) (v : ValuePhrase) (gs : List r.Guard) (m : Meant) → Has (Cell Int) v → PairsGood gs → Good m
      → Gives Good (r.selected_by at v gs m)
  selected_by_good at v gs m h g k =
      delivering_good at (w.select_actions v gs m) (w.select_value v gs m) (r.agreed (Some (r.delivery_in m)) gs) (select_typed v gs m h g k)
      (λ t e. let c = agreed_allows t gs (Some (r.delivery_in m)) e in
      let other = value_as_typed t m k c.0 in
      value_select_is here v (map (r.value_arm t) gs) (r.value_as t m)
      ∙ only_if_holds _ _ (shape_in t) (and_true _ _ (has_self (Cell Int) _ h) (value_arms_agree t _ other gs g c.1)) other)

  pub selected_good : (at : ℕ) (m : Meant) (ms : List Meant) → Good m → ty.AllGood here ms → Gives Good (r.selected at m ms)
  selected_good at m ms g h =
      let b = ty.pairs_good here ms h in
      on_if Good (delivers types.Int m) _ _
      (λ e. selected_by_good at (p.value_of m) (p.pairs ms) (w.otherwise (p.odd ms)) (ty.kind_value here Int m g e) b.0 (otherwise_good (p.odd ms) b.1))
      (λ e. tt)

  -- ---- labels

  label_as_good : (at : ℕ) (earlier : List ℤ) (why : Why) (o : Option ℤ) → Gives Good (r.label_as at earlier why o)
  label_as_good at earlier why None = tt
  label_as_good at earlier why (Some n) = on_if Good (w.is_in earlier n) _ _ (λ e. tt) (λ e. tt)

  pub label_named_good : (at : ℕ) (earlier : List ℤ) (known : Bool) (o : Option Found) → Gives Good (r.label_named at earlier known o)
  label_named_good at earlier known o = label_as_good at earlier (if is_some o || known then WrongType else Unknown) (number_named o)
