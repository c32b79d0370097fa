-- Values, stores, lists of units and bodies have the shapes that they ask for.
use Rattle.std.proofs.Common.{◌≡◌, ℤ, ℕ, Bool, true, false, if◌then◌else◌, nat_le, List, [], ◌∷◌, length, Option, Some, None, option_map, ◌&&◌, refl, sym, ap, subst, ◌∙◌, eq-eqb}
use Rattle.std.specs.Option.{option_map_or}
use Rattle.eu_base.specs.declared.value.TheConstants.{TEXT_BYTES}
use Rattle.elan_types.specs.declared.elan_type.ElanType.{ElanType}
use Rattle.elan_types.specs.declared.elan_type.ElanType.TheVariants.{Dataspace}
use Rattle.elan_types.specs.Types.{same_type, concrete, is_own_from, items, field, cells, shape_in, type_in, has_own}
use Rattle.elan_scope.specs.declared.scope.Scope.{Scope}
use Rattle.elan_types.proofs.Types.{concrete_shape, cells_kinds}
use Rattle.elan_types.proofs.Sized.{items_shape, item_of_type_starts, item_of_type_sized, field_of_type_starts, field_of_type_sized, field_has_part}
use Rattle.value_rules.specs.Values as v
use Rattle.eu_base.specs.declared.value.Kind.{Kind}
use Rattle.eu_base.specs.declared.value.Kind.TheVariants.{Int, Truth as Truths, Text, Space}
use Rattle.eu_base.specs.Room.{cells_fit}
use Rattle.eu_base.specs.declared.shape.Shape.{Shape}
use Rattle.eu_base.specs.declared.shape.Shape.TheVariants.{Cell, Row}
use Rattle.eu_base.specs.Shapes.{cell_kinds}
use Rattle.elan_types.specs.declared.core_phrase.PlacePhrase.{PlacePhrase, out-PlacePhrase, roll-PlacePhrase, roll-out-PlacePhrase}
use Rattle.elan_types.specs.declared.core_phrase.Actual.{Actual}
use Rattle.elan_types.specs.declared.core_phrase.Arm.{Arm}
use Rattle.elan_types.specs.declared.core_phrase.ValueArm.{ValueArm}
use Rattle.elan_types.specs.declared.core_phrase.Action.TheVariants as action
use Rattle.elan_types.specs.declared.core_phrase.Action.TheOpen as phrases
use Rattle.elan_types.specs.declared.core_phrase.Action.TheOpen.{PlacePhrase-F}
use Rattle.elan_types.specs.declared.core_phrase.PlacePhrase.TheVariants as place
use Rattle.elan_types.specs.declared.core_phrase.ValuePhrase.{ValuePhrase}
use Rattle.elan_types.specs.declared.core_phrase.ValuePhrase.TheVariants as value
use Rattle.elan_types.specs.declared.core_phrase.Action.{Action}
use Rattle.elan_meant.specs.declared.meant.Meant.{Meant}
use Rattle.elan_meant.specs.declared.meant.Meant.TheVariants.{Absent, Variable, Value, Done, Left, Labels, Bodies, Level, Start}
use Rattle.elan_types.specs.Typing.{is_content_typed, starts, if_true, item_kinds, has_part}
use Rattle.eu_base.specs.Operations.{in_range}
use Rattle.elan_names.specs.declared.denoter.Denoter.{Denoter}
use Rattle.elan_names.specs.declared.denoter.Denoter.TheVariants as denoters
use Rattle.elan_meant.specs.Operands.{delivers}
use Rattle.elan_rules.proofs.Typed as ty
use Rattle.elan_rules.proofs.Typed.{same_type_is, type_shape, has_self, agree_self, only_if_holds, both, and_true, Gives, on_if, on_bind}
use Rattle.elan_meant.specs.Parts as p
use Rattle.elan_rules.specs.Units as r
use Rattle.value_rules.specs.walks.Steps as walk
use Rattle.elan_rules.specs.Rules as rules
use Rattle.elan_rules.proofs.TypeEquations.{Stand, typed, shape, cells as places, number_is, truth_is, text_is, value_if_is, value_unit_is, after_is, store_is, copy_is, bind_is, content_is}
use Rattle.elan_rules.proofs.TypeEquations.{item_is, field_is, never_is, pick_is, take_is}

module _ (here : Stand) where
  abbrev Has : Shape → ValuePhrase → Type 0
  Has = ty.Has here

  abbrev MayHave : Shape → Option ValuePhrase → Type 0
  MayHave = ty.MayHave here

  abbrev Lies : Shape → PlacePhrase → Type 0
  Lies = ty.Lies here

  abbrev AllTyped : List Action → Type 0
  AllTyped = ty.AllTyped here

  abbrev Good : Meant → Type 0
  Good = ty.Good here

  abbrev AllGood : List Meant → Type 0
  AllGood = ty.AllGood here

  -- ---- values

  pub number_good : (at : ℕ) (n : ℤ) → Gives Good (rules.number at n)
  number_good at n = on_if Good (in_range n) _ _ (λ e. ty.kind_good here Int _ (number_is here n ∙ only_if_holds (in_range n) _ (Cell Int) e refl)) (λ e. tt)

  pub text_good : (at : ℕ) (x : List ℕ) → Gives Good (rules.text at x)
  text_good at x = let fits = nat_le (length x) TEXT_BYTES in
      on_if Good fits _ _ (λ e. ty.kind_good here Text _ (text_is here x ∙ only_if_holds fits _ (Cell Text) e refl)) (λ e. tt)

  pub truth_good : (at : ℕ) (b : Bool) → Good (Value at (type_in Truths) (value.Truth b))
  truth_good at b = ty.kind_good here Truths _ (truth_is here b)

  pub denoter_good : (at : ℕ) (d : Denoter) → Gives Good (rules.denoter at d)
  denoter_good at (denoters.Number n) = number_good at n
  denoter_good at (denoters.Truth b) = truth_good at b
  denoter_good at (denoters.Text x) = text_good at x

  pub bracketed_good : (at : ℕ) (m : Meant) → Good m → Good (rules.bracketed at m)
  bracketed_good at Absent g = g
  bracketed_good at (Variable p t x) g = ty.load_typed here (shape_in t) x g.0
  bracketed_good at (Value p t v) g = g
  bracketed_good at (Done as') g = g
  bracketed_good at (Left as') g = g
  bracketed_good at (Labels ns) g = g
  bracketed_good at (Start k) g = g
  bracketed_good at (Bodies bs) g = g
  bracketed_good at (Level us bs) g = g

  pub if_value_typed : (c : ValuePhrase) (s : Shape) (v w : ValuePhrase) → Has (Cell Truths) c → Has s v → Has s w → Has s (value.If c v w)
  if_value_typed c s v w h g i = value_if_is here c v w ∙ only_if_holds _ _ s (and_true _ _ (has_self (Cell Truths) _ h) (agree_self s _ _ g i)) g

  truths_typed : (l m : Meant) → Good l → Good m → walk.are_truths l m ≡ true → Has (Cell Truths) (p.value_of l) × Has (Cell Truths) (p.value_of m)
  truths_typed l m g h e = let b = both _ _ e in (ty.kind_value here Truths l g b.0, ty.kind_value here Truths m h b.1)

  pub cand_good : (at : ℕ) (l m : Meant) → Good l → Good m → Gives Good (rules.cand at l m)
  cand_good at l m g h =
      on_if Good (walk.are_truths l m) _ _
      (λ e. let b = truths_typed l m g h e in ty.kind_good here Truths _ (if_value_typed _ (Cell Truths) _ _ b.0 b.1 (truth_is here false)))
      (λ e. tt)

  pub cor_good : (at : ℕ) (l m : Meant) → Good l → Good m → Gives Good (rules.cor at l m)
  cor_good at l m g h =
      on_if Good (walk.are_truths l m) _ _
      (λ e. let b = truths_typed l m g h e in ty.kind_good here Truths _ (if_value_typed _ (Cell Truths) _ _ b.0 (truth_is here true) b.1))
      (λ e. tt)

  -- ---- CONCR

  concr_as_good : (at : ℕ) (own : Bool) (t : ElanType) (o : Option ElanType) (go : ElanType → Meant) → concrete t ≡ o
      → ((u : ElanType) → shape_in u ≡ shape_in t → Good (go u)) → Gives Good (v.concr_as at own o go)
  concr_as_good at true t (Some u) go e h = h u (sym (concrete_shape t u e))
  concr_as_good at false t (Some u) go e h = tt
  concr_as_good at own t None go e h = tt

  pub concr_good : (at : ℕ) (s : Scope) (m : Meant) → Good m → Gives Good (v.concr at s m)
  concr_good at s Absent g = tt
  concr_good at s (Variable q t x) g =
      concr_as_good at (is_own_from s.types_before t) t (concrete t) (λ u. Variable at u x) refl (λ u e. subst (λ (r : Shape). Lies r x) (sym e) g)
  concr_good at s (Value q t x) g =
      concr_as_good at (is_own_from s.types_before t) t (concrete t) (λ u. Value at u x) refl (λ u e. subst (λ (r : Shape). Has r x) (sym e) g)
  concr_good at s (Done as') g = tt
  concr_good at s (Left as') g = tt
  concr_good at s (Labels ns) g = tt
  concr_good at s (Start k) g = tt
  concr_good at s (Bodies bs) g = tt
  concr_good at s (Level us bs) g = tt

  -- ---- items of rows and fields of structures

  abbrev Items : Type 0
  Items = ℕ × ElanType

  item_as_good : (at : ℕ) (t : ElanType) (o : Option Items) (go : Items → Meant) → items t ≡ o
      → ((n : ℕ) (u : ElanType) → items t ≡ Some (n, u) → Good (go (n, u))) → Gives Good (v.item_as at o go)
  item_as_good at t (Some r) go e h = h r.0 r.1 e
  item_as_good at t None go e h = tt

  item_lies : (t u : ElanType) (n : ℕ) (x : PlacePhrase) (i : ValuePhrase) → items t ≡ Some (n, u) → Has (Cell Int) i → Lies (shape_in t) x
      → Lies (shape_in u) (place.Item x i (v.items_of (n, u)))
  item_lies t u n x i e h g =
      let ks = item_kinds n (cells u) (places here x) in (
        ap (starts (cell_kinds (shape_in u)))
            (item_is here x i (v.items_of (n, u)) ∙ ap (λ (b : Bool). if_true b ks) (has_self (Cell Int) (shape here i) h))
            ∙ item_of_type_starts t u n (places here x) e g.0 g.1,
        item_of_type_sized t u n e g.1,
      )

  pick_typed : (t u : ElanType) (n : ℕ) (a i : ValuePhrase) → items t ≡ Some (n, u) → Has (Cell Int) i → Has (shape_in t) a
      → Has (shape_in u) (value.Pick a i (v.items_of (n, u)) (shape_in u))
  pick_typed t u n a i e h g =
      pick_is here a i (v.items_of (n, u)) (shape_in u)
      ∙ only_if_holds _ _ (shape_in u)
      (and_true _ _ (has_self (Row n (shape_in u)) _ (g ∙ ap (λ (s : Shape). Some s) (items_shape t u n e)))
      (and_true _ _ (has_self (Cell Int) _ h) (eq-eqb _ _ (cells_kinds u))))
      refl

  item_good : (at : ℕ) (m : Meant) (i : ValuePhrase) → Good m → Has (Cell Int) i → Gives Good (v.item at m i)
  item_good at Absent i g h = tt
  item_good at (Variable q t x) i g h =
      item_as_good at t (items t) (λ r. Variable at r.1 (place.Item x i (v.items_of r))) refl (λ n u e. item_lies t u n x i e h g)
  item_good at (Value q t a) i g h =
      item_as_good at t (items t) (λ r. Value at r.1 (value.Pick a i (v.items_of r) (shape_in r.1))) refl (λ n u e. pick_typed t u n a i e h g)
  item_good at (Done as') i g h = tt
  item_good at (Left as') i g h = tt
  item_good at (Labels ns) i g h = tt
  item_good at (Start k) i g h = tt
  item_good at (Bodies bs) i g h = tt
  item_good at (Level us bs) i g h = tt

  pub indexed_good : (at : ℕ) (m i : Meant) → Good m → Good i → Gives Good (v.indexed at m i)
  indexed_good at m i g h =
      on_if Good (delivers (type_in Int) i) _ _ (λ e. item_good at m (p.value_of i) g (ty.kind_value here Int i h e)) (λ e. tt)

  field_as_good : (at : ℕ) (t : ElanType) (x : List ℕ) (o : Option (ℕ × ElanType)) (go : ℕ × ElanType → Meant) → field t x ≡ o
      → ((k : ℕ) (u : ElanType) → field t x ≡ Some (k, u) → Good (go (k, u))) → Gives Good (v.field_as at o go)
  field_as_good at t x (Some r) go e h = h r.0 r.1 e
  field_as_good at t x None go e h = tt

  field_lies : (t : ElanType) (x : List ℕ) (k : ℕ) (u : ElanType) (y : PlacePhrase) → field t x ≡ Some (k, u) → Lies (shape_in t) y
      → Lies (shape_in u) (place.Field y k)
  field_lies t x k u y e g =
      (ap (starts (cell_kinds (shape_in u))) (field_is here y k) ∙ field_of_type_starts t x k u (places here y) e g.0 g.1, field_of_type_sized t x k u e g.1)

  take_typed : (t : ElanType) (x : List ℕ) (k : ℕ) (u : ElanType) (a : ValuePhrase) → field t x ≡ Some (k, u) → Has (shape_in t) a
      → Has (shape_in u) (value.Take a (v.part_of t (k, u)) (shape_in u))
  take_typed t x k u a e g =
      take_is here a (v.part_of t (k, u)) (shape_in u)
      ∙ only_if_holds _ _ (shape_in u) (ap (has_part (v.part_of t (k, u)) (cell_kinds (shape_in u))) g ∙ field_has_part t x k u e) refl

  pub field_part_good : (at : ℕ) (x : List ℕ) (m : Meant) → Good m → Gives Good (v.field_part at x m)
  field_part_good at x Absent g = tt
  field_part_good at x (Variable q t y) g =
      field_as_good at t x (field t x) (λ f. Variable at f.1 (place.Field y f.0)) refl (λ k u e. field_lies t x k u y e g)
  field_part_good at x (Value q t a) g =
      field_as_good at t x (field t x) (λ f. Value at f.1 (value.Take a (v.part_of t f) (shape_in f.1))) refl (λ k u e. take_typed t x k u a e g)
  field_part_good at x (Done as') g = tt
  field_part_good at x (Left as') g = tt
  field_part_good at x (Labels ns) g = tt
  field_part_good at x (Start k) g = tt
  field_part_good at x (Bodies bs) g = tt
  field_part_good at x (Level us bs) g = tt

  -- ---- stores

  abbrev Agreed : ℕ → Meant → Meant → ElanType → Type 0
  Agreed at l m t = Gives (Lies (shape_in t)) (p.variable at l) × Has (shape_in t) (p.value_of m)

  pub agreed_good : (at : ℕ) (l m : Meant) → Good l → Good m → Gives (Agreed at l m) (r.agreed at l m)
  agreed_good at Absent m g h = tt
  agreed_good at (Variable p t x) m g h = on_if (Agreed at (Variable p t x) m) (delivers t m) _ _ (λ e. (g, ty.value_typed here t m h e)) (λ e. tt)
  agreed_good at (Value p t v) m g h = on_if (Agreed at (Value p t v) m) (delivers t m) _ _ (λ e. (tt, ty.value_typed here t m h e)) (λ e. tt)
  agreed_good at (Done as') m g h = tt
  agreed_good at (Left as') m g h = tt
  agreed_good at (Labels ns) m g h = tt
  agreed_good at (Start k) m g h = tt
  agreed_good at (Bodies bs) m g h = tt
  agreed_good at (Level us bs) m g h = tt

  abbrev IsTyped : Action → Type 0
  IsTyped a = typed here a ≡ true

  given_typed : (t : ElanType) (b : Bool) (x : PlacePhrase) (v : ValuePhrase) → same_type Dataspace t ≡ b → ty.Stands here (shape_in t) x → Has (shape_in t) v
      → IsTyped (r.given_to b x (shape_in t) v)
  given_typed t true x v e k h =
      let i : shape_in t ≡ Cell Space = ap shape_in (sym (same_type_is Dataspace t e)) ∙ type_shape Space in
      copy_is here x v
      ∙ and_true _ _ (ty.cell_there here Space x (subst (λ (s : Shape). ty.Stands here s x) i k)) (has_self (Cell Space) _ (h ∙ ap (λ (s : Shape). Some s) i))
  given_typed t false x v e k h = store_is here x (shape_in t) v ∙ and_true _ _ k (has_self (shape_in t) _ h)

  pub stored_good : (at : ℕ) (l m : Meant) → Good l → Good m → Gives IsTyped (r.stored at l m)
  stored_good at l m g h =
      on_bind (Agreed at l m) IsTyped (r.agreed at l m) _ (agreed_good at l m g h) (λ t a.
      on_bind (Lies (shape_in t)) IsTyped (p.variable at l) _ a.0
      (λ x k. given_typed t (same_type Dataspace t) x (p.value_of m) refl k.0 a.1))

  pub assigned_good : (at : ℕ) (l m : Meant) → Good l → Good m → Gives Good (r.assigned at l m)
  assigned_good at l m g h =
      on_if Good (option_map_or has_own (p.type_in l) false) _ _ (λ e. tt) (λ e.
      on_bind IsTyped Good (r.stored at l m) _ (stored_good at l m g h) (λ a k. ty.unit_typed here (a ∷ []) (ty.single_typed here a k)))

  -- ---- BOUND variables

  abbrev HoldsSpace : PlacePhrase → Type 0
  HoldsSpace x = starts (Space ∷ []) (places here x) ≡ true

  -- where a content stands there is a BOUND variable
  content_holds : (x : PlacePhrase) (s : Shape) (ks : List Kind) → starts ks (places here (place.Content x s)) ≡ true → HoldsSpace x
  content_holds x s ks g =
      let fits = cells_fit (length (cell_kinds s)) in
      (both _ fits (by_test (starts (Space ∷ []) (places here x) && fits) (sym (ap (starts ks) (content_is here x s)) ∙ g))).0
    where
      none : (js : List Kind) → starts js [] ≡ true → ⊥
      none [] h = cc
      none (j ∷ js) h = cc

      by_test : (b : Bool) → starts ks (if_true b (cell_kinds s)) ≡ true → b ≡ true
      by_test true h = refl
      by_test false h = absurd (none ks h)

  bound_holds : (l : Meant) (b : PlacePhrase × Shape) → Good l → r.bound_in l ≡ Some b → HoldsSpace b.0
  bound_holds (Variable at t x) b g e = by_layer (out-PlacePhrase x) (sym (roll-out-PlacePhrase x)) e
    where
      by_layer : (y : PlacePhrase-F Action Actual PlacePhrase ValuePhrase Arm ValueArm) → x ≡ roll-PlacePhrase y → r.content_here y ≡ Some b → HoldsSpace b.0
      by_layer (phrases.Content q s) i h =
          let j : (q, s) ≡ b = cc in
          let z : x ≡ place.Content q s = i ∙ place.rolls-Content q s in
          subst (λ (c : PlacePhrase × Shape). HoldsSpace c.0) j
          (content_holds q s (cell_kinds (shape_in t)) (subst (λ (y : PlacePhrase). starts (cell_kinds (shape_in t)) (places here y) ≡ true) z g.0))
      by_layer _ i h = absurd cc
  bound_holds Absent b g e = absurd cc
  bound_holds (Value at t v) b g e = absurd cc
  bound_holds (Done as') b g e = absurd cc
  bound_holds (Left as') b g e = absurd cc
  bound_holds (Labels ns) b g e = absurd cc
  bound_holds (Start k) b g e = absurd cc
  bound_holds (Bodies bs) b g e = absurd cc
  bound_holds (Level us bs) b g e = absurd cc

  abbrev pub MayTyped : Option Action → Type 0
  MayTyped None = Unit {0}
  MayTyped (Some a) = IsTyped a

  pub binding_good : (l m : Meant) → Good l → Good m → MayTyped (r.binding l m)
  binding_good l m g h = by_test (delivers Dataspace m) refl
    where
      by_bound : delivers Dataspace m ≡ true → (o : Option (PlacePhrase × Shape)) → r.bound_in l ≡ o
          → MayTyped (option_map (λ b. action.Bind b.0 b.1 (p.value_of m)) o)
      by_bound d None e = tt
      by_bound d (Some b) e = bind_is here b.0 b.1 (p.value_of m) ∙ and_true _ _ (bound_holds l b g e) (has_self (Cell Space) _ (ty.kind_value here Space m h d))

      by_test : (c : Bool) → delivers Dataspace m ≡ c → MayTyped (if c then option_map (λ b. action.Bind b.0 b.1 (p.value_of m)) (r.bound_in l) else None)
      by_test true d = by_bound d (r.bound_in l) refl
      by_test false d = tt

  -- the same, where a name stands at the left
  pub named_binding_good : (named : Bool) (l m : Meant) → Good l → Good m → MayTyped (r.binding_if named l m)
  named_binding_good true l m g h = binding_good l m g h
  named_binding_good false l m g h = tt

  -- ---- a name in its declaration, and its initial value

  stored_or_good : (at : ℕ) (l m : Meant) (o : Option Action) → MayTyped o → Good l → Good m → Gives IsTyped (r.stored_or at l m o)
  stored_or_good at l m None k g h = stored_good at l m g h
  stored_or_good at l m (Some a) k g h = k

  pub initial_good : (at : ℕ) (l m : Meant) → Good l → Good m → Gives Good (r.initial at l m)
  initial_good at l m g h =
      on_bind IsTyped Good (r.stored_or at l m (r.binding l m)) _ (stored_or_good at l m (r.binding l m) (binding_good l m g h) g h)
      (λ a k. ty.single_typed here a k)

  -- ---- lists of units

  pub or_last_good : (n m : Meant) → Good n → Good m → Good (r.or_last n m)
  or_last_good n Absent g h = g
  or_last_good n (Variable at t x) g h = g
  or_last_good n (Value at t v) g h = h
  or_last_good n (Done as') g h = g
  or_last_good n (Left as') g h = refl
  or_last_good n (Labels ns) g h = g
  or_last_good n (Start k) g h = g
  or_last_good n (Bodies bs) g h = g
  or_last_good n (Level us bs) g h = g

  pub last_good : (n : Meant) (ms : List Meant) → Good n → AllGood ms → Good (r.last_value n ms)
  last_good n [] g h = g
  last_good n (m ∷ ms) g h = last_good (r.or_last n m) ms (or_last_good n m g h.0) h.1

  pub ended_good : (as' : List Action) (m : Meant) → AllTyped as' → Good m → Good (r.ended as' m)
  ended_good as' Absent h g = h
  ended_good as' (Variable at t x) h g = h
  ended_good as' (Value at t v) h g = after_is here as' v ∙ only_if_holds _ _ (shape_in t) h g
  ended_good as' (Done bs) h g = h
  ended_good as' (Left bs) h g = h
  ended_good as' (Labels ns) h g = h
  ended_good as' (Start k) h g = h
  ended_good as' (Bodies bs) h g = h
  ended_good as' (Level us bs) h g = h

  pub in_order_good : (ms : List Meant) → AllGood ms → Good (r.in_order ms)
  in_order_good ms g = ended_good (p.actions_of ms) (r.last_value Absent ms) (ty.actions_of_typed here ms g) (last_good Absent ms tt g)

  pub alone_good : (m : Meant) → Good m → Good (r.alone m)
  alone_good Absent g = ty.unit_typed here [] refl
  alone_good (Variable at t x) g = value_unit_is here (value.Load x (shape_in t)) ∙ ty.load_typed here (shape_in t) x g.0
  alone_good (Value at t v) g = value_unit_is here v ∙ g
  alone_good (Done as') g = ty.unit_typed here as' g
  alone_good (Left as') g = ty.unit_typed here as' g
  alone_good (Labels ns) g = ty.unit_typed here [] refl
  alone_good (Start k) g = ty.unit_typed here [] refl
  alone_good (Bodies bs) g = ty.unit_typed here [] refl
  alone_good (Level us bs) g = ty.unit_typed here [] refl

  pub without_value_good : (m : Meant) → Good m → Gives Good (r.without_value m)
  without_value_good Absent g = refl
  without_value_good (Variable at t x) g = tt
  without_value_good (Value at t v) g = tt
  without_value_good (Done as') g = g
  without_value_good (Left as') g = g
  without_value_good (Labels ns) g = refl
  without_value_good (Start k) g = refl
  without_value_good (Bodies bs) g = refl
  without_value_good (Level us bs) g = refl

  pub must_deliver_good : (at : ℕ) (t : ElanType) (m : Meant) → Good m → Gives Good (r.must_deliver at t m)
  must_deliver_good at t m g = on_if Good (r.agrees_with t m) _ _ (λ e. g) (λ e. tt)

  -- ---- bodies

  pub unreached_typed : (t : ElanType) (as' : List Action) → AllTyped as' → Has (shape_in t) (p.unreached as' t)
  unreached_typed t as' h = after_is here as' (value.Never (shape_in t)) ∙ only_if_holds _ _ (shape_in t) h (never_is here (shape_in t))

  value_as_typed : (t : ElanType) (m : Meant) → Good m → Has (shape_in t) (if delivers t m then p.value_of m else p.unreached (p.actions m) t)
  value_as_typed t m g = by_test (delivers t m) refl
    where
      by_test : (b : Bool) → delivers t m ≡ b → Has (shape_in t) (if b then p.value_of m else p.unreached (p.actions m) t)
      by_test true e = ty.value_typed here t m g e
      by_test false e = unreached_typed t (p.actions m) (ty.actions_typed here m g)

  -- the units of a body have the shapes that they ask for
  pub content_as_good : (o : Option ElanType) (m : Meant) → Good m → is_content_typed here.outside here.bodies here.home (r.content_as o m) ≡ true
  content_as_good None m g = ty.actions_typed here m g
  content_as_good (Some t) m g = has_self (shape_in t) _ (value_as_typed t m g)

  pub content_of_good : (m : Meant) → Good m → is_content_typed here.outside here.bodies here.home (r.content_of m) ≡ true
  content_of_good Absent g = refl
  content_of_good (Variable at t x) g = refl
  content_of_good (Value at t v) g = has_self (shape_in t) _ g
  content_of_good (Done as') g = g
  content_of_good (Left as') g = g
  content_of_good (Labels ns) g = refl
  content_of_good (Start k) g = refl
  content_of_good (Bodies bs) g = refl
  content_of_good (Level us bs) g = refl
