-- What is known of a meaning: its core has the shapes that it asks for, and the shape of its type.
use Rattle.std.proofs.Common.{ℕ, zero, suc, drop}
use Rattle.std.proofs.Common.{◌≡◌, Bool, true, false, ◌&&◌, if◌then◌else◌, List, [], ◌∷◌, ◌++◌, map, Option, Some, None, refl, sym, ap, subst, ◌∙◌}
use Rattle.elan_types.specs.declared.elan_type.ElanType.{ElanType}
use Rattle.eu_base.specs.declared.value.Kind.{Kind}
use Rattle.eu_base.specs.declared.shape.Shape.{Shape}
use Rattle.eu_base.specs.declared.shape.Shape.TheVariants.{Cell}
use Rattle.eu_base.specs.Shapes.{cell_kinds}
use Rattle.elan_types.specs.declared.core_phrase.PlacePhrase.{PlacePhrase}
use Rattle.elan_types.specs.declared.core_phrase.ValuePhrase.{ValuePhrase}
use Rattle.elan_types.specs.declared.core_phrase.ValuePhrase.TheVariants as value
use Rattle.elan_types.specs.declared.core_phrase.Action.{Action}
use Rattle.elan_types.specs.declared.core_phrase.Action.TheVariants as action
use Rattle.elan_meant.specs.declared.meant.Meant.{Meant}
use Rattle.elan_meant.specs.declared.meant.Meant.TheVariants.{Absent, Variable, Value, Done, Left, Labels, Bodies, Level, Start}
use Rattle.elan_scope.specs.Ruled as ruled
use Rattle.elan_scope.specs.Ruled.{Ruled, hangs}
use Rattle.elan_meant.specs.Verdict.{Verdict, gives, breaks, ◌>>=◌, told, unless}
use Rattle.elan_types.specs.Typing.{Typed, starts, has_shape, agree, only_if, all_true}
use Rattle.elan_types.specs.Types.{shape_in, type_in}
use Rattle.elan_types.proofs.Shapes.{cell_is, same_shape_self}
pub use Rattle.elan_types.proofs.Shapes.{both}
pub use Rattle.elan_types.proofs.Types.{type_shape, same_type_is}
use Rattle.elan_types.proofs.Sized.{is_sized}
use Rattle.elan_meant.specs.Operands.{delivers}
use Rattle.elan_meant.specs.Parts as r
use Rattle.elan_rules.proofs.TypeEquations.{Stand, shape, typed, cells, load_is, unit_is, has_written}

-- ---- shapes

pub has_self : (s : Shape) (a : Typed) → a ≡ Some s → has_shape s a ≡ true
has_self s a e = subst (λ (b : Typed). has_shape s b ≡ true) (sym e) (same_shape_self s)

pub agree_self : (s : Shape) (a b : Typed) → a ≡ Some s → b ≡ Some s → agree a b ≡ true
agree_self s a b e f = subst (λ (c : Typed). agree c b ≡ true) (sym e) (has_self s b f)

pub only_if_holds : (b : Bool) (a : Typed) (s : Shape) → b ≡ true → a ≡ Some s → only_if b a ≡ Some s
only_if_holds b a s e f = subst (λ (c : Bool). only_if c a ≡ Some s) (sym e) f

pub and_true : (a b : Bool) → a ≡ true → b ≡ true → (a && b) ≡ true
and_true a b e f = subst (λ (c : Bool). (c && b) ≡ true) (sym e) f

-- ---- what a rule gives

abbrev pub Gives : {A : Type 0} → (A → Type 0) → Verdict A → Type 0
Gives P (gives x) = P x
Gives P (breaks f) = Unit {0}

pub on_if : {A : Type 0} (P : A → Type 0) (b : Bool) (x y : Verdict A) → (b ≡ true → Gives P x) → (b ≡ false → Gives P y) → Gives P (if b then x else y)
on_if P true x y h k = h refl
on_if P false x y h k = k refl

pub on_bind : {A B : Type 0} (P : A → Type 0) (Q : B → Type 0) (q : Verdict A) (f : A → Verdict B) → Gives P q → ((x : A) → P x → Gives Q (f x))
    → Gives Q (q >>= f)
on_bind P Q (gives x) f h k = k x h
on_bind P Q (breaks d) f h k = tt

-- among phrases that can hang
abbrev pub MayGive : {A : Type 0} → (A → Type 0) → Ruled A → Type 0
MayGive P (ruled.gives x) = P x
MayGive P (ruled.breaks f) = Unit {0}
MayGive P hangs = Unit {0}

pub on_unless : {A : Type 0} (P : A → Type 0) (b : Bool) (r : Ruled A) → MayGive P r → MayGive P (unless b r)
on_unless P true r g = tt
on_unless P false r g = g

pub on_told : {A : Type 0} (P : A → Type 0) (v : Verdict A) → Gives P v → MayGive P (told v)
on_told P (gives x) h = h
on_told P (breaks f) h = tt

pub on_either : {A : Type 0} (P : A → Type 0) (b : Bool) (x y : Ruled A) → MayGive P x → MayGive P y → MayGive P (if b then x else y)
on_either P true x y h k = h
on_either P false x y h k = k

module _ (here : Stand) where
  -- ---- what is known of a meaning

  abbrev pub Has : Shape → ValuePhrase → Type 0
  Has s v = shape here v ≡ Some s

  abbrev pub MayHave : Shape → Option ValuePhrase → Type 0
  MayHave s None = Unit {0}
  MayHave s (Some v) = Has s v

  -- A value of this shape stands at a place.
  abbrev pub Stands : Shape → PlacePhrase → Type 0
  Stands s x = starts (cell_kinds s) (cells here x) ≡ true

  -- The same of a shape of which each part has a cell: so a value stands at the place of each part.
  abbrev pub Lies : Shape → PlacePhrase → Type 0
  Lies s x = Stands s x × (is_sized s ≡ true)

  abbrev pub AllTyped : List Action → Type 0
  AllTyped as' = all_true (map (typed here) as') ≡ true

  abbrev pub Good : Meant → Type 0
  Good Absent = Unit {0}
  Good (Variable at t x) = Lies (shape_in t) x
  Good (Value at t v) = Has (shape_in t) v
  Good (Done as') = AllTyped as'
  Good (Left as') = AllTyped as'
  Good (Labels ns) = Unit {0}
  Good (Start k) = Unit {0}
  Good (Bodies bs) = Unit {0}
  Good (Level us bs) = Unit {0}

  abbrev pub AllGood : List Meant → Type 0
  AllGood [] = Unit {0}
  AllGood (m ∷ ms) = Good m × AllGood ms

  pub nth_good : (ms : List Meant) (n : ℕ) → AllGood ms → Good (r.nth ms n)
  nth_good [] n g = tt
  nth_good (m ∷ ms) zero g = g.0
  nth_good (m ∷ ms) (suc n) g = nth_good ms n g.1

  pub rest_good : (ms : List Meant) → AllGood ms → AllGood (drop 1 ms)
  rest_good [] g = tt
  rest_good (m ∷ ms) g = g.1

  -- each two parts
  abbrev pub PairsGood : List (Meant × Meant) → Type 0
  PairsGood [] = Unit {0}
  PairsGood (p ∷ ps) = (Good p.0 × Good p.1) × PairsGood ps

  abbrev pub MayGood : Option Meant → Type 0
  MayGood None = Unit {0}
  MayGood (Some m) = Good m

  pub pairs_good : (ms : List Meant) → AllGood ms → PairsGood (r.pairs ms) × MayGood (r.odd ms)
  pairs_good [] g = (tt, tt)
  pairs_good (m ∷ []) g = (tt, g.0)
  pairs_good (m ∷ n ∷ ms) g = let h = pairs_good ms g.1.1 in (((g.0, g.1.0), h.0), h.1)

  -- ---- what parts deliver

  -- what stands in a variable
  pub load_typed : (s : Shape) (x : PlacePhrase) → Stands s x → Has s (value.Load x s)
  load_typed s x h = load_is here x s ∙ only_if_holds _ _ s h refl

  -- that of one cell
  pub cell_there : (k : Kind) (x : PlacePhrase) → Stands (Cell k) x → starts (k ∷ []) (cells here x) ≡ true
  cell_there k x h = ap (λ (ks : List Kind). starts ks (cells here x)) (sym (cell_is k)) ∙ h

  pub value_typed : (t : ElanType) (m : Meant) → Good m → delivers t m ≡ true → Has (shape_in t) (r.value_of m)
  value_typed t Absent g e = absurd cc
  value_typed t (Variable at u x) g e =
      subst (λ (w : ElanType). Has (shape_in w) (value.Load x (shape_in u))) (sym (same_type_is t u e)) (load_typed (shape_in u) x g.0)
  value_typed t (Value at u v) g e = subst (λ (w : ElanType). Has (shape_in w) v) (sym (same_type_is t u e)) g
  value_typed t (Done as') g e = absurd cc
  value_typed t (Left as') g e = absurd cc
  value_typed t (Labels ns) g e = absurd cc
  value_typed t (Start k) g e = absurd cc
  value_typed t (Bodies bs) g e = absurd cc
  value_typed t (Level us bs) g e = absurd cc

  -- A variable that is needed is one of this type.
  pub variable_good : (at : ℕ) (t : ElanType) (m : Meant) → Good m → delivers t m ≡ true → Gives (Lies (shape_in t)) (r.variable at m)
  variable_good at t Absent g e = tt
  variable_good at t (Variable p u x) g e = subst (λ (w : ElanType). Lies (shape_in w) x) (sym (same_type_is t u e)) g
  variable_good at t (Value p u v) g e = tt
  variable_good at t (Done as') g e = tt
  variable_good at t (Left as') g e = tt
  variable_good at t (Labels ns) g e = tt
  variable_good at t (Start k) g e = tt
  variable_good at t (Bodies bs) g e = tt
  variable_good at t (Level us bs) g e = tt

  pub may_typed : (t : ElanType) (m : Meant) → Good m → r.may_deliver t m ≡ true → MayHave (shape_in t) (r.written m)
  may_typed t Absent g e = tt
  may_typed t (Variable at u x) g e = value_typed t (Variable at u x) g e
  may_typed t (Value at u v) g e = value_typed t (Value at u v) g e
  may_typed t (Done as') g e = absurd cc
  may_typed t (Left as') g e = absurd cc
  may_typed t (Labels ns) g e = absurd cc
  may_typed t (Start k) g e = absurd cc
  may_typed t (Bodies bs) g e = absurd cc
  may_typed t (Level us bs) g e = absurd cc

  -- the same of what is predefined for cells of a kind

  pub kind_good : (k : Kind) (v : ValuePhrase) → Has (Cell k) v → Has (shape_in (type_in k)) v
  kind_good k v h = subst (λ (s : Shape). Has s v) (sym (type_shape k)) h

  pub kind_value : (k : Kind) (m : Meant) → Good m → delivers (type_in k) m ≡ true → Has (Cell k) (r.value_of m)
  kind_value k m g e = subst (λ (s : Shape). Has s (r.value_of m)) (type_shape k) (value_typed (type_in k) m g e)

  pub kind_variable : (at : ℕ) (k : Kind) (m : Meant) → Good m → delivers (type_in k) m ≡ true → Gives (Lies (Cell k)) (r.variable at m)
  kind_variable at k m g e = subst (λ (s : Shape). Gives (Lies s) (r.variable at m)) (type_shape k) (variable_good at (type_in k) m g e)

  pub kind_may : (k : Kind) (m : Meant) → Good m → r.may_deliver (type_in k) m ≡ true → MayHave (Cell k) (r.written m)
  kind_may k m g e = subst (λ (s : Shape). MayHave s (r.written m)) (type_shape k) (may_typed (type_in k) m g e)

  pub actions_typed : (m : Meant) → Good m → AllTyped (r.actions m)
  actions_typed Absent g = refl
  actions_typed (Variable at t x) g = refl
  actions_typed (Value at t v) g = refl
  actions_typed (Done as') g = g
  actions_typed (Left as') g = g
  actions_typed (Labels ns) g = refl
  actions_typed (Start k) g = refl
  actions_typed (Bodies bs) g = refl
  actions_typed (Level us bs) g = refl

  -- ---- lists of actions

  pub append_typed : (as' bs : List Action) → AllTyped as' → AllTyped bs → AllTyped (as' ++ bs)
  append_typed [] bs h k = k
  append_typed (a ∷ as') bs h k = let b = both _ _ h in and_true _ _ b.0 (append_typed as' bs b.1 k)

  pub single_typed : (a : Action) → typed here a ≡ true → AllTyped (a ∷ [])
  single_typed a h = and_true _ _ h refl

  pub actions_of_typed : (ms : List Meant) → AllGood ms → AllTyped (r.actions_of ms)
  actions_of_typed [] g = refl
  actions_of_typed (m ∷ ms) g = append_typed (r.actions m) (r.actions_of ms) (actions_typed m g.0) (actions_of_typed ms g.1)

  pub unit_typed : (as' : List Action) → AllTyped as' → AllTyped (action.Unit as' ∷ [])
  unit_typed as' h = single_typed (action.Unit as') (unit_is here as' ∙ h)

  pub written_typed : (k : Kind) (o : Option ValuePhrase) → MayHave (Cell k) o → has_written here k o ≡ true
  written_typed k None h = refl
  written_typed k (Some v) h = has_self (Cell k) _ h
