-- Types that are told to be the same, and kinds of their cells.
use Rattle.std.proofs.Common.{◌≡◌, ℕ, ◌+◌, ◌*◌, Bool, true, false, ◌&&◌, List, [], ◌∷◌, map, length, sum, Some, refl, sym, ap, ◌∙◌, eq-eqb, eqb-true}
use Rattle.std.proofs.lemmas.List.{length-append, length-map}
use Rattle.std.proofs.lemmas.Slice.Eq.{bytes_eq-Decides}
use Rattle.std.proofs.lemmas.List.Sums.{sum_by-cons}
use Rattle.eu_base.specs.declared.value.Kind.{Kind}
use Rattle.eu_base.specs.declared.value.Kind.TheVariants as kinds
use Rattle.elan_types.specs.declared.elan_type.ElanType.{ElanType, out-ElanType, roll-ElanType}
use Rattle.elan_types.specs.declared.elan_type.ElanType.TheVariants as types
use Rattle.elan_types.specs.declared.elan_type.ElanType.TheOpen.{ElanType-F, FieldType-F, Int, Bool as Truths, Text, Task, Dataspace, Row, Struct, Own, Open}
use Rattle.elan_types.specs.declared.elan_type.ElanType.TheViews.{out-roll-ElanType, roll-out-ElanType}
use Rattle.elan_types.specs.declared.elan_type.ElanType.TheFolds.{ind-ElanType, map-ElanType, map-FieldType, fold-roll-ElanType, fold-roll-FieldType}
use Rattle.elan_types.specs.declared.elan_type.FieldType.{FieldType, roll-FieldType}
use Rattle.elan_types.specs.declared.elan_type.Parameter.{Parameter}
use Rattle.elan_types.specs.declared.core_phrase.Access.{Access}
use Rattle.elan_types.specs.declared.core_phrase.Access.TheVariants.{Const}
use Rattle.eu_base.specs.declared.shape.Shape.{Shape}
use Rattle.eu_base.specs.declared.shape.Shape.TheVariants as shape
use Rattle.elan_types.specs.Typing.{OfKind, held_as, cells_of}
use Rattle.elan_types.specs.Types.{same_here, same_field_step, same_type, same_field, are_same, open_here, is_open, concrete_here, concrete, shape_step}
use Rattle.elan_types.specs.Types.{shape_in, field_shape}
use Rattle.elan_types.specs.Types.{type_in, cells_step, cells, cells_of_field, formal_of}
use Rattle.eu_base.specs.Shapes.{cell_kinds, joined}
use Rattle.elan_types.proofs.Shapes.{both, cell_is, row_kinds, struct_kinds, joined_row}

pub type_shape : (k : Kind) → shape_in (type_in k) ≡ shape.Cell k
type_shape kinds.Int = ap shape_in (sym types.rolls-Int) ∙ fold-roll-ElanType _ _ _ _ Int
type_shape kinds.Truth = ap shape_in (sym types.rolls-Bool) ∙ fold-roll-ElanType _ _ _ _ Truths
type_shape kinds.Text = ap shape_in (sym types.rolls-Text) ∙ fold-roll-ElanType _ _ _ _ Text
type_shape kinds.Task = ap shape_in (sym types.rolls-Task) ∙ fold-roll-ElanType _ _ _ _ Task
type_shape kinds.Space = ap shape_in (sym types.rolls-Dataspace) ∙ fold-roll-ElanType _ _ _ _ Dataspace

pub open_shape : shape_in types.Open ≡ shape.Cell kinds.Int
open_shape = ap shape_in (sym types.rolls-Open) ∙ fold-roll-ElanType _ _ _ _ Open

pub int_closed : is_open types.Int ≡ false
int_closed = ap is_open (sym types.rolls-Int) ∙ ap open_here (out-roll-ElanType Int)

pub bool_closed : is_open types.Bool ≡ false
bool_closed = ap is_open (sym types.rolls-Bool) ∙ ap open_here (out-roll-ElanType Truths)

pub text_closed : is_open types.Text ≡ false
text_closed = ap is_open (sym types.rolls-Text) ∙ ap open_here (out-roll-ElanType Text)

pub task_closed : is_open types.Task ≡ false
task_closed = ap is_open (sym types.rolls-Task) ∙ ap open_here (out-roll-ElanType Task)

pub dataspace_closed : is_open types.Dataspace ≡ false
dataspace_closed = ap is_open (sym types.rolls-Dataspace) ∙ ap open_here (out-roll-ElanType Dataspace)

pub type_closed : (k : Kind) → is_open (type_in k) ≡ false
type_closed kinds.Int = int_closed
type_closed kinds.Truth = bool_closed
type_closed kinds.Text = text_closed
type_closed kinds.Task = task_closed
type_closed kinds.Space = dataspace_closed

pub open_open : is_open types.Open ≡ true
open_open = ap is_open (sym types.rolls-Open) ∙ ap open_here (out-roll-ElanType Open)

pub open_is : (t : ElanType) → is_open t ≡ true → t ≡ types.Open
open_is t e = sym (roll-out-ElanType t) ∙ ap roll-ElanType (by_layer (out-ElanType t) e) ∙ types.rolls-Open
  where
    by_layer : (y : ElanType-F ElanType FieldType) → open_here y ≡ true → y ≡ Open
    by_layer Open h = refl
    by_layer _ h = absurd cc

pub own_not_open : (n : ℕ) (t : ElanType) → types.Own n t ≡ types.Open → ⊥
own_not_open n t e =
    differs (sym (ap is_open (sym (types.rolls-Own n t)) ∙ ap open_here (out-roll-ElanType (Own n t))) ∙ ap is_open e ∙ open_open)
  where
    differs : false ≡ true → ⊥
    differs h = absurd cc

-- What stands behind one of the text's own has the same shape.
pub concrete_shape : (t u : ElanType) → concrete t ≡ Some u → shape_in t ≡ shape_in u
concrete_shape t u e = ap shape_in (sym (roll-out-ElanType t)) ∙ fold-roll-ElanType _ _ _ _ (out-ElanType t) ∙ by_layer (out-ElanType t) e
  where
    by_layer : (y : ElanType-F ElanType FieldType) → concrete_here y ≡ Some u → shape_step (map-ElanType _ _ _ _ shape_in field_shape y) ≡ shape_in u
    by_layer (Own n v) h = let k : v ≡ u = cc in ap shape_in k
    by_layer _ h = absurd cc

-- ---- a type is the same as itself

abbrev Selves : ElanType → Type 0
Selves t = same_type t t ≡ true

abbrev FieldSelves : FieldType → Type 0
FieldSelves f = same_field f f ≡ true

abbrev Self : Type 0
Self = (t : ElanType) × Selves t

abbrev FieldSelf : Type 0
FieldSelf = (f : FieldType) × FieldSelves f

fields_self : (fs : List FieldSelf) → are_same (map same_field (map (λ e. e.0) fs)) (map (λ e. e.0) fs) ≡ true
fields_self [] = refl
fields_self (f ∷ fs) = ap (λ (b : Bool). b && are_same (map same_field (map (λ e. e.0) fs)) (map (λ e. e.0) fs)) f.1 ∙ fields_self fs

self_here : (y : ElanType-F Self FieldSelf)
    → same_here (map-ElanType _ _ _ _ same_type same_field (map-ElanType _ _ _ _ (λ e. e.0) (λ e. e.0) y)) (map-ElanType _ _ _ _ (λ e. e.0) (λ e. e.0) y)
    ≡ true
self_here Int = refl
self_here Truths = refl
self_here Text = refl
self_here Task = refl
self_here Dataspace = refl
self_here (Row n of) = ap (λ (b : Bool). b && same_type of.0 of.0) (eq-eqb n n refl) ∙ of.1
self_here (Struct fs) = fields_self fs
self_here (Own n of) = ap (λ (b : Bool). b && same_type of.0 of.0) (eq-eqb n n refl) ∙ of.1
self_here Open = refl

field_self_here : (y : FieldType-F Self FieldSelf)
    → same_field_step (map-FieldType _ _ _ _ same_type same_field (map-FieldType _ _ _ _ (λ e. e.0) (λ e. e.0) y))
    (roll-FieldType (map-FieldType _ _ _ _ (λ e. e.0) (λ e. e.0) y))
    ≡ true
field_self_here y = ap (λ (b : Bool). b && same_type y.of.0 y.of.0) ((bytes_eq-Decides y.name y.name).1 refl) ∙ y.of.1

pub same_type_self : (t : ElanType) → same_type t t ≡ true
same_type_self =
    ind-ElanType Selves FieldSelves (λ x y is. rw (fold-roll-ElanType, out-roll-ElanType, ← is) (self_here y))
    (λ x y is. rw (fold-roll-FieldType, ← is) (field_self_here y))

-- ---- types that are the same are equal

abbrev IsAll : ElanType → Type 0
IsAll t = (u : ElanType) → same_type t u ≡ true → t ≡ u

abbrev FieldIsAll : FieldType → Type 0
FieldIsAll f = (g : FieldType) → same_field f g ≡ true → f ≡ g

abbrev All : Type 0
All = (t : ElanType) × IsAll t

abbrev FieldAll : Type 0
FieldAll = (f : FieldType) × FieldIsAll f

fields_are : (fs : List FieldAll) (gs : List FieldType) → are_same (map same_field (map (λ e. e.0) fs)) gs ≡ true → map (λ e. e.0) fs ≡ gs
fields_are [] [] e = refl
fields_are [] (g ∷ gs) e = absurd cc
fields_are (f ∷ fs) [] e = absurd cc
fields_are (f ∷ fs) (g ∷ gs) e =
    let b = both _ _ e in
    ap (λ (h : FieldType). h ∷ map (λ e. e.0) fs) (f.1 g b.0) ∙ ap (λ (hs : List FieldType). g ∷ hs) (fields_are fs gs b.1)

is_here : (y : ElanType-F All FieldAll) (z : ElanType-F ElanType FieldType)
    → same_here (map-ElanType _ _ _ _ same_type same_field (map-ElanType _ _ _ _ (λ e. e.0) (λ e. e.0) y)) z ≡ true
    → map-ElanType _ _ _ _ (λ e. e.0) (λ e. e.0) y ≡ z
is_here Int Int e = refl
is_here Truths Truths e = refl
is_here Text Text e = refl
is_here Task Task e = refl
is_here Dataspace Dataspace e = refl
is_here (Row n of) (Row m t) e =
    let b = both _ _ e in ap (λ (i : ℕ). Row i of.0) (eqb-true n m b.0) ∙ ap (λ (u : ElanType). Row m u) (of.1 t b.1)
is_here (Struct fs) (Struct gs) e = ap (λ (hs : List FieldType). Struct hs) (fields_are fs gs e)
is_here (Own n of) (Own m t) e =
    let b = both _ _ e in ap (λ (i : ℕ). Own i of.0) (eqb-true n m b.0) ∙ ap (λ (u : ElanType). Own m u) (of.1 t b.1)
is_here Open Open e = refl
is_here _ _ e = absurd cc

field_is_here : (y : FieldType-F All FieldAll) (g : FieldType)
    → same_field_step (map-FieldType _ _ _ _ same_type same_field (map-FieldType _ _ _ _ (λ e. e.0) (λ e. e.0) y)) g ≡ true
    → roll-FieldType (map-FieldType _ _ _ _ (λ e. e.0) (λ e. e.0) y) ≡ g
field_is_here y g e =
    let b = both _ _ e in
    let n = (bytes_eq-Decides y.name g.name).0 b.0 in
    let o = y.of.1 g.of b.1 in
    ap (λ (x : List ℕ). field_of x y.of.0) n ∙ ap (field_of g.name) o
  where
    field_of : List ℕ → ElanType → FieldType
    field_of name of = record { name = name; of = of }

pub same_type_is : (t u : ElanType) → same_type t u ≡ true → t ≡ u
same_type_is =
    ind-ElanType IsAll FieldIsAll
    (λ x y is. rw (← is) (λ u e. ap roll-ElanType (is_here y (out-ElanType u) (rw fold-roll-ElanType at e)) ∙ roll-out-ElanType u))
    (λ x y is. rw (← is) (λ g e. field_is_here y g (sym (by_layer y g) ∙ e)))
  where
    by_layer : (y : FieldType-F All FieldAll) (g : FieldType)
        → same_field (roll-FieldType (map-FieldType _ _ _ _ (λ e. e.0) (λ e. e.0) y)) g
        ≡ same_field_step (map-FieldType _ _ _ _ same_type same_field (map-FieldType _ _ _ _ (λ e. e.0) (λ e. e.0) y)) g
    by_layer y g = ap (λ (f : FieldType → Bool). f g) (fold-roll-FieldType _ _ _ _ (map-FieldType _ _ _ _ (λ e. e.0) (λ e. e.0) y))

-- ---- a type has as many cells as its shape

abbrev Counted : ElanType → Type 0
Counted t = length (cell_kinds (shape_in t)) ≡ cells t

abbrev FieldCounted : FieldType → Type 0
FieldCounted f = length (cell_kinds (field_shape f)) ≡ cells_of_field f

abbrev Count : Type 0
Count = (t : ElanType) × Counted t

abbrev FieldCount : Type 0
FieldCount = (f : FieldType) × FieldCounted f

fields_counted : (fs : List FieldCount)
    → length (joined (map cell_kinds (map field_shape (map (λ e. e.0) fs)))) ≡ sum (map cells_of_field (map (λ e. e.0) fs))
fields_counted [] = refl
fields_counted (f ∷ fs) =
    let rest = map (λ e. e.0) fs in
    length-append (cell_kinds (field_shape f.0)) (joined (map cell_kinds (map field_shape rest)))
    ∙ ap (λ (m : ℕ). length (cell_kinds (field_shape f.0)) + m) (fields_counted fs) ∙ ap (λ (m : ℕ). m + sum (map cells_of_field rest)) f.1
    ∙ sym (sum_by-cons (λ n. n) (cells_of_field f.0) (map cells_of_field rest))

counted_here : (y : ElanType-F Count FieldCount)
    → length (cell_kinds (shape_step (map-ElanType _ _ _ _ shape_in field_shape (map-ElanType _ _ _ _ (λ e. e.0) (λ e. e.0) y))))
    ≡ cells_step (map-ElanType _ _ _ _ cells cells_of_field (map-ElanType _ _ _ _ (λ e. e.0) (λ e. e.0) y))
counted_here Int = ap length (cell_is kinds.Int)
counted_here Truths = ap length (cell_is kinds.Truth)
counted_here Text = ap length (cell_is kinds.Text)
counted_here Task = ap length (cell_is kinds.Task)
counted_here Dataspace = ap length (cell_is kinds.Space)
counted_here (Row n of) =
    ap length (row_kinds n (shape_in of.0)) ∙ joined_row n (cell_kinds (shape_in of.0)) ∙ ap (λ (m : ℕ). n * m) of.1
counted_here (Struct fs) = ap length (struct_kinds (map field_shape (map (λ e. e.0) fs))) ∙ fields_counted fs
counted_here (Own n of) = of.1
counted_here Open = ap length (cell_is kinds.Int)

pub cells_kinds : (t : ElanType) → length (cell_kinds (shape_in t)) ≡ cells t
cells_kinds =
    ind-ElanType Counted FieldCounted (λ x y is. rw (← is) (type_counted y)) (λ x y is. rw (← is) (field_counted y))
  where
    type_counted : (y : ElanType-F Count FieldCount) → Counted (roll-ElanType (map-ElanType _ _ _ _ (λ e. e.0) (λ e. e.0) y))
    type_counted y =
        ap (λ (s : Shape). length (cell_kinds s)) (fold-roll-ElanType Shape Shape _ _ (map-ElanType _ _ _ _ (λ e. e.0) (λ e. e.0) y)) ∙ counted_here y
        ∙ sym (fold-roll-ElanType ℕ ℕ _ _ (map-ElanType _ _ _ _ (λ e. e.0) (λ e. e.0) y))

    field_counted : (y : FieldType-F Count FieldCount) → FieldCounted (roll-FieldType (map-FieldType _ _ _ _ (λ e. e.0) (λ e. e.0) y))
    field_counted y =
        ap (λ (s : Shape). length (cell_kinds s)) (fold-roll-FieldType Shape Shape _ _ (map-FieldType _ _ _ _ (λ e. e.0) (λ e. e.0) y)) ∙ y.of.1
        ∙ sym (fold-roll-FieldType ℕ ℕ _ _ (map-FieldType _ _ _ _ (λ e. e.0) (λ e. e.0) y))

-- the cells of what a parameter takes by its value
pub const_cells : (p : Parameter) → p.access ≡ Const → length (cells_of (formal_of p)) ≡ cells p.of
const_cells p e =
    ap (λ (a : Access). length (held_as a (cell_kinds (shape_in p.of)))) e ∙ length-map (cell_kinds (shape_in p.of)) OfKind ∙ cells_kinds p.of
