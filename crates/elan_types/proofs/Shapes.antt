-- The shape of one cell, and shapes that are told to be the same.
use Rattle.std.proofs.Common.{◌≡◌, ℕ, zero, suc, ◌+◌, ◌*◌, Bool, true, false, ◌&&◌, List, [], ◌∷◌, map, length, replicate, refl, sym, ap, ◌∙◌, eq-eqb, eqb-true}
use Rattle.std.proofs.Common.{arith}
use Rattle.std.proofs.lemmas.List.{length-append}
use Rattle.eu_base.specs.declared.value.Kind.{Kind}
use Rattle.eu_base.specs.declared.value.Kind.TheVariants as kinds
use Rattle.eu_base.specs.declared.shape.Shape.{Shape, out-Shape, roll-Shape}
use Rattle.eu_base.specs.declared.shape.Shape.TheVariants as shape
use Rattle.eu_base.specs.declared.shape.Shape.TheOpen.{Shape-F, Cell, Row, Struct}
use Rattle.eu_base.specs.declared.shape.Shape.TheViews.{out-roll-Shape, roll-out-Shape}
use Rattle.eu_base.specs.declared.shape.Shape.TheFolds.{ind-Shape, map-Shape, fold-roll-Shape}
use Rattle.eu_base.specs.Values.{same_kind}
use Rattle.eu_base.specs.Shapes.{cell_kinds, joined, is_cell, is_row, are_parts, is_struct, same_step, same_shape}

pub cell_is : (k : Kind) → cell_kinds (shape.Cell k) ≡ k ∷ []
cell_is k = ap cell_kinds (sym (shape.rolls-Cell k)) ∙ fold-roll-Shape _ _ (Cell k)

pub row_kinds : (n : ℕ) (s : Shape) → cell_kinds (shape.Row n s) ≡ joined (replicate n (cell_kinds s))
row_kinds n s = ap cell_kinds (sym (shape.rolls-Row n s)) ∙ fold-roll-Shape _ _ (Row n s)

pub struct_kinds : (ss : List Shape) → cell_kinds (shape.Struct ss) ≡ joined (map cell_kinds ss)
struct_kinds ss = ap cell_kinds (sym (shape.rolls-Struct ss)) ∙ fold-roll-Shape _ _ (Struct ss)

pub joined_row : (n : ℕ) (ks : List Kind) → length (joined (replicate n ks)) ≡ n * length ks
joined_row zero ks = omega arith
joined_row (suc n) ks =
    let e = joined_row n ks in
    length-append ks (joined (replicate n ks)) ∙ (ap (λ m. length ks + m) e ∙ omega arith)

pub both : (a b : Bool) → (a && b) ≡ true → (a ≡ true) × (b ≡ true)
both true b e = (refl, e)
both false b e = absurd cc

-- ---- kinds

pub kind_is : (k j : Kind) → same_kind k j ≡ true → k ≡ j
kind_is kinds.Int kinds.Int e = refl
kind_is kinds.Int kinds.Truth e = absurd cc
kind_is kinds.Int kinds.Text e = absurd cc
kind_is kinds.Int kinds.Task e = absurd cc
kind_is kinds.Int kinds.Space e = absurd cc
kind_is kinds.Truth kinds.Int e = absurd cc
kind_is kinds.Truth kinds.Truth e = refl
kind_is kinds.Truth kinds.Text e = absurd cc
kind_is kinds.Truth kinds.Task e = absurd cc
kind_is kinds.Truth kinds.Space e = absurd cc
kind_is kinds.Text kinds.Int e = absurd cc
kind_is kinds.Text kinds.Truth e = absurd cc
kind_is kinds.Text kinds.Text e = refl
kind_is kinds.Text kinds.Task e = absurd cc
kind_is kinds.Text kinds.Space e = absurd cc
kind_is kinds.Task kinds.Int e = absurd cc
kind_is kinds.Task kinds.Truth e = absurd cc
kind_is kinds.Task kinds.Text e = absurd cc
kind_is kinds.Task kinds.Task e = refl
kind_is kinds.Task kinds.Space e = absurd cc
kind_is kinds.Space kinds.Int e = absurd cc
kind_is kinds.Space kinds.Truth e = absurd cc
kind_is kinds.Space kinds.Text e = absurd cc
kind_is kinds.Space kinds.Task e = absurd cc
kind_is kinds.Space kinds.Space e = refl

pub same_kind_self : (k : Kind) → same_kind k k ≡ true
same_kind_self kinds.Int = refl
same_kind_self kinds.Truth = refl
same_kind_self kinds.Text = refl
same_kind_self kinds.Task = refl
same_kind_self kinds.Space = refl

-- ---- a shape is the same as itself

abbrev Selves : Shape → Type 0
Selves s = same_shape s s ≡ true

parts_self : (ps : List ((s : Shape) × Selves s)) → are_parts (map same_shape (map (λ e. e.0) ps)) (map (λ e. e.0) ps) ≡ true
parts_self [] = refl
parts_self (p ∷ ps) = ap (λ (b : Bool). b && are_parts (map same_shape (map (λ e. e.0) ps)) (map (λ e. e.0) ps)) p.1 ∙ parts_self ps

self_here : (y : Shape-F ((s : Shape) × Selves s))
    → same_step (map-Shape _ _ same_shape (map-Shape _ _ (λ e. e.0) y)) (roll-Shape (map-Shape _ _ (λ e. e.0) y)) ≡ true
self_here (Cell k) = ap (is_cell k) (out-roll-Shape (Cell k)) ∙ same_kind_self k
self_here (Row n of) =
    ap (is_row n (same_shape of.0)) (out-roll-Shape (Row n of.0)) ∙ ap (λ (b : Bool). b && same_shape of.0 of.0) (eq-eqb n n refl) ∙ of.1
self_here (Struct ps) = ap (is_struct (map same_shape (map (λ e. e.0) ps))) (out-roll-Shape (Struct (map (λ e. e.0) ps))) ∙ parts_self ps

pub same_shape_self : (s : Shape) → same_shape s s ≡ true
same_shape_self = ind-Shape Selves (λ x y is. rw (fold-roll-Shape, ← is) (self_here y))

-- ---- shapes that are the same are equal

abbrev IsAll : Shape → Type 0
IsAll s = (r : Shape) → same_shape s r ≡ true → s ≡ r

parts_are : (ps : List ((s : Shape) × IsAll s)) (rs : List Shape) → are_parts (map same_shape (map (λ e. e.0) ps)) rs ≡ true → map (λ e. e.0) ps ≡ rs
parts_are [] [] e = refl
parts_are [] (r ∷ rs) e = absurd cc
parts_are (p ∷ ps) [] e = absurd cc
parts_are (p ∷ ps) (r ∷ rs) e =
    let b = both _ _ e in
    ap (λ (s : Shape). s ∷ map (λ e. e.0) ps) (p.1 r b.0) ∙ ap (λ (ss : List Shape). r ∷ ss) (parts_are ps rs b.1)

cell_here : (k : Kind) (y : Shape-F Shape) → is_cell k y ≡ true → Cell k ≡ y
cell_here k (Cell j) e = ap (λ (i : Kind). Cell i) (kind_is k j e)
cell_here k (Row n of) e = absurd cc
cell_here k (Struct ss) e = absurd cc

row_here : (n : ℕ) (of : (s : Shape) × IsAll s) (y : Shape-F Shape) → is_row n (same_shape of.0) y ≡ true → Row n of.0 ≡ y
row_here n of (Cell j) e = absurd cc
row_here n of (Row m s) e =
    let b = both _ _ e in ap (λ (i : ℕ). Row i of.0) (eqb-true n m b.0) ∙ ap (λ (r : Shape). Row m r) (of.1 s b.1)
row_here n of (Struct ss) e = absurd cc

struct_here : (ps : List ((s : Shape) × IsAll s)) (y : Shape-F Shape) → is_struct (map same_shape (map (λ e. e.0) ps)) y ≡ true → Struct (map (λ e. e.0) ps) ≡ y
struct_here ps (Cell j) e = absurd cc
struct_here ps (Row n of) e = absurd cc
struct_here ps (Struct ss) e = ap (λ (rs : List Shape). Struct rs) (parts_are ps ss e)

is_here : (y : Shape-F ((s : Shape) × IsAll s)) (r : Shape) → same_step (map-Shape _ _ same_shape (map-Shape _ _ (λ e. e.0) y)) r ≡ true
    → map-Shape _ _ (λ e. e.0) y ≡ out-Shape r
is_here (Cell k) r e = cell_here k (out-Shape r) e
is_here (Row n of) r e = row_here n of (out-Shape r) e
is_here (Struct ps) r e = struct_here ps (out-Shape r) e

pub same_shape_is : (s r : Shape) → same_shape s r ≡ true → s ≡ r
same_shape_is =
    ind-Shape IsAll (λ x y is. rw (← is) (λ r e. ap roll-Shape (is_here y r (rw fold-roll-Shape at e)) ∙ roll-out-Shape r))
