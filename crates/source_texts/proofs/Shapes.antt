-- The shape of source texts.
use Rattle.std.proofs.Common.{◌≡◌, ℕ, zero, suc, Bool, true, false, ◌&&◌, List, [], ◌∷◌, ◌++◌, map, replicate, refl, sym, ap, ◌∙◌, eqb-true, append-nil}
use Rattle.eu_base.specs.declared.value.Kind.{Kind}
use Rattle.eu_base.specs.declared.value.Kind.TheVariants as kinds
use Rattle.eu_base.specs.declared.shape.Shape.{Shape}
use Rattle.eu_base.specs.declared.shape.Shape.TheVariants as shape
use Rattle.eu_base.specs.declared.shape.Shape.TheOpen.{Shape-F, Cell, Row, Struct}
use Rattle.eu_base.specs.declared.shape.Shape.TheViews.{out-Shape, roll-Shape, out-roll-Shape, roll-out-Shape}
use Rattle.eu_base.specs.declared.shape.Shape.TheFolds.{fold-roll-Shape}
use Rattle.eu_base.specs.Shapes.{cell_kinds, joined, is_cell, is_row, are_parts, is_struct, same_shape}
use Rattle.units.specs.Sources.{most_lines, source_shape}

-- the layers of the three kinds of shape
out_cell : (k : Kind) → out-Shape (shape.Cell k) ≡ Cell k
out_cell k = ap out-Shape (sym (shape.rolls-Cell k)) ∙ out-roll-Shape (Cell k)

out_row : (n : ℕ) (s : Shape) → out-Shape (shape.Row n s) ≡ Row n s
out_row n s = ap out-Shape (sym (shape.rolls-Row n s)) ∙ out-roll-Shape (Row n s)

out_struct : (ss : List Shape) → out-Shape (shape.Struct ss) ≡ Struct ss
out_struct ss = ap out-Shape (sym (shape.rolls-Struct ss)) ∙ out-roll-Shape (Struct ss)

-- to what a shape is told to be the same
same_cell : (k : Kind) (s : Shape) → same_shape (shape.Cell k) s ≡ is_cell k (out-Shape s)
same_cell k s = ap (λ (r : Shape). same_shape r s) (sym (shape.rolls-Cell k)) ∙ ap (λ (f : Shape → Bool). f s) (fold-roll-Shape _ _ (Cell k))

same_row : (n : ℕ) (of s : Shape) → same_shape (shape.Row n of) s ≡ is_row n (same_shape of) (out-Shape s)
same_row n of s = ap (λ (r : Shape). same_shape r s) (sym (shape.rolls-Row n of)) ∙ ap (λ (f : Shape → Bool). f s) (fold-roll-Shape _ _ (Row n of))

same_struct : (ss : List Shape) (s : Shape) → same_shape (shape.Struct ss) s ≡ is_struct (map same_shape ss) (out-Shape s)
same_struct ss s = ap (λ (r : Shape). same_shape r s) (sym (shape.rolls-Struct ss)) ∙ ap (λ (f : Shape → Bool). f s) (fold-roll-Shape _ _ (Struct ss))

-- the parts of a source text
abbrev number_shape : Shape
number_shape = shape.Cell kinds.Int

abbrev lines_shape : Shape
lines_shape = shape.Row most_lines (shape.Cell kinds.Text)

-- it is told to be the same as itself
number_self : same_shape number_shape number_shape ≡ true
number_self = same_cell kinds.Int number_shape ∙ ap (is_cell kinds.Int) (out_cell kinds.Int)

text_self : same_shape (shape.Cell kinds.Text) (shape.Cell kinds.Text) ≡ true
text_self = same_cell kinds.Text (shape.Cell kinds.Text) ∙ ap (is_cell kinds.Text) (out_cell kinds.Text)

lines_self : same_shape lines_shape lines_shape ≡ true
lines_self =
    same_row most_lines (shape.Cell kinds.Text) lines_shape ∙ ap (is_row most_lines (same_shape (shape.Cell kinds.Text))) (out_row most_lines (shape.Cell kinds.Text))
    ∙ text_self

pub source_self : same_shape source_shape source_shape ≡ true
source_self =
    same_struct (number_shape ∷ lines_shape ∷ []) source_shape
    ∙ ap (is_struct (map same_shape (number_shape ∷ lines_shape ∷ []))) (out_struct (number_shape ∷ lines_shape ∷ []))
    ∙ ap (λ (b : Bool). b && (same_shape lines_shape lines_shape && true)) number_self ∙ ap (λ (b : Bool). b && true) lines_self

-- a shape that is told to be the same is the same
both : (a b : Bool) → (a && b) ≡ true → (a ≡ true) × (b ≡ true)
both true b e = (refl, e)
both false b e = absurd cc

cell_is : (k : Kind) (y : Shape-F Shape) → is_cell k y ≡ true → Cell k ≡ y
cell_is kinds.Int (Cell kinds.Int) e = refl
cell_is kinds.Int (Cell kinds.Truth) e = absurd cc
cell_is kinds.Int (Cell kinds.Text) e = absurd cc
cell_is kinds.Int (Cell kinds.Task) e = absurd cc
cell_is kinds.Int (Cell kinds.Space) e = absurd cc
cell_is kinds.Truth (Cell kinds.Int) e = absurd cc
cell_is kinds.Truth (Cell kinds.Truth) e = refl
cell_is kinds.Truth (Cell kinds.Text) e = absurd cc
cell_is kinds.Truth (Cell kinds.Task) e = absurd cc
cell_is kinds.Truth (Cell kinds.Space) e = absurd cc
cell_is kinds.Text (Cell kinds.Int) e = absurd cc
cell_is kinds.Text (Cell kinds.Truth) e = absurd cc
cell_is kinds.Text (Cell kinds.Text) e = refl
cell_is kinds.Text (Cell kinds.Task) e = absurd cc
cell_is kinds.Text (Cell kinds.Space) e = absurd cc
cell_is kinds.Task (Cell kinds.Int) e = absurd cc
cell_is kinds.Task (Cell kinds.Truth) e = absurd cc
cell_is kinds.Task (Cell kinds.Text) e = absurd cc
cell_is kinds.Task (Cell kinds.Task) e = refl
cell_is kinds.Task (Cell kinds.Space) e = absurd cc
cell_is kinds.Space (Cell kinds.Int) e = absurd cc
cell_is kinds.Space (Cell kinds.Truth) e = absurd cc
cell_is kinds.Space (Cell kinds.Text) e = absurd cc
cell_is kinds.Space (Cell kinds.Task) e = absurd cc
cell_is kinds.Space (Cell kinds.Space) e = refl
cell_is k (Row n of) e = absurd cc
cell_is k (Struct ss) e = absurd cc

rolled : (y : Shape-F Shape) (s : Shape) → y ≡ out-Shape s → roll-Shape y ≡ s
rolled y s e = ap roll-Shape e ∙ roll-out-Shape s

same_cell_is : (k : Kind) (s : Shape) → same_shape (shape.Cell k) s ≡ true → shape.Cell k ≡ s
same_cell_is k s e = sym (shape.rolls-Cell k) ∙ rolled (Cell k) s (cell_is k (out-Shape s) (sym (same_cell k s) ∙ e))

row_is : (n : ℕ) (k : Kind) (y : Shape-F Shape) → is_row n (same_shape (shape.Cell k)) y ≡ true → Row n (shape.Cell k) ≡ y
row_is n k (Cell j) e = absurd cc
row_is n k (Row m s) e =
    let b = both _ _ e in
    ap (λ (i : ℕ). Row i (shape.Cell k)) (eqb-true n m b.0) ∙ ap (λ (r : Shape). Row m r) (same_cell_is k s b.1)
row_is n k (Struct ss) e = absurd cc

same_row_is : (n : ℕ) (k : Kind) (s : Shape) → same_shape (shape.Row n (shape.Cell k)) s ≡ true → shape.Row n (shape.Cell k) ≡ s
same_row_is n k s e =
    sym (shape.rolls-Row n (shape.Cell k))
    ∙ rolled (Row n (shape.Cell k)) s (row_is n k (out-Shape s) (sym (same_row n (shape.Cell k) s) ∙ e))

parts_are : (ss : List Shape) → are_parts (same_shape number_shape ∷ same_shape lines_shape ∷ []) ss ≡ true → number_shape ∷ lines_shape ∷ [] ≡ ss
parts_are [] e = absurd cc
parts_are (s ∷ []) e = let b = both (same_shape number_shape s) false e in absurd cc
parts_are (s ∷ r ∷ []) e =
    let b = both (same_shape number_shape s) (same_shape lines_shape r && true) e in
    let d = both (same_shape lines_shape r) true b.1 in
    ap (λ (x : Shape). x ∷ lines_shape ∷ []) (same_cell_is kinds.Int s b.0) ∙ ap (λ (x : Shape). s ∷ x ∷ []) (same_row_is most_lines kinds.Text r d.0)
parts_are (s ∷ r ∷ q ∷ ss) e =
    let b = both (same_shape number_shape s) (same_shape lines_shape r && false) e in
    let d = both (same_shape lines_shape r) false b.1 in absurd cc

source_layer : (y : Shape-F Shape) → is_struct (same_shape number_shape ∷ same_shape lines_shape ∷ []) y ≡ true → Struct (number_shape ∷ lines_shape ∷ []) ≡ y
source_layer (Cell k) e = absurd cc
source_layer (Row n of) e = absurd cc
source_layer (Struct ss) e = ap (λ (l : List Shape). Struct l) (parts_are ss e)

pub source_is : (s : Shape) → same_shape source_shape s ≡ true → source_shape ≡ s
source_is s e =
    sym (shape.rolls-Struct (number_shape ∷ lines_shape ∷ []))
    ∙ rolled (Struct (number_shape ∷ lines_shape ∷ [])) s (source_layer (out-Shape s) (sym (same_struct (number_shape ∷ lines_shape ∷ []) s) ∙ e))

-- the kinds of its cells
kinds_cell : (k : Kind) → cell_kinds (shape.Cell k) ≡ k ∷ []
kinds_cell k = ap cell_kinds (sym (shape.rolls-Cell k)) ∙ fold-roll-Shape _ _ (Cell k)

kinds_row : (n : ℕ) (s : Shape) → cell_kinds (shape.Row n s) ≡ joined (replicate n (cell_kinds s))
kinds_row n s = ap cell_kinds (sym (shape.rolls-Row n s)) ∙ fold-roll-Shape _ _ (Row n s)

kinds_struct : (ss : List Shape) → cell_kinds (shape.Struct ss) ≡ joined (map cell_kinds ss)
kinds_struct ss = ap cell_kinds (sym (shape.rolls-Struct ss)) ∙ fold-roll-Shape _ _ (Struct ss)

singles : (n : ℕ) (k : Kind) → joined (replicate n (k ∷ [])) ≡ replicate n k
singles zero k = refl
singles (suc n) k = ap (λ (ks : List Kind). k ∷ ks) (singles n k)

kinds_lines : (n : ℕ) (k : Kind) → cell_kinds (shape.Row n (shape.Cell k)) ≡ replicate n k
kinds_lines n k = kinds_row n (shape.Cell k) ∙ ap (λ (ks : List Kind). joined (replicate n ks)) (kinds_cell k) ∙ singles n k

kinds_two : (s r : Shape) → cell_kinds (shape.Struct (s ∷ r ∷ [])) ≡ cell_kinds s ++ cell_kinds r
kinds_two s r = kinds_struct (s ∷ r ∷ []) ∙ ap (λ (ks : List Kind). cell_kinds s ++ ks) (append-nil (cell_kinds r))

pub kinds_source : cell_kinds source_shape ≡ kinds.Int ∷ replicate most_lines kinds.Text
kinds_source =
    kinds_two number_shape lines_shape ∙ ap (λ (ks : List Kind). ks ++ cell_kinds lines_shape) (kinds_cell kinds.Int)
    ∙ ap (λ (ks : List Kind). kinds.Int ∷ ks) (kinds_lines most_lines kinds.Text)
