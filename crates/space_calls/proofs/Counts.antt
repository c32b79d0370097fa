-- A shape has as many kinds as cells.
use Rattle.std.proofs.Common.{◌≡◌, ℕ, zero, suc, ◌+◌, ◌*◌, List, [], ◌∷◌, map, length, replicate, sum, refl, sym, ap, ◌∙◌, arith}
use Rattle.std.proofs.lemmas.List.{length-append}
use Rattle.std.proofs.lemmas.List.Sums.{sum_by-cons}
use Rattle.eu_base.specs.declared.value.Kind.{Kind}
use Rattle.eu_base.specs.declared.shape.Shape.{Shape}
use Rattle.eu_base.specs.declared.shape.Shape.TheOpen.{Shape-F, Cell, Row, Struct}
use Rattle.eu_base.specs.declared.shape.Shape.TheFolds.{ind-Shape, map-Shape, fold-roll-Shape}
use Rattle.eu_base.specs.Shapes.{count_step, cell_count, joined, kinds_step, cell_kinds}

joined_row : (n : ℕ) (kinds : List Kind) → length (joined (replicate n kinds)) ≡ n * length kinds
joined_row zero kinds = omega arith
joined_row (suc n) kinds =
    let e = joined_row n kinds in
    length-append kinds (joined (replicate n kinds)) ∙ (ap (λ m. length kinds + m) e ∙ omega arith)

joined_all : {X : Type 0} (kinds : X → List Kind) (count : X → ℕ) (xs : List ((x : X) × (length (kinds x) ≡ count x))) →
    length (joined (map kinds (map (λ e. e.0) xs))) ≡ sum (map count (map (λ e. e.0) xs))
joined_all kinds count [] = refl
joined_all kinds count (x ∷ xs) =
    let e = joined_all kinds count xs in
    let f = length-append (kinds x.0) (joined (map kinds (map (λ e. e.0) xs))) in
    let g = sum_by-cons (λ n. n) (count x.0) (map count (map (λ e. e.0) xs)) in
    let h = x.1 in
    f ∙ (ap (λ m. length (kinds x.0) + m) e ∙ (ap (λ m. m + sum (map count (map (λ e. e.0) xs))) h ∙ sym g))

abbrev P : Shape → Type 0
P s = length (cell_kinds s) ≡ cell_count s

here : (y : Shape-F ((s : Shape) × P s))
    → length (kinds_step (map-Shape _ _ cell_kinds (map-Shape _ _ (λ e. e.0) y))) ≡ count_step (map-Shape _ _ cell_count (map-Shape _ _ (λ e. e.0) y))
here (Cell kind) = refl
here (Row n of) = joined_row n (cell_kinds of.0) ∙ ap (λ m. n * m) of.1
here (Struct parts) = joined_all cell_kinds cell_count parts

pub kinds_counted : (s : Shape) → P s
kinds_counted = ind-Shape P (λ x y is. rw (fold-roll-Shape, fold-roll-Shape, ← is) (here y))
