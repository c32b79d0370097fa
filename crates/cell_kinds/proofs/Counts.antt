-- Numbers of kinds.
use Rattle.std.proofs.Common.{◌≡◌, ℕ, zero, suc, ◌+◌, ◌*◌, List, ◌∷◌, length, replicate, sym, ap, ◌∙◌, arith}
use Rattle.std.proofs.lemmas.List.{length-append}
use Rattle.eu_base.specs.declared.value.Kind.{Kind}
use Rattle.eu_base.specs.declared.shape.Shape.{Shape}
use Rattle.eu_base.specs.declared.shape.Shape.TheOpen as open_shape
use Rattle.eu_base.specs.declared.shape.Shape.TheVariants as shape
use Rattle.eu_base.specs.declared.shape.Shape.TheFolds.{fold-roll-Shape}
use Rattle.eu_base.specs.Shapes.{joined, cell_kinds}
use Rattle.cell_kinds.specs.Kinds.{all_kinds}

-- those of equal lists
rows_counted : (n : ℕ) (kinds : List Kind) → length (joined (replicate n kinds)) ≡ n * length kinds
rows_counted zero kinds = omega arith
rows_counted (suc n) kinds =
    let e = rows_counted n kinds in
    length-append kinds (joined (replicate n kinds)) ∙ (ap (λ m. length kinds + m) e ∙ omega arith)

-- those of one shape and of those behind it
pub all_counted : (shape : Shape) (shapes : List Shape) → length (all_kinds (shape ∷ shapes)) ≡ length (cell_kinds shape) + length (all_kinds shapes)
all_counted shape shapes = length-append (cell_kinds shape) (all_kinds shapes)

-- those of a row
pub row_counted : (n : ℕ) (of : Shape) → length (cell_kinds (shape.Row n of)) ≡ n * length (cell_kinds of)
row_counted n of =
    ap (λ s. length (cell_kinds s)) (sym (shape.rolls-Row n of)) ∙ ap length (fold-roll-Shape _ _ (open_shape.Row n of)) ∙ rows_counted n (cell_kinds of)
