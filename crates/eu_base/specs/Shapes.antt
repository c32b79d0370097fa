-- Shapes as runs of cells.
use Rattle.std.specs.Prelude.{ℕ, ◌*◌, Bool, true, false, ◌&&◌, ◌==◌, List, [], ◌∷◌, sum, replicate, flat_map}
use Rattle.eu_base.specs.declared.value.Kind.{Kind}
use Rattle.eu_base.specs.declared.shape.Shape.{Shape}
use Rattle.eu_base.specs.Values.{same_kind}
use Rattle.eu_base.specs.declared.shape.Shape.TheOpen.{Shape-F, Cell, Row, Struct}
use Rattle.eu_base.specs.declared.shape.Shape.TheViews.{out-Shape}
use Rattle.eu_base.specs.declared.shape.Shape.TheFolds.{fold-Shape}

-- the number of cells
abbrev pub count_step : Shape-F ℕ → ℕ
count_step (Cell kind) = 1
count_step (Row count of) = count * of
count_step (Struct parts) = sum parts

abbrev pub cell_count : Shape → ℕ
cell_count = fold-Shape ℕ count_step

-- one list after the other
abbrev pub joined : List (List Kind) → List Kind
joined lists = flat_map (λ kinds. kinds) lists

-- the kinds of the cells, from the first on
abbrev pub kinds_step : Shape-F (List Kind) → List Kind
kinds_step (Cell kind) = kind ∷ []
kinds_step (Row count of) = joined (replicate count of)
kinds_step (Struct parts) = joined parts

abbrev pub cell_kinds : Shape → List Kind
cell_kinds = fold-Shape (List Kind) kinds_step

-- two shapes are the same tree
abbrev pub is_cell : Kind → Shape-F Shape → Bool
is_cell k (Cell j) = same_kind k j
is_cell k _ = false

abbrev pub is_row : ℕ → (Shape → Bool) → Shape-F Shape → Bool
is_row n f (Row m of) = n == m && f of
is_row n f _ = false

abbrev pub are_parts : List (Shape → Bool) → List Shape → Bool
are_parts [] [] = true
are_parts (f ∷ fs) (s ∷ ss) = f s && are_parts fs ss
are_parts _ _ = false

abbrev pub is_struct : List (Shape → Bool) → Shape-F Shape → Bool
is_struct fs (Struct parts) = are_parts fs parts
is_struct fs _ = false

abbrev pub same_step : Shape-F (Shape → Bool) → Shape → Bool
same_step (Cell k) s = is_cell k (out-Shape s)
same_step (Row n f) s = is_row n f (out-Shape s)
same_step (Struct fs) s = is_struct fs (out-Shape s)

abbrev pub same_shape : Shape → Shape → Bool
same_shape = fold-Shape (Shape → Bool) same_step
