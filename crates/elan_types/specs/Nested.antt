-- Values as they are built. Evaluation has each of them flat: as the list of the values of its cells, from the first on.
use Rattle.std.specs.Prelude.{◌≡◌, ℕ, ◌*◌, Bool, true, false, ◌&&◌, List, [], ◌∷◌, ◌++◌, map, length, take, replicate, Some, slice_get}
use Rattle.eu_base.specs.declared.value.Kind.{Kind}
use Rattle.eu_base.specs.declared.value.Value.{Value}
use Rattle.eu_base.specs.declared.shape.Shape.{Shape}
use Rattle.eu_base.specs.declared.shape.Shape.TheVariants as shape
use Rattle.eu_base.specs.declared.shape.Shape.TheOpen.{Shape-F, Cell, Row, Struct}
use Rattle.eu_base.specs.declared.shape.Shape.TheFolds.{fold-Shape}
use Rattle.eu_base.specs.Values.{kind_of, same_kind}
use Rattle.eu_base.specs.Shapes.{cell_kinds, joined}
use Rattle.elan_types.specs.Eval.{part_of}

mutual
  -- the value of one cell, or that of a row or a structure, of its items or fields in order
  pub data Nested : Type 0 where
    cell : Value → Nested
    made : Parts → Nested

  pub data Parts : Type 0 where
    none : Parts
    part : Nested → Parts → Parts

abbrev pub listed : Parts → List Nested
listed none = []
listed (part w ps) = w ∷ listed ps

-- its items or fields
abbrev pub parts_of : Nested → List Nested
parts_of (cell v) = []
parts_of (made ps) = listed ps

abbrev mutual
  -- the values of its cells
  pub flat : Nested → List Value
  flat (cell v) = v ∷ []
  flat (made ps) = all_flat ps

  pub all_flat : Parts → List Value
  all_flat none = []
  all_flat (part w ps) = flat w ++ all_flat ps

-- it is a value of a shape: of a cell one of its kind, of a row one of the shape of the items for each, of a structure one for each field
abbrev pub is_cell_of : Kind → Nested → Bool
is_cell_of k (cell v) = same_kind k (kind_of v)
is_cell_of k (made ps) = false

abbrev pub are_of : List (Nested → Bool) → Parts → Bool
are_of [] none = true
are_of (f ∷ fs) (part w ps) = f w && are_of fs ps
are_of _ _ = false

abbrev pub is_made_of : List (Nested → Bool) → Nested → Bool
is_made_of fs (cell v) = false
is_made_of fs (made ps) = are_of fs ps

abbrev pub is_of_step : Shape-F (Nested → Bool) → Nested → Bool
is_of_step (Cell k) = is_cell_of k
is_of_step (Row n f) = is_made_of (replicate n f)
is_of_step (Struct fs) = is_made_of fs

abbrev pub is_of : Shape → Nested → Bool
is_of = fold-Shape (Nested → Bool) is_of_step

-- Nothing is lost where a value is flat: it has the kinds of its shape's cells, no other value of the shape has the same cells, and all
-- cells of these kinds are those of one
pub record IsOneToOne (s : Shape) : Type 0 where
  pub kinds : (w : Nested) → is_of s w ≡ true → map kind_of (flat w) ≡ cell_kinds s
  pub only : (w u : Nested) → is_of s w ≡ true → is_of s u ≡ true → flat w ≡ flat u → w ≡ u
  pub all : (vs : List Value) → map kind_of vs ≡ cell_kinds s → (w : Nested) × ((is_of s w ≡ true) × (flat w ≡ vs))

-- An item stands behind the cells of the items before it, a field behind those of the fields before it
pub record StandInOrder (s : Shape) : Type 0 where
  pub item : (count k : ℕ) (w u : Nested) → is_of (shape.Row count s) w ≡ true → slice_get (parts_of w) k ≡ Some u
      → flat u ≡ part_of (k * length (cell_kinds s)) (length (cell_kinds s)) (flat w)
  pub field : (fields : List Shape) (k : ℕ) (w u : Nested) → is_of (shape.Struct fields) w ≡ true → slice_get fields k ≡ Some s
      → slice_get (parts_of w) k ≡ Some u
      → flat u ≡ part_of (length (joined (map cell_kinds (take k fields)))) (length (cell_kinds s)) (flat w)
