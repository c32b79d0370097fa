-- The cells of data spaces.
use Rattle.std.specs.Prelude.{ℕ, cond, List, slice_get, Option, Some, None}
use Rattle.eu_base.specs.declared.address.Area.{Area}
use Rattle.eu_base.specs.declared.address.Area.TheVariants as areas
use Rattle.eu_base.specs.declared.value.Kind.{Kind}
use Rattle.eu_base.specs.declared.value.Value.{Value}
use Rattle.eu_base.specs.Shapes.{cell_kinds}
use Rattle.eu_base.specs.Values.{SpaceNo, blank_of}
use Rattle.eu_base.specs.Cells.{Cell, Free, Cells, held_of, space_cell, same_area}
use Rattle.eu_base.specs.DataSpaces.{Space, Heads, IsLive, next_number, SpaceChange, Makes, Gets, Forgets, SetsKind, Fills, Names, Unnames}

-- an area is there: those of the command and of the packets always are, and that of a data space that lives
abbrev pub IsThere : Heads → Area → Type 0
IsThere heads areas.Run = Unit {0}
IsThere heads areas.Packets = Unit {0}
IsThere heads (areas.Space s) = IsLive s heads

-- the cells after those of one area were put by others, by their numbers there
abbrev pub with_area : Area → (ℕ → Cell) → Cells → Cells
with_area area own cells = λ a. cond (same_area a.area area) (own a.cell) (cells a)

-- what is known of the cells of a new space: nothing, or what is known of those of the one that it is a copy of
abbrev pub cells_from : Option SpaceNo → Cells → ℕ → Cell
cells_from None cells = λ k. Free
cells_from (Some s) cells = λ k. cells (space_cell s k)

-- the values of a space that another task had stand in its cells, and nothing is known of those behind
abbrev pub value_cell : Option Value → Cell
value_cell None = Free
value_cell (Some v) = held_of v

abbrev pub content_cells : Space → ℕ → Cell
content_cells content = λ k. value_cell (slice_get content.values k)

-- what a cell of a space that got these kinds holds: a value of its kind before anything was stored, and past them what it held
abbrev pub blank_or : Option Kind → Cell → Cell
blank_or None held = held
blank_or (Some kind) held = held_of (blank_of kind)

abbrev pub blank_cells : SpaceNo → List Kind → Cells → ℕ → Cell
blank_cells s kinds cells = λ k. blank_or (slice_get kinds k) (cells (space_cell s k))

-- what is known after a change
abbrev pub cells_by : SpaceChange → Heads → Cells → Cells
cells_by (Makes from) heads cells = with_area (areas.Space (next_number heads)) (cells_from from cells) cells
cells_by (Gets content) heads cells = with_area (areas.Space (next_number heads)) (content_cells content) cells
cells_by (Forgets s) heads cells = with_area (areas.Space s) (λ k. Free) cells
cells_by (SetsKind s z) heads cells = cells
cells_by (Fills s shape) heads cells = with_area (areas.Space s) (blank_cells s (cell_kinds shape) cells) cells
cells_by (Names name s) heads cells = cells
cells_by (Unnames name) heads cells = cells
