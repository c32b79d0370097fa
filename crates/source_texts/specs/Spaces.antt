-- How data spaces lie in pages.
use Rattle.std.specs.Prelude.{◌≡◌, List, Option, slice_get}
use Rattle.eu_base.specs.declared.address.Area.TheVariants.{Run}
use Rattle.eu_base.specs.declared.value.Value.{Value}
use Rattle.eu_base.specs.Cells.{Cell, Cells}
use Rattle.eu_base.specs.SpaceCells.{value_cell}
pub use Rattle.eu_base.specs.DataSpaces.{Space}
pub use Rattle.eu_base.specs.SoundSpaces.{shape_kinds, AreOf, none, one}
use Rattle.source_texts.specs.Below.page_table.specs.Frames.{Over as Pages, Knows, content_at}
use Rattle.text_heap.specs.Held.{HoldsCells}
use Rattle.data_space.specs.Data.{SpaceData}

-- the values stand in the cells from 0 on, and nothing is known of the cells behind
abbrev pub held : Option Value → Cell
held o = value_cell o

abbrev pub cells_of : List Value → Cells
cells_of values = λ at. held (slice_get values at.cell)

-- pages hold a space, where bytes are told: its values lie in its cells by its shape, and it has no other text
pub record HoldsSpace (pages : Pages) (paged : SpaceData) (space : Space) : Type 0 where
  pub knows : Knows pages
  pub kind : paged.kind ≡ space.kind
  pub shape : paged.shape ≡ space.shape
  pub typed : AreOf (shape_kinds space.shape) space.values
  pub holds : HoldsCells Run (content_at pages paged.root) (cells_of space.values)
