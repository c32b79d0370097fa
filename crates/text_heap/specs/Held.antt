-- What the cells of an area are known to hold, in the space of the area.
use Rattle.std.specs.Prelude.{◌≡◌, ℕ, ◌<◌, List, Option, Some, None}
use Rattle.eu_base.specs.declared.address.Area.{Area}
use Rattle.eu_base.specs.declared.address.TheConstants.{CELLS}
use Rattle.eu_base.specs.Cells.{Cell, Free, Word, Letters, Cells, area_cell}
use Rattle.eu_base.specs.Spaces.{Content}
use Rattle.cell_layout.specs.Layout.{cell_in}
use Rattle.text_heap.specs.Texts.{Texts, Holds}

-- the text that a cell is known to hold
abbrev pub text_of : Cell → Option (List ℕ)
text_of Free = None
text_of (Word n) = None
text_of (Letters t) = Some t

abbrev pub texts_of : Area → Cells → Texts
texts_of area cells = λ c. text_of (cells (area_cell area c))

-- each cell of an area of which a number is known holds it, and the known texts of the area stand in a sound space
pub record HoldsCells (area : Area) (content : Content) (cells : Cells) : Type 0 where
  pub words : (c n : ℕ) → c < CELLS → cells (area_cell area c) ≡ Word n → cell_in content c ≡ n
  pub texts : Holds content (texts_of area cells)
