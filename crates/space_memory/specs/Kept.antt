-- What a call leaves of the bytes of spaces, and what it makes of a space.
use Rattle.std.specs.Prelude.{◌≡◌, Some}
use Rattle.std.specs.List.{AllByRecursion}
use Rattle.eu_base.specs.declared.shape.Shape.{Shape}
use Rattle.eu_base.specs.Shapes.{cell_count, cell_kinds}
use Rattle.eu_base.specs.Spaces.{IsKept}
use Rattle.space_memory.specs.Below.page_table.specs.Entries.{Names}
use Rattle.space_memory.specs.Below.page_table.specs.Frames.{Over as Pages, Knows, content_at}
use Rattle.cell_layout.specs.Layout.{IsBlankFrom, IsKeptBut}
use Rattle.data_space.specs.Data.{SpaceData}

-- every byte of the spaces with these roots is as it was, and what is known stays known
pub record KeepsBytes (old new : Pages) (roots : Names) : Type 0 where
  pub knows : Knows old → Knows new
  pub each : AllByRecursion (λ root. IsKept (content_at old root) (content_at new root)) roots

-- a space got a shape, and holds from cell 0 on what variables of it hold before anything was stored; all else stays
pub record IsFilled (old new : Pages) (shape : Shape) (was now : SpaceData) : Type 0 where
  pub blank : Knows old → IsBlankFrom (content_at new now.root) 0 (cell_kinds shape)
  pub kept : Knows old → IsKeptBut (content_at old was.root) (content_at new now.root) 0 (cell_count shape)
  pub kind : now.kind ≡ was.kind
  pub shaped : now.shape ≡ Some shape

-- a space did not get a shape: it keeps its type, its shape and every byte outside the cells that the shape has
pub record IsNotFilled (old new : Pages) (shape : Shape) (was now : SpaceData) : Type 0 where
  pub kept : Knows old → IsKeptBut (content_at old was.root) (content_at new now.root) 0 (cell_count shape)
  pub kind : now.kind ≡ was.kind
  pub same : now.shape ≡ was.shape

-- a space keeps its type and its shape
pub record IsOfKind (was now : SpaceData) : Type 0 where
  pub kind : now.kind ≡ was.kind
  pub shape : now.shape ≡ was.shape
