-- Words on pages, for a pool behind which nothing stands: what is above reads pages by these as long as no backing reaches it.
use Rattle.std.specs.Prelude.{ℕ, Option, Some, replicate}
use Rattle.eu_base.specs.declared.address.Area.{Area}
use Rattle.eu_base.specs.Cells.{Cells}
use Rattle.eu_base.specs.Spaces.{Content}
use Rattle.eu_base.specs.DataSpaces.{Space}
use Rattle.page_pool.specs.Pool.{Pages, Tell}
use Rattle.task_job.specs.Below.page_table.specs.Entries.{Names}
use Rattle.task_job.specs.Below.page_table.specs.Frames.{Over, over}
use Rattle.task_job.specs.Below.page_table.specs.Frames as frames
use Rattle.task_job.specs.Below.data_space.specs.Data.{SpaceData}
use Rattle.space_memory.specs.Kept as kept
use Rattle.source_texts.specs.Spaces as source_spaces
use Rattle.space_memory.specs.Memories.{MemoryData}
use Rattle.space_memory.specs.Memories as memories

-- every block reads as zeros
abbrev pub nowhere : Tell
nowhere = Some (λ block. replicate 512 0)

abbrev pub here : Pages → Over
here pages = over pages nowhere

abbrev pub Knows : Pages → Type 0
Knows pages = frames.Knows (here pages)

abbrev pub content_at : Pages → Option ℕ → ℕ → ℕ
content_at pages = frames.content_at (here pages)

abbrev pub Frames : Pages → Pages → Names → Names → Type 0
Frames old new = frames.Frames (here old) (here new)

abbrev pub Framed : Pages → Pages → Names → Names → Type 0
Framed old new = frames.Framed (here old) (here new)

abbrev pub KeepsBytes : Pages → Pages → Names → Type 0
KeepsBytes old new = kept.KeepsBytes (here old) (here new)

abbrev pub HoldsSpace : Pages → SpaceData → Space → Type 0
HoldsSpace pages = source_spaces.HoldsSpace (here pages)

abbrev pub bytes_in : Area → Pages → MemoryData → Content
bytes_in area pages = memories.bytes_in area (here pages)

abbrev pub HoldsAll : Pages → MemoryData → Cells → Type 0
HoldsAll pages = memories.HoldsAll (here pages)

abbrev pub MemoryFrames : Pages → Pages → Names → Names → Type 0
MemoryFrames old new = memories.MemoryFrames (here old) (here new)
