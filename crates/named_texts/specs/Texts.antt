-- Texts that a memory keeps under names.
use Rattle.std.specs.Prelude.{◌≡◌, ℕ, List, Option, None, Some, option_and_then}
use Rattle.task_numbers.specs.declared.number.SpaceNo.{SpaceNo}
use Rattle.named_texts.specs.Below.page_table.specs.Frames.{Over as Pages, Knows}
use Rattle.data_space.specs.Data.{SpaceData}
use Rattle.source_texts.specs.Spaces.{HoldsSpace}
use Rattle.source_texts.specs.Sources.{source_space}
use Rattle.space_memory.specs.Live.{space_at}
use Rattle.space_memory.specs.Kept.{KeepsBytes}
use Rattle.named_texts.specs.Below.space_names.specs.Directory as directory
use Rattle.space_memory.specs.Memories.{MemoryData, roots, with_new, forgotten}

abbrev pub without_named : Option SpaceNo → MemoryData → MemoryData
without_named None memory = memory
without_named (Some s) memory = forgotten s.0 memory

-- the last space gets a name, which comes last
abbrev pub named_last : List ℕ → MemoryData → MemoryData
named_last name memory = record memory { names = directory.put name (record { 0 = memory.last }) memory.names }

-- with a new space that stands last under a name; an older one of that name is forgotten
abbrev pub with_named : List ℕ → SpaceData → MemoryData → MemoryData
with_named name space memory = named_last name (with_new space (without_named (directory.get name memory.names) memory))

-- the space under a name
abbrev pub under : List ℕ → MemoryData → Option SpaceData
under name memory = option_and_then (λ (s : SpaceNo). space_at s.0 memory.spaces) (directory.get name memory.names)

-- a text of these lines stands last under its name; an older space of that name is gone, and the other spaces keep their bytes
pub record KeepsText (old new : Pages) (was now : MemoryData) (name : List ℕ) (lines : List (List ℕ)) : Type 0 where
  pub space : SpaceData
  pub memory : now ≡ with_named name space was
  pub holds : Knows old → HoldsSpace new space (source_space lines)
  pub keeps : KeepsBytes old new (roots (without_named (directory.get name was.names) was))
