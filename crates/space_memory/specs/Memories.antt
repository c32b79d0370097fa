-- What a contract sees of the memory of a task.
use Rattle.std.specs.Prelude.{◌≡◌, ◌+◌, ◌-◌, ◌≤◌, ℕ, Bool, true, false, is_some, List, [], ◌∷◌, ◌++◌, length, Option, None, Some}
use Rattle.std.specs.List.{AllByRecursion}
use Rattle.task_numbers.specs.declared.number.SpaceNo.{SpaceNo}
use Rattle.eu_base.specs.declared.address.Area.{Area}
use Rattle.eu_base.specs.declared.address.Area.TheVariants.{Run, Packets, Space}
use Rattle.eu_base.specs.Cells.{Free, Cells, area_cell}
use Rattle.eu_base.specs.Spaces.{Content, IsKept}
use Rattle.eu_base.specs.DataSpaces.{Head, Heads, heads_in}
use Rattle.page_pool.specs.Pool.{Pages}
use Rattle.space_memory.specs.Below.page_table.specs.Entries.{Names}
use Rattle.space_memory.specs.Below.page_table.specs.Frames.{Over, Knows, content_at, Stands, KeepsHomes, Framed}
use Rattle.space_memory.specs.Below.page_table.specs.Sharing.{most_spaces, Agree}
use Rattle.text_heap.specs.Held.{HoldsCells}
use Rattle.data_space.specs.Data.{SpaceData}
use Rattle.space_memory.specs.Live.{no_space, space_at, the_space, IsLive, without, with_space, space_roots}
use Rattle.space_names.specs.Directory as directory

-- its spaces: that of the command that runs, that of the packets' variables, and the live ones by number; the last number that
-- was given; and the directory, names with the numbers of live spaces
pub record MemoryData : Type 0 where
  pub run : SpaceData
  pub packets : SpaceData
  pub spaces : List (ℕ × SpaceData)
  pub last : ℕ
  pub names : List (List ℕ × SpaceNo)

-- a memory without bytes, spaces and names
abbrev pub new_memory : MemoryData
new_memory = record { run = no_space; packets = no_space; spaces = []; last = 0; names = [] }

-- that of a son: the packets have the same variables, and no number is given again
abbrev pub heir : MemoryData → MemoryData
heir father = record new_memory { packets = father.packets; last = father.last }

-- the root pages of its spaces
abbrev pub roots : MemoryData → Names
roots memory = memory.run.root ∷ memory.packets.root ∷ space_roots memory.spaces

-- each name leads to a live space
pub record LeadToSpaces (names : List (List ℕ × SpaceNo)) (spaces : List (ℕ × SpaceData)) : Type 0 where
  pub each : AllByRecursion (λ entry. IsLive entry.1.0 spaces) names

-- with a space more, under the next number
abbrev pub with_new : SpaceData → MemoryData → MemoryData
with_new space memory = record memory { spaces = memory.spaces ++ (memory.last + 1, space) ∷ []; last = memory.last + 1 }

-- what a new space is equal to: an empty one, or that under a number
abbrev pub source : Option SpaceNo → MemoryData → SpaceData
source None memory = no_space
source (Some s) memory = the_space s.0 memory.spaces

-- with another space under a number that is live
abbrev pub changed : ℕ → SpaceData → MemoryData → MemoryData
changed n space memory = record memory { spaces = with_space n space memory.spaces }

-- without the space under a number, and without its names
abbrev pub forgotten : ℕ → MemoryData → MemoryData
forgotten n memory = record memory { spaces = without n memory.spaces; names = directory.without_space n memory.names }

-- an area is there, and its space
abbrev pub is_there : Area → MemoryData → Bool
is_there Run memory = true
is_there Packets memory = true
is_there (Space s) memory = is_some (space_at s.0 memory.spaces)

abbrev pub space_in : Area → MemoryData → SpaceData
space_in Run memory = memory.run
space_in Packets memory = memory.packets
space_in (Space s) memory = the_space s.0 memory.spaces

abbrev pub bytes_in : Area → Over → MemoryData → Content
bytes_in area pages memory = content_at pages (space_in area memory).root

-- what is known of the cells of each area that is there, where bytes are told; of those of others nothing is
pub record HoldsAll (pages : Over) (memory : MemoryData) (cells : Cells) : Type 0 where
  pub knows : Knows pages
  pub there : (area : Area) → is_there area memory ≡ true → HoldsCells area (bytes_in area pages memory) cells
  pub gone : (area : Area) → is_there area memory ≡ false → (k : ℕ) → cells (area_cell area k) ≡ Free

-- its data spaces without their bytes
abbrev pub head_of : SpaceData → Head
head_of space = record { kind = space.kind; shape = space.shape }

abbrev pub memory_heads : MemoryData → Heads
memory_heads memory = record { live = heads_in head_of memory.spaces; last = memory.last; names = memory.names }

-- so many root pages it has at most: 16 live spaces, that of the command and that of the packets
abbrev pub most_roots : ℕ
most_roots = 18

-- the pool agrees with some spaces, these among them, and there is room for the most that a memory can have in the place of these
pub record StandsWhole (pages : Pages) (mine : Names) : Type 0 where
  pub few : length mine ≤ most_roots
  pub stands : Stands pages mine (most_roots - length mine)

-- The spaces of a memory become others. Whatever the rest is, where a whole memory has room beside it, pool and spaces agree, and no byte
-- of the rest changes.
pub record MemoryFrames (old new : Over) (before after : Names) : Type 0 where
  pub tell : new.tell ≡ old.tell
  pub knows : Knows old → Knows new
  pub homes : KeepsHomes old.pool new.pool
  pub frame : (rest : Names) → Agree old.pool (before ++ rest) → length rest + most_roots ≤ most_spaces → Framed old new after rest

-- a space is the one that it was, with each byte
abbrev pub KeepsSpace : Over → Over → SpaceData → SpaceData → Type 0
KeepsSpace old new before after = IsKept (content_at old before.root) (content_at new after.root)
