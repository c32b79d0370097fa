-- The fixpoint that a disk holds, and what a new one makes of it.
use Rattle.std.specs.Prelude.{◌≡◌, ◌<◌, ◌≤◌, ◌⊎◌, ◌+◌, ◌-◌, ℕ, Bool, true, false, if◌then◌else◌, List}
use Rattle.edge.specs.Disk.{Blocks, DiskState, IsSettled}
use Rattle.fixpoint.specs.Slots.{is_open, gate_of, next_of, IsTaken}
use Rattle.edge.specs.declared.disk.TheConstants.{BLOCKS}

-- the slot that is taken, the sequence and the root of its head, and whether the gate of the other slot is open
pub record Fixpoint : Type 0 where
  pub slot : ℕ
  pub sequence : ℕ
  pub root : ℕ
  pub other_open : Bool

-- these blocks hold this fixpoint
pub record Holds (fix : Fixpoint) (content : Blocks) : Type 0 where
  pub taken : IsTaken content fix.slot fix.sequence fix.root
  pub other : is_open content (1 - fix.slot) ≡ fix.other_open

-- the disk holds it, and nothing is left to sync
pub record Fits (fix : Fixpoint) (s : DiskState) : Type 0 where
  pub settled : IsSettled s
  pub holds : Holds fix s.content

-- the fixpoint after this one: it has the other slot, and the gate of the slot before stays open
abbrev pub after : Fixpoint → ℕ → Fixpoint
after fix root = record { slot = 1 - fix.slot; sequence = next_of fix.sequence; root = root; other_open = true }

-- the block is the place of one of so many pages
abbrev pub IsPlace : ℕ → (ℕ → ℕ) → ℕ → Type 0
IsPlace count place block = (k : ℕ) × (k < count) × (place k ≡ block)

-- the places differ, and they and the root lie from block 4 to the last one
pub record ArePlaces (root count : ℕ) (place : ℕ → ℕ) : Type 0 where
  pub root_low : 4 ≤ root
  pub root_high : root < BLOCKS
  pub low : (k : ℕ) → k < count → 4 ≤ place k
  pub high : (k : ℕ) → k < count → place k < BLOCKS
  pub differ : (j k : ℕ) → j < count → k < count → place j ≡ place k → j ≡ k

-- the pages stand at their places
abbrev pub HasPages : ℕ → (ℕ → ℕ) → (ℕ → List ℕ) → Blocks → Type 0
HasPages count place page content = (k : ℕ) → k < count → content (place k) ≡ page k

-- all blocks from 4 on that are no places are the same
abbrev pub KeepsOthers : ℕ → (ℕ → ℕ) → Blocks → Blocks → Type 0
KeepsOthers count place old new = (block : ℕ) → 4 ≤ block → ¬ (IsPlace count place block) → new block ≡ old block

-- the slot before is taken, or the new one with all pages at their places; and the other blocks are as they were
pub record IsOldOrNew (fix : Fixpoint) (root count : ℕ) (place : ℕ → ℕ) (page : ℕ → List ℕ) (old image : Blocks) : Type 0 where
  pub taken : IsTaken image fix.slot fix.sequence fix.root ⊎ (IsTaken image (1 - fix.slot) (next_of fix.sequence) root × HasPages count place page image)
  pub others : KeepsOthers count place old image

-- the new fixpoint is held with all pages at their places and its gate as it is written, nothing is left to sync, and the other
-- blocks are as they were
pub record HasNew (fix : Fixpoint) (count : ℕ) (place : ℕ → ℕ) (page : ℕ → List ℕ) (old new : DiskState) : Type 0 where
  pub fits : Fits fix new
  pub gate : new.content fix.slot ≡ gate_of true
  pub pages : HasPages count place page new.content
  pub others : KeepsOthers count place old.content new.content

-- the fixpoint of a disk that was formatted
abbrev pub first_of : ℕ → Fixpoint
first_of root = record { slot = 0; sequence = 1; root = root; other_open = false }

-- that fixpoint is held as a new one is, and the other gate is closed as it is written
pub record HasFirst (root count : ℕ) (place : ℕ → ℕ) (page : ℕ → List ℕ) (old new : DiskState) : Type 0 where
  pub first : HasNew (first_of root) count place page old new
  pub shut : new.content 1 ≡ gate_of false

-- an open gate is closed by a write, and a closed one needs none
abbrev pub gate_writes : Bool → ℕ
gate_writes was_open = if was_open then 1 else 0

-- how many writes a commit of so many pages makes: the pages, the head, the gate, and before them the gate where it is open
abbrev pub writes_of : Fixpoint → ℕ → ℕ
writes_of fix count = count + 2 + gate_writes fix.other_open
