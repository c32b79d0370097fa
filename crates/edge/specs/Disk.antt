-- What the calls of a disk do to what it holds, and what a crash may leave.
use Rattle.std.specs.Prelude.{◌≡◌, ◌⊎◌, ℕ, ◌≤◌, ◌==◌, Bool, true, false, if◌then◌else◌, List, Option, None, Some}
use Rattle.std.specs.Option.{option_map}
use Rattle.eu_base.specs.Faults.{next_count}

-- what each block holds, by its number
abbrev pub Blocks : Type 0
Blocks = ℕ → List ℕ

-- what a read gives, and gave at the last successful sync; which blocks were written since; how many calls were made, failed ones among them
pub record DiskState : Type 0 where
  pub content : Blocks
  pub synced : Blocks
  pub written : ℕ → Bool
  pub reads : ℕ
  pub writes : ℕ
  pub syncs : ℕ

-- these bytes in one block
abbrev pub with_block : Blocks → ℕ → List ℕ → Blocks
with_block blocks at bytes block = if block == at then bytes else blocks block

-- one block more was written
abbrev pub with_mark : (ℕ → Bool) → ℕ → ℕ → Bool
with_mark written at block = if block == at then true else written block

abbrev pub after_read : DiskState → DiskState
after_read s = record s { reads = next_count s.reads }

abbrev pub after_write : ℕ → List ℕ → DiskState → DiskState
after_write at bytes s = record s { content = with_block s.content at bytes; written = with_mark s.written at; writes = next_count s.writes }

-- a write that failed and left the block as it was, though it counts as written
abbrev pub after_lost_write : ℕ → DiskState → DiskState
after_lost_write at s = record s { written = with_mark s.written at; writes = next_count s.writes }

abbrev pub after_sync : DiskState → DiskState
after_sync s = record s { synced = s.content; written = λ _. false; syncs = next_count s.syncs }

-- a sync that failed: the blocks count as written as before
abbrev pub after_failed_sync : DiskState → DiskState
after_failed_sync s = record s { syncs = next_count s.syncs }

-- a failed write leaves the block old or new, and the block counts as written
abbrev pub IsFailedWrite : ℕ → List ℕ → Option DiskState → Option DiskState → Type 0
IsFailedWrite at bytes old new = (new ≡ option_map (after_lost_write at) old) ⊎ (new ≡ option_map (after_write at bytes) old)

-- a crash may leave this image: any bytes in the blocks written since the last successful sync, in all others what a read gives
abbrev pub IsImage : DiskState → Blocks → Type 0
IsImage s image = (block : ℕ) → s.written block ≡ false → image block ≡ s.content block

-- the same of a disk that may tell nothing
abbrev pub MayLeave : Option DiskState → Blocks → Type 0
MayLeave None image = Unit {0}
MayLeave (Some s) image = IsImage s image

-- no block was written since the last successful sync, so a crash leaves what a read gives
abbrev pub IsSettled : DiskState → Type 0
IsSettled s = (block : ℕ) → s.written block ≡ false

-- the disk tells a state that has P
abbrev pub Tells : Option DiskState → (DiskState → Type 0) → Type 0
Tells told P = (s : DiskState) × (told ≡ Some s) × P s

-- a call: an image that a crash may have left since a moment before is one that it may have left before the call, or may leave after it
pub record Elapses (before now : ℕ) (left_before left_now : ℕ → Blocks → Type 0) (may_leave : Blocks → Type 0) : Type 0 where
  pub later : before ≤ now
  pub nothing_else : (t : ℕ) (image : Blocks) → t ≤ before → left_now t image → left_before t image ⊎ may_leave image
  pub keeps : (t : ℕ) (image : Blocks) → t ≤ before → left_before t image → left_now t image
