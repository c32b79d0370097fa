-- What a run of disk calls does, at each moment in it and at its end.
use Rattle.std.specs.Prelude.{◌≡◌, ◌⊎◌, ℕ, zero, suc, ◌≤◌, false, Option, Some}
use Rattle.eu_base.specs.Faults.{next_count}
use Rattle.edge.specs.Disk.{Blocks, DiskState}

-- each image that a crash at a moment of this part of a run may leave has P
pub record Leaves {D : Type 0} (moment : D → ℕ) (left_since : D → ℕ → Blocks → Type 0) (old new : D) (P : Blocks → Type 0) : Type 0 where
  pub later : moment old ≤ moment new
  pub before : (t : ℕ) (image : Blocks) → t ≤ moment old → left_since new t image → left_since old t image ⊎ P image

-- each image that a crash at any moment since the old one may leave has P
pub record LeavesOnly {D : Type 0} (moment : D → ℕ) (left_since : D → ℕ → Blocks → Type 0) (old new : D) (P : Blocks → Type 0) : Type 0 where
  pub part : Leaves moment left_since old new P
  pub each : (image : Blocks) → left_since new (moment old) image → P image

-- outside these blocks nothing changed, and no block counts as written anew
pub record ChangesOnly (changed : ℕ → Type 0) (old new : DiskState) : Type 0 where
  pub content : (block : ℕ) → ¬ (changed block) → new.content block ≡ old.content block
  pub written : (block : ℕ) → ¬ (changed block) → old.written block ≡ false → new.written block ≡ false

-- an image that holds, outside these blocks, what was synced in this state
abbrev pub AgreesOutside : (ℕ → Type 0) → DiskState → Blocks → Type 0
AgreesOutside changed s image = (block : ℕ) → ¬ (changed block) → s.written block ≡ false → image block ≡ s.content block

-- no block
abbrev pub Nowhere : ℕ → Type 0
Nowhere block = ⊥

-- so many calls later a counter stands so
abbrev pub counted : ℕ → ℕ → ℕ
counted zero count = count
counted (suc calls) count = next_count (counted calls count)

-- exactly so many reads, writes and syncs were made, failed ones among them
pub record HasMade (r w y : ℕ) (old new : DiskState) : Type 0 where
  pub reads : new.reads ≡ counted r old.reads
  pub writes : new.writes ≡ counted w old.writes
  pub syncs : new.syncs ≡ counted y old.syncs

-- no more calls than these were made
pub record HasMadeAtMost (r w y : ℕ) (old new : DiskState) : Type 0 where
  pub reads : ℕ
  pub writes : ℕ
  pub syncs : ℕ
  pub few_reads : reads ≤ r
  pub few_writes : writes ≤ w
  pub few_syncs : syncs ≤ y
  pub made : HasMade reads writes syncs old new

-- The disk goes from state s to one that it tells, changes these blocks alone, at each moment, and makes at most so many
-- reads, writes and syncs.
pub record Step {D : Type 0} (state : D → Option DiskState) (moment : D → ℕ) (left_since : D → ℕ → Blocks → Type 0) (old new : D) (changed : ℕ → Type 0)
    (r w y : ℕ) (s : DiskState) : Type 0 where
  pub reached : DiskState
  pub told : state new ≡ Some reached
  pub only : ChangesOnly changed s reached
  pub leaves : Leaves moment left_since old new (AgreesOutside changed s)
  pub calls : HasMadeAtMost r w y s reached
