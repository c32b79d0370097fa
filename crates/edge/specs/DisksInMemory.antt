-- The disks in memory, and what their calls do.
use Rattle.std.specs.Prelude.{◌≡◌, ◌⊎◌, ◌↔◌, ℕ, zero, suc, Bool, true, List, [], ◌∷◌, ◌++◌, length, Option, None, Some, Result, IsErr, OnOk, OnErr}
use Rattle.eu_base.specs.Faults.{next_count}
use Rattle.edge.specs.declared.log.Written.{Written}
use Rattle.edge.specs.Disk.{DiskState, IsImage, Elapses}
use Rattle.edge.specs.Log.{now_of, past_of, LeftSince, written_at, lost_at, mark_last}
use Rattle.edge.specs.Memory.{IsListed}

-- a disk in memory: the writes, lost ones among them, the numbers of the calls that fail, how many calls were made, of each kind
-- too, and how many failed; whether a write failed for want of memory whose number is not listed, and whether a listed one was lost
-- for want of memory
pub record MemDiskState : Type 0 where
  pub log : List Written
  pub fails : List ℕ
  pub calls : ℕ
  pub reads : ℕ
  pub writes : ℕ
  pub syncs : ℕ
  pub faults : ℕ
  pub wanted : Bool
  pub missed : Bool

-- what it tells
abbrev pub told_state : MemDiskState → DiskState
told_state m = record (now_of m.log) { reads = m.reads; writes = m.writes; syncs = m.syncs }

-- a call, at each moment
abbrev pub Passes : MemDiskState → MemDiskState → Type 0
Passes old new =
    Elapses (length (past_of old.log)) (length (past_of new.log)) (LeftSince (past_of old.log) (now_of old.log)) (LeftSince (past_of new.log) (now_of new.log))
    (IsImage (now_of new.log))

abbrev pub with_fault : MemDiskState → MemDiskState
with_fault m = record m { faults = next_count m.faults }

abbrev pub with_read : MemDiskState → MemDiskState
with_read m = record m { calls = next_count m.calls; reads = next_count m.reads }

abbrev pub with_write : MemDiskState → MemDiskState
with_write m = record m { calls = next_count m.calls; writes = next_count m.writes }

-- the write that was counted reached the disk
abbrev pub noted : ℕ → List ℕ → MemDiskState → MemDiskState
noted at bytes m = record m { log = m.log ++ written_at at bytes ∷ [] }

-- a write was lost: the block is as it was, and counts as written
abbrev pub lost : ℕ → MemDiskState → MemDiskState
lost at m = record m { log = m.log ++ lost_at m.log at ∷ [] }

abbrev pub with_sync : MemDiskState → MemDiskState
with_sync m = record m { calls = next_count m.calls; syncs = next_count m.syncs }

-- a read fails exactly where it is listed
pub record MemReads {T E : Type 0} (result : Result T E) (old new : MemDiskState) : Type 0 where
  pub listed : IsErr result ↔ IsListed old.fails old.calls
  pub ok : OnOk result (new ≡ with_read old)
  pub err : OnErr result (new ≡ with_fault (with_read old))

-- A write that is listed fails after it reached the disk: the block is new and counts as written. For want of memory it may be lost,
-- which is then told. Any other write fails only for want of memory; it is lost, which is told too.
pub record MemWrites {T E : Type 0} (at : ℕ) (bytes : List ℕ) (result : Result T E) (old new : MemDiskState) : Type 0 where
  pub fails : IsListed old.fails old.calls → IsErr result
  pub listed : IsListed old.fails old.calls →
      (new ≡ noted at bytes (with_fault (with_write old))) ⊎ (new ≡ record (lost at (with_fault (with_write old))) { missed = true })
  pub wanted : ¬ (IsListed old.fails old.calls) → OnErr result (new ≡ record (lost at (with_fault (with_write old))) { wanted = true })
  pub ok : OnOk result (new ≡ noted at bytes (with_write old))

-- a sync fails exactly where it is listed
pub record MemSyncs {T E : Type 0} (result : Result T E) (old new : MemDiskState) : Type 0 where
  pub listed : IsErr result ↔ IsListed old.fails old.calls
  pub ok : OnOk result (new ≡ record (with_sync old) { log = mark_last old.log })
  pub err : OnErr result (new ≡ with_fault (with_sync old))

-- a disk that fails from some call on: the disk behind it, how many calls and syncs it still passes where that is bounded,
-- and its own counts, of the calls that it refuses too
pub record FuseDiskState : Type 0 where
  pub disk : MemDiskState
  pub calls_left : Option ℕ
  pub syncs_left : Option ℕ
  pub reads : ℕ
  pub writes : ℕ
  pub syncs : ℕ
  pub faults : ℕ

-- what it tells
abbrev pub told_by_fuse : FuseDiskState → DiskState
told_by_fuse f = record (now_of f.disk.log) { reads = f.reads; writes = f.writes; syncs = f.syncs }

-- none is left
abbrev pub IsSpent : Option ℕ → Type 0
IsSpent left = left ≡ Some 0

-- one was passed
abbrev pub one_less : Option ℕ → Option ℕ
one_less None = None
one_less (Some zero) = Some 0
one_less (Some (suc left)) = Some left
