-- Runs of blocks: whole blocks that stand one after another on a disk.
use Rattle.std.specs.Prelude.{◌≡◌, ℕ, zero, suc, ◌+◌, ◌*◌, ◌<◌, ◌/◌, List, length, take, drop, Option}
use Rattle.std.specs.Option.{option_map}
use Rattle.edge.specs.Disk.{Blocks, DiskState, after_read, after_write, IsFailedWrite}

-- how many blocks these bytes fill
abbrev pub blocks_in : List ℕ → ℕ
blocks_in bytes = length bytes / 512

-- the k-th block of these bytes, from 0
abbrev pub block_of : ℕ → List ℕ → List ℕ
block_of k bytes = take 512 (drop (512 * k) bytes)

-- one of the count blocks from this one on
abbrev pub IsInRun : ℕ → ℕ → ℕ → Type 0
IsInRun at count block = (k : ℕ) × (k < count) × (at + k ≡ block)

-- the count blocks from this one on hold these bytes
abbrev pub HoldsRun : Blocks → ℕ → ℕ → List ℕ → Type 0
HoldsRun content at count bytes = (k : ℕ) → k < count → content (at + k) ≡ block_of k bytes

-- so many reads
abbrev pub after_reads : ℕ → DiskState → DiskState
after_reads zero s = s
after_reads (suc k) s = after_read (after_reads k s)

-- the first blocks of these bytes were written, each once, in order
abbrev pub after_writes : ℕ → ℕ → List ℕ → DiskState → DiskState
after_writes zero at bytes s = s
after_writes (suc k) at bytes s = after_write (at + k) (block_of k bytes) (after_writes k at bytes s)

-- one of the count reads failed, and none was made after it
abbrev pub IsFailedRead : ℕ → Option DiskState → Option DiskState → Type 0
IsFailedRead count old new = (k : ℕ) × (k < count) × (new ≡ option_map (after_reads (suc k)) old)

-- the blocks before one were written, each once, in order; the write of that one failed, and no write was made after it
abbrev pub IsFailedRun : ℕ → ℕ → List ℕ → Option DiskState → Option DiskState → Type 0
IsFailedRun count at bytes old new = (k : ℕ) × (k < count) × IsFailedWrite (at + k) (block_of k bytes) (option_map (after_writes k at bytes) old) new
