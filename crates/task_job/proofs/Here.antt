-- Lemmas on pages, for a pool behind which nothing stands.
use Rattle.std.proofs.Common.{◌≡◌, ℕ, ◌+◌, ◌-◌, ◌≤◌, List, ◌++◌, length, Bool, true, Option, None, refl}
use Rattle.eu_base.specs.declared.address.Area.{Area}
use Rattle.eu_base.specs.declared.address.Area.TheVariants.{Run}
use Rattle.eu_base.specs.Values.{SpaceNo}
use Rattle.eu_base.specs.Cells.{Cells, Free}
use Rattle.page_pool.specs.Pool.{Pages, Backed}
use Rattle.task_job.specs.Below.page_table.specs.Entries.{Names}
use Rattle.task_job.specs.Below.page_table.specs.Sharing.{Agree, occ, most_spaces}
use Rattle.task_job.specs.Below.page_table.specs.Frames.{Stands}
use Rattle.task_job.specs.Below.page_table.proofs.Framing as framing
use Rattle.task_job.specs.Below.text_heap.specs.Held.{HoldsCells}
use Rattle.space_memory.proofs.Roots as live_roots
use Rattle.space_memory.specs.Memories.{MemoryData, most_roots}
use Rattle.space_memory.specs.Changes as changes
use Rattle.space_memory.proofs.Fresh as fresh
use Rattle.task_job.specs.Here.{here, content_at, Frames, KeepsBytes, HoldsAll, MemoryFrames}

-- every block is held
pub all_backed : (pages : Pages) → Backed (λ block. true) pages
all_backed pages = record { each = λ p block is. refl }

pub frames_none : (pages : Pages) (a : Names) → Frames pages pages a a
frames_none pages a = framing.frames_none (here pages) a

pub frames_nil : (pages : Pages) (a b : Names) → ((p : ℕ) → occ p a ≡ 0) → ((p : ℕ) → occ p b ≡ 0) → Frames pages pages a b
frames_nil pages a b first second = framing.frames_nil (here pages) a b first second

pub frames_then : (p0 p1 p2 : Pages) (a b c : Names) → length b ≤ length a + (length c - length a) → Frames p0 p1 a b → Frames p1 p2 b c → Frames p0 p2 a c
frames_then p0 p1 p2 a b c few f h = framing.frames_then (here p0) (here p1) (here p2) a b c few f h

pub stands_after : (old new : Pages) (a b : Names) (more less : ℕ) → length b + less ≤ length a + more
    → Frames old new a b → Stands old a more → Stands new b less
stands_after old new a b more less few f stands = framing.stands_after (here old) (here new) a b more less few f stands

pub agree_after : (old new : Pages) (a b rest : Names) → length (b ++ rest) ≤ most_spaces → Frames old new a b → ∥ Agree old (a ++ rest) ∥₁
    → ∥ Agree new (b ++ rest) ∥₁
agree_after old new a b rest few f agrees = framing.agree_after (here old) (here new) a b rest few f agrees

pub keeps_none : (pages : Pages) (names : Names) → KeepsBytes pages pages names
keeps_none pages names = live_roots.keeps_none (here pages) names

pub frames_before : (old new : Pages) (before after : Names) → length after ≤ most_roots → Frames old new before after → MemoryFrames old new before after
frames_before old new before after few f = changes.frames_before (here old) (here new) before after few f

pub memory_frames_none : (pages : Pages) (names : Names) → MemoryFrames pages pages names names
memory_frames_none pages names = changes.memory_frames_none (here pages) names

pub memory_frames_then : (p0 p1 p2 : Pages) (a b c : Names) → MemoryFrames p0 p1 a b → MemoryFrames p1 p2 b c → MemoryFrames p0 p2 a c
memory_frames_then p0 p1 p2 a b c f h = changes.memory_frames_then (here p0) (here p1) (here p2) a b c f h

pub nothing_held : (area : Area) (pages : Pages) → HoldsCells area (content_at pages None) (λ at. Free)
nothing_held area pages = fresh.nothing_held area (here pages)
