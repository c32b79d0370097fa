-- A task is sound after calls that leave the numbers and names of its data spaces, and where its command is over.
use Rattle.std.proofs.Common.{◌≡◌, ◌≤◌, length, Option, sym, ap, ◌∙◌, subst, arith}
use Rattle.eu_base.specs.DataSpaces.{Heads}
use Rattle.eu_base.proofs.Heads.{long_heads}
use Rattle.page_pool.specs.Pool.{Pages}
use Rattle.live_task.specs.Below.page_table.specs.Entries.{Names}
use Rattle.eu_base.specs.declared.stop.Stop.{Stop}
use Rattle.live_task.specs.Below.space_names.specs.Directory as directory
use Rattle.live_task.specs.Below.space_memory.specs.Memories.{MemoryData, StandsWhole, memory_heads, head_of, most_roots}
use Rattle.task_job.specs.Here.{Frames, MemoryFrames}
use Rattle.task_job.proofs.Here.{frames_before, memory_frames_then}
use Rattle.live_task.specs.Stands.{IsSoundDoing, IsSound, EndsAs}
use Rattle.live_task.specs.declared.task.Task.{Task}
use Rattle.live_task.specs.declared.task.Doing.{Doing as Does}
use Rattle.live_task.specs.declared.task.Doing.TheVariants as does
use Rattle.live_task.specs.declared.task.Went.{Went}

pub sound_heads : (m n : MemoryData) → memory_heads n ≡ memory_heads m → (d : Does) → IsSoundDoing m d → IsSoundDoing n d
sound_heads m n same does.Idle h = tt
sound_heads m n same (does.Entering name lines) h =
    let many : length (memory_heads n).live ≡ length (memory_heads m).live = ap (λ (u : Heads). length u.live) same in
    let names : m.names ≡ n.names = sym (ap (λ (u : Heads). u.names) same) in
    let last : n.last ≡ m.last = ap (λ (u : Heads). u.last) same in
    record {
      few = h.few;
      short = h.short;
      room = λ free. let there = h.room (ap (directory.get name) names ∙ free) in omega (arith, there, many, long_heads head_of m.spaces, long_heads head_of n.spaces);
      number = omega (arith, h.number, last);
    }
sound_heads m n same (does.Running job) h = h

pub ends_sound : (old new : Pages) (was now : Task) (stop : Option Stop) (how : Went) → IsSound was → EndsAs old new was now stop how was.doing → IsSound now
ends_sound old new was now stop how sound ends = by was.doing ends
  where
    by : (d : Does) → EndsAs old new was now stop how d → IsSound now
    by does.Idle e = subst (λ (t : Task). IsSound t) (sym e.2) sound
    by (does.Entering name lines) e = subst (λ (t : Task). IsSound t) (sym e.2) sound
    by (does.Running job) e = subst (λ (t : Task). IsSound t) (sym e.1) tt

-- a command went on, and then it was over
pub still_few : (pages : Pages) (middle now : Names) → StandsWhole pages middle → length now ≡ length middle → length now ≤ most_roots
still_few pages middle now s many = omega (arith, s.few, many)

pub over_frames : (old middle new : Pages) (was then now : Names) → StandsWhole middle then → length now ≡ length then → MemoryFrames old middle was then
    → Frames middle new then now → MemoryFrames old new was now
over_frames old middle new was then now s many f g =
    memory_frames_then old middle new was then now f (frames_before middle new then now (still_few middle then now s many) g)
