-- Texts of one of the tasks.
use Rattle.std.proofs.Common.{◌≡◌, ℕ, ◌+◌, ◌≤◌, List, ◌∷◌, length, set, Option, None, Some, sym, ap, subst, arith}
use Rattle.std.specs.Prelude.{slice_get, Result, Ok, Err, OnOk, OnErr}
use Rattle.page_pool.specs.Pool.{Pages}
use Rattle.live_tasks.specs.Below.page_table.proofs.Framing.{agree_same}
use Rattle.live_tasks.specs.Below.space_memory.specs.Memories.{MemoryData, roots, most_roots}
use Rattle.live_tasks.specs.Below.task_job.specs.Here.{Frames, MemoryFrames}
use Rattle.live_tasks.specs.Below.task_job.proofs.Here.{frames_before, memory_frames_none}
use Rattle.live_tasks.specs.Below.live_task.specs.declared.task.Task.{Task}
use Rattle.live_tasks.specs.Below.live_task.specs.Stands.{IsSound}
use Rattle.live_tasks.specs.Tasks.{IsFit, task_roots}
use Rattle.live_tasks.proofs.Owning.{joined, agrees_nil}
use Rattle.live_tasks.proofs.Standing.{low, roots_fit, fits_with, call_fits}

-- a task with the memory that it had
module _ (was now : Task) (same : now.memory ≡ was.memory) where
  pub same_small : length (task_roots was) ≤ most_roots → length (task_roots now) ≤ most_roots
  same_small small = omega (arith, ap (λ (m : MemoryData). length (roots m)) same, small)

  pub same_frames : (pages : Pages) → MemoryFrames pages pages (task_roots was) (task_roots now)
  same_frames pages =
      subst (λ (m : MemoryData). MemoryFrames pages pages (task_roots was) (roots m)) (sym same) (memory_frames_none pages (task_roots was))

pub both_ok : {T E P Q R : Type 0} (r : Result T E) → (P → Q → R) → OnOk r P → OnOk r Q → OnOk r R
both_ok (Ok x) f p q = f p q
both_ok (Err e) f p q = tt

-- a text came to its end
pub closed_fits : {T E : Type 0} (old new : Pages) (tasks : List Task) (k : ℕ) (task : Task) → slice_get tasks k ≡ Some task → IsFit old tasks
    → (later : Task) (r : Result T E) → OnOk r (Frames old new (task_roots task) (task_roots later))
    → OnErr r (Frames old new (None ∷ task_roots task) (task_roots later)) → length (task_roots later) ≤ length (task_roots task) + 1
    → length (task_roots later) ≤ most_roots → IsSound later → IsFit new (set tasks k later)
closed_fits old new tasks k task at fit later (Ok x) frames back grows small sound =
    call_fits old new tasks k task at fit later (frames_before old new (task_roots task) (task_roots later) small frames) small sound
closed_fits old new tasks k task at fit later (Err e) frames back grows small sound =
    fits_with old new tasks k task at fit later
    (agree_same new _ _ (joined task_roots tasks k later (low old new tasks k task at fit))
    (agrees_nil task_roots old new tasks k task at fit.agree (roots_fit old tasks fit) (task_roots later) grows back)) small sound
