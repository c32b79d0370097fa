use Rattle.std.proofs.Common.{◌-◌}
use Rattle.task_tidy.specs.Below.space_memory.specs.Memories.{roots, StandsWhole}
use Rattle.task_tidy.specs.Below.task_job.specs.Here.{MemoryFrames}
use Rattle.task_tidy.specs.Below.system_meaning.specs.Stores.{Store}
use Rattle.task_tidy.specs.Below.task_job.specs.Standing.{Keeps}
use Rattle.task_tidy.specs.Tidied.{kinds_with, tidied_from}
use Rattle.task_tidy.proofs.forgetting.forget_unused.Given as goal

-- those from this place on are tidied
abbrev pub invariant-loop-done : goal.invariant-loop-done
invariant-loop-done l = record {
  keeps : (store : Store) → Keeps (kinds_with l.packets l.behind) l.fn.pool l.fn.memory store
      → Keeps (kinds_with l.packets l.behind) l.pool l.memory (tidied_from (l.count - l.done) store);
  stands : StandsWhole l.pool (roots l.memory);
  frames : MemoryFrames l.fn.pool l.pool (roots l.fn.memory) (roots l.memory);
}
