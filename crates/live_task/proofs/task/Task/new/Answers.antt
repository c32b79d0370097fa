use Rattle.std.proofs.Common.{refl, ap, []}
use Rattle.live_task.specs.Below.page_table.specs.Sharing.{occ}
use Rattle.live_task.specs.Below.space_memory.specs.Memories.{MemoryData, roots}
use Rattle.task_job.specs.Here.{here}
use Rattle.task_job.proofs.Here.{frames_nil}
use Rattle.live_task.proofs.Tasking.{new_stands}
use Rattle.live_task.proofs.task.Task.new.Goals as goal

pub returns-clause-new : goal.returns-clause-new
returns-clause-new c pages known =
    new_stands pages (record { packets = c.new.result; memory = c.new-2.result; doing = _ }) c.new.ensures c.new-2.ensures.empty refl
    (c.new-2.ensures.nothing (here pages) known)

pub returns-clause-frames : goal.returns-clause-frames
returns-clause-frames c pages =
    frames_nil pages [] (roots c.new-2.result) (λ p. refl) (λ p. ap (λ (m : MemoryData). occ p (roots m)) c.new-2.ensures.empty)
