use Rattle.task_job.specs.Below.cell_kinds.specs.Kinds.{packet_kinds}
use Rattle.space_memory.specs.Memories.{roots}
use Rattle.task_job.proofs.Here.{memory_frames_then}
use Rattle.system_meaning.specs.Tasks.{starting}
use Rattle.task_job.proofs.Standing.{if_given, starts}
use Rattle.task_job.proofs.job.Job.of.Goals as goal

pub settle-requires : goal.settle-requires
settle-requires c = record {
  sound = record { unit = c.requires.unit; fits = c.in-Ok.ensures.fits };
  agree = c.in-Ok.ensures.stands;
}

pub returns-in-Ok-clause-starts : goal.returns-in-Ok-clause-starts
returns-in-Ok-clause-starts c =
    if_given c.settle.result _ _
    (λ job settled store i h.
    settled (packet_kinds c.args.unit.core.packets) (starting c.args.unit store)
    (starts c.args.pool.now c.start_over.new.pool c.args.memory.now c.start_over.new.memory c.args.unit c.args.code c.in-Ok.run' store
    i h c.in-Ok.ensures.run c.in-Ok.ensures.made c.in-Ok.ensures.heads)) c.settle.ensures.settled

pub returns-in-Ok-clause-frames : goal.returns-in-Ok-clause-frames
returns-in-Ok-clause-frames c =
    memory_frames_then c.args.pool.now c.start_over.new.pool c.settle.new.pool (roots c.args.memory.now) (roots c.start_over.new.memory)
    (roots c.settle.new.memory) c.in-Ok.ensures.frames c.settle.ensures.frames
