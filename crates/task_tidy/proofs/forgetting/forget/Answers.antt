use Rattle.task_tidy.specs.Below.space_memory.specs.Memories.{roots}
use Rattle.task_tidy.specs.Below.task_job.specs.Here.{nowhere}
use Rattle.task_tidy.specs.Below.task_job.proofs.Here.{frames_before}
use Rattle.task_tidy.specs.Below.space_memory.proofs.Framed.{stands_now}
use Rattle.task_tidy.proofs.Keeping.{whole_less}
use Rattle.task_tidy.proofs.forgetting.forget.Goals as goal

pub forget-requires : goal.forget-requires
forget-requires c = record { agree = stands_now c.args.pool.now (roots c.args.memory.now) c.requires.agree }

pub returns-clause-stands : goal.returns-clause-stands
returns-clause-stands c =
    whole_less c.args.pool.now c.forget.new.pool c.args.space.0 c.args.memory.now c.forget.new.self c.forget.ensures.forgotten (c.forget.ensures.frames nowhere)
    c.requires.agree

pub returns-clause-frames : goal.returns-clause-frames
returns-clause-frames c =
    let whole =
    whole_less c.args.pool.now c.forget.new.pool c.args.space.0 c.args.memory.now c.forget.new.self c.forget.ensures.forgotten (c.forget.ensures.frames nowhere)
    c.requires.agree in
    frames_before c.args.pool.now c.forget.new.pool (roots c.args.memory.now) (roots c.forget.new.self) whole.few (c.forget.ensures.frames nowhere)

pub returns-clause-keeps : goal.returns-clause-keeps
returns-clause-keeps c = c.forget.ensures.keeps nowhere
