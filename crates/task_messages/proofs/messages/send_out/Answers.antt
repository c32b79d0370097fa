use Rattle.std.proofs.Common.{sym, subst}
use Rattle.eu_base.specs.DataSpaces.{the_space}
use Rattle.task_messages.specs.Below.data_space.specs.Data.{SpaceData}
use Rattle.task_messages.specs.Below.system_meaning.specs.Tasks.{now}
use Rattle.task_messages.specs.Below.task_job.specs.Here.{here}
use Rattle.task_messages.specs.Passing.{Carries}
use Rattle.task_messages.proofs.Passed.{carries, went_out}
use Rattle.task_messages.proofs.messages.send_out.Goals as goal

pub returns-clause-due : goal.returns-clause-due
returns-clause-due c kinds pages own q h asks sends =
    went_out kinds pages c.args.task.now own h c.take.new.self c.args.s q c.take.ensures.forgotten asks sends

pub returns-clause-carries : goal.returns-clause-carries
returns-clause-carries c kinds pages own h =
    subst (λ (d : SpaceData). Carries pages d (the_space c.args.s (now own.doing).spaces)) (sym c.take.ensures.space)
    (carries kinds pages c.args.task.now own h c.args.s c.requires.live)

pub returns-clause-frames : goal.returns-clause-frames
returns-clause-frames c pages = c.take.ensures.frames (here pages)
