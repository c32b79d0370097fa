use Rattle.task_messages.specs.Below.task_job.specs.Here.{here}
use Rattle.task_messages.proofs.Passed.{came_in, if_done}
use Rattle.task_messages.proofs.messages.take_in.Goals as goal

pub returns-clause-due : goal.returns-clause-due
returns-clause-due c =
    if_done c.give.result _ _
    (λ is kinds pages own q content code from number h asks carried.
    came_in kinds pages c.args.task.now own h c.give.new.self c.args.space content q code from number is c.requires.left carried asks)
    c.give.ensures.given

pub returns-clause-frames : goal.returns-clause-frames
returns-clause-frames c = if_done c.give.result _ _ (λ framed pages. framed (here pages)) c.give.ensures.frames
