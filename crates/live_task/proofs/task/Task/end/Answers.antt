use Rattle.task_job.specs.Here.{nowhere}
use Rattle.live_task.proofs.task.Task.end.Goals as goal

pub returns : goal.returns
returns c = record { frames = c.end.ensures.frames nowhere }
