use Rattle.std.proofs.Common.{ap, None, Some}
use Rattle.live_task.specs.Below.space_memory.specs.Memories.{roots}
use Rattle.live_task.specs.Below.space_memory.proofs.Framed.{stands_now}
use Rattle.task_job.specs.declared.job.Job.{Job}
use Rattle.live_task.proofs.Sounding.{still_few, over_frames}
use Rattle.live_task.proofs.Tasking.{running, went_marked, went_asks, went_ended, went_stopped, whole_job}
use Rattle.live_task.proofs.task.Task.go_on.Goals as goal

pub over-requires : goal.over-requires
over-requires c = record {
  agree =
      stands_now c.go_on.new.pool (roots c.go_on.new.memory) c.in-Ok-Ended.ensures.stands;
}

pub over-requires-in-Ok-Stopped : goal.over-requires-in-Ok-Stopped
over-requires-in-Ok-Stopped c = record {
  agree =
      stands_now c.go_on.new.pool (roots c.go_on.new.memory) c.in-Ok-Stopped.ensures.stands;
}

pub returns-in-Ok-Marked-clause-went : goal.returns-in-Ok-Marked-clause-went
returns-in-Ok-Marked-clause-went c kinds own h =
    went_marked kinds c.args.pool.now c.go_on.new.pool c.args.self.now c.go_on.new.memory own h c.in-Running.job c.go_on.new.self c.in-Running.is
    c.args.marks.now c.go_on.new.marks c.in-Ok-Marked.field-0 c.in-Ok-Marked.ensures.rests c.in-Ok-Marked.field-0-is

pub returns-in-Ok-Asks-clause-went : goal.returns-in-Ok-Asks-clause-went
returns-in-Ok-Asks-clause-went c kinds own h =
    went_asks kinds c.args.pool.now c.go_on.new.pool c.args.self.now c.go_on.new.memory own h c.in-Running.job c.go_on.new.self c.in-Running.is
    c.args.marks.now c.go_on.new.marks c.in-Ok-Asks.field-0 c.in-Ok-Asks.ensures.rests c.in-Ok-Asks.request c.in-Ok-Asks.field-0-is

pub returns-in-Ok-Ended-clause-went : goal.returns-in-Ok-Ended-clause-went
returns-in-Ok-Ended-clause-went c kinds own h =
    went_ended kinds c.args.pool.now c.go_on.new.pool c.args.self.now c.go_on.new.memory own h c.in-Running.job c.go_on.new.self c.in-Running.is
    c.args.marks.now c.go_on.new.marks c.in-Ok-Ended.field-0 c.in-Ok-Ended.ensures.rests c.over.new.pool c.over.new.self
    c.over.result (ap (λ (j : Job). j.unit) c.in-Ok-Ended.ensures.same) c.in-Ok-Ended.field-0-is c.over.ensures.ends

pub returns-in-Ok-Stopped-clause-went : goal.returns-in-Ok-Stopped-clause-went
returns-in-Ok-Stopped-clause-went c kinds own h =
    went_stopped kinds c.args.pool.now c.go_on.new.pool c.args.self.now c.go_on.new.memory own h c.in-Running.job c.go_on.new.self c.in-Running.is
    c.args.marks.now c.go_on.new.marks c.in-Ok-Stopped.field-0 c.in-Ok-Stopped.ensures.rests c.over-in-Ok-Stopped.new.pool
    c.over-in-Ok-Stopped.new.self c.over-in-Ok-Stopped.result (ap (λ (j : Job). j.unit) c.in-Ok-Stopped.ensures.same) c.in-Ok-Stopped.stop c.in-Ok-Stopped.field-0-is
    c.over-in-Ok-Stopped.ensures.ends

pub returns-in-Ok-Ended-clause-whole : goal.returns-in-Ok-Ended-clause-whole
returns-in-Ok-Ended-clause-whole c =
    whole_job c.go_on.new.pool c.over.new.pool (running c.args.self.now c.go_on.new.memory c.go_on.new.self) c.over.new.self None c.over.result
    c.go_on.new.self c.in-Ok-Ended.ensures.sound c.over.ensures.ends

pub returns-in-Ok-Ended-clause-frames : goal.returns-in-Ok-Ended-clause-frames
returns-in-Ok-Ended-clause-frames c =
    over_frames c.args.pool.now c.go_on.new.pool c.over.new.pool (roots c.args.self.now.memory) (roots c.go_on.new.memory)
    (roots c.over.new.self.memory) c.in-Ok-Ended.ensures.stands c.over.ensures.as_many c.in-Ok-Ended.ensures.frames c.over.ensures.frames

pub returns-in-Ok-Ended-clause-few : goal.returns-in-Ok-Ended-clause-few
returns-in-Ok-Ended-clause-few c =
    still_few c.go_on.new.pool (roots c.go_on.new.memory) (roots c.over.new.self.memory) c.in-Ok-Ended.ensures.stands c.over.ensures.as_many

pub returns-in-Ok-Stopped-clause-whole : goal.returns-in-Ok-Stopped-clause-whole
returns-in-Ok-Stopped-clause-whole c =
    whole_job c.go_on.new.pool c.over-in-Ok-Stopped.new.pool (running c.args.self.now c.go_on.new.memory c.go_on.new.self) c.over-in-Ok-Stopped.new.self (Some c.in-Ok-Stopped.stop) c.over-in-Ok-Stopped.result
    c.go_on.new.self c.in-Ok-Stopped.ensures.sound c.over-in-Ok-Stopped.ensures.ends

pub returns-in-Ok-Stopped-clause-frames : goal.returns-in-Ok-Stopped-clause-frames
returns-in-Ok-Stopped-clause-frames c =
    over_frames c.args.pool.now c.go_on.new.pool c.over-in-Ok-Stopped.new.pool (roots c.args.self.now.memory) (roots c.go_on.new.memory)
    (roots c.over-in-Ok-Stopped.new.self.memory) c.in-Ok-Stopped.ensures.stands c.over-in-Ok-Stopped.ensures.as_many c.in-Ok-Stopped.ensures.frames c.over-in-Ok-Stopped.ensures.frames

pub returns-in-Ok-Stopped-clause-few : goal.returns-in-Ok-Stopped-clause-few
returns-in-Ok-Stopped-clause-few c =
    still_few c.go_on.new.pool (roots c.go_on.new.memory) (roots c.over-in-Ok-Stopped.new.self.memory) c.in-Ok-Stopped.ensures.stands c.over-in-Ok-Stopped.ensures.as_many
