use Rattle.std.proofs.Common.{refl, sym, ◌∙◌, subst}
use Rattle.live_task.specs.Stands.{IsSoundDoing}
use Rattle.live_task.specs.declared.task.Doing.{Doing as Does}
use Rattle.live_task.proofs.Tasking.{ended, not_ended}
use Rattle.task_job.specs.Here.{nowhere}
use Rattle.task_job.proofs.Here.{frames_none}
use Rattle.live_task.specs.Below.space_memory.specs.Memories.{roots}
use Rattle.live_task.proofs.task.Task.over.Goals as goal

pub returns-in-Running-clause-ends : goal.returns-in-Running-clause-ends
returns-in-Running-clause-ends c =
    ended c.args.pool.now c.clear_run.new.pool c.args.self.now c.clear_run.new.self c.replace.new.dest c.args.stop c.in-Running.job
    (sym c.replace.ensures.value ∙ c.in-Running.is) c.replace.ensures.after c.clear_run.ensures.cleared
    (c.clear_run.ensures.nothing nowhere) (c.clear_run.ensures.keeps nowhere)

pub returns-in-Running-clause-frames : goal.returns-in-Running-clause-frames
returns-in-Running-clause-frames c = c.clear_run.ensures.frames nowhere

pub returns-in_default : goal.returns-in_default
returns-in_default c =
    let same = c.replace-in_default.ensures.after ∙ c.replace.ensures.value in
    record {
      ends =
          not_ended c.args.pool.now c.args.self.now c.replace-in_default.new.dest c.args.stop same
          (λ job is. c.in_default.not-Running job (sym c.replace-in_default.ensures.after ∙ is));
      sound = λ s. subst (λ (d : Does). IsSoundDoing c.args.self.now.memory d) (sym same) s;
      as_many = refl;
      frames = frames_none c.args.pool.now (roots c.args.self.now.memory);
    }
