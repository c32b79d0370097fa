use Rattle.task_job.proofs.Standing.{rests_for}
use Rattle.task_job.proofs.job.Job.go_on.Goals as goal

pub returns-clause-rests : goal.returns-clause-rests
returns-clause-rests c kinds command h =
    rests_for kinds c.args.pool.now c.go_over.new.pool c.args.memory.now c.go_over.new.memory c.args.self.now command h.reaches c.args.marks.now
    c.go_over.new.marks c.in_ok-halt.halt c.go_over.new.run c.in_ok-halt.ensures.rests c.in_ok-halt.ensures.marks

pub returns-clause-sound : goal.returns-clause-sound
returns-clause-sound c = record {
  unit = c.requires.sound.unit;
  fits = c.in_ok-halt.ensures.fits;
}
