use Rattle.std.proofs.Common.{refl}
use Rattle.task_job.proofs.Standing.{settles}
use Rattle.task_job.proofs.job.Job.settle.Goals as goal

pub returns-in-Ok-clause-settled : goal.returns-in-Ok-clause-settled
returns-in-Ok-clause-settled c kinds command h =
    settles kinds c.args.pool.now c.go_over.new.pool c.args.memory.now c.go_over.new.memory c.args.self command h 0 c.go_over.new.marks
    c.in-Ok._halt c.go_over.new.run c.in-Ok.ensures.rests c.in-Ok.ensures.marks refl

pub returns-in-Ok-clause-sound : goal.returns-in-Ok-clause-sound
returns-in-Ok-clause-sound c = record {
  unit = c.requires.sound.unit;
  fits = c.in-Ok.ensures.fits;
}
