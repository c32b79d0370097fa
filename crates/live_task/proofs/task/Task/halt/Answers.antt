use Rattle.eu_base.specs.declared.stop.Stop.TheVariants.{Halted}
use Rattle.std.proofs.Common.{Some}
use Rattle.live_task.proofs.Tasking.{halts_so, whole}
use Rattle.live_task.proofs.task.Task.halt.Goals as goal

pub returns-clause-halted : goal.returns-clause-halted
returns-clause-halted c kinds own h =
    halts_so kinds c.args.pool.now c.over.new.pool c.args.self.now c.over.new.self own c.over.result h c.over.ensures.ends

pub returns-clause-whole : goal.returns-clause-whole
returns-clause-whole c =
    whole c.args.pool.now c.over.new.pool c.args.self.now c.over.new.self (Some Halted) c.over.result c.requires.sound c.over.ensures.ends
