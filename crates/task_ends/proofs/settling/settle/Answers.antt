use Rattle.live_task.proofs.Sounding.{sound_heads}
use Rattle.task_ends.proofs.Settled.{settled_so}
use Rattle.task_ends.proofs.settling.settle.Goals as goal

pub returns-clause-settled : goal.returns-clause-settled
returns-clause-settled c =
    settled_so c.free_behind.result c.args.pool.now c.free_behind.new.pool c.args.task.now c.free_behind.new.memory c.args.unit.now
    c.free_behind.ensures.freed

pub returns-clause-sound : goal.returns-clause-sound
returns-clause-sound c = sound_heads c.args.task.now.memory c.free_behind.new.memory c.free_behind.ensures.heads c.args.task.now.doing

pub returns-clause-few : goal.returns-clause-few
returns-clause-few c = c.free_behind.ensures.stands.few
