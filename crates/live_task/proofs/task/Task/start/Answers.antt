use Rattle.live_task.specs.Below.cell_kinds.specs.Kinds.{packet_kinds}
use Rattle.std.proofs.Common.{sym, subst}
use Rattle.live_task.specs.Below.system_meaning.specs.Tasks.{Running, starting, with_doing}
use Rattle.live_task.specs.Stands.{StandsFor}
use Rattle.live_task.specs.declared.task.Doing.{Doing as Does}
use Rattle.live_task.proofs.Tasking.{started}
use Rattle.live_task.proofs.task.Task.start.Goals as goal

pub returns-in-Ok-clause-starts : goal.returns-in-Ok-clause-starts
returns-in-Ok-clause-starts c own store i is h =
    subst
    (λ (d : Does). StandsFor (packet_kinds c.args.unit.core.packets) c.of.new.pool (record c.args.self.now { memory = c.of.new.memory; doing = d })
    (with_doing (Running (starting c.args.unit store)) own))
    (sym c.replace.ensures.after)
    (started (packet_kinds c.args.unit.core.packets) c.args.pool.now c.of.new.pool c.args.self.now c.of.new.memory own store c.in-Ok.job
    (starting c.args.unit store) h is (c.in-Ok.ensures.starts store i))

pub returns-in-Ok-clause-few : goal.returns-in-Ok-clause-few
returns-in-Ok-clause-few c = c.in-Ok.ensures.stands.few
