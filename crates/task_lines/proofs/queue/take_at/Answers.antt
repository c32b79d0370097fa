use Rattle.terminals.specs.Channels.{unqueued}
use Rattle.task_lines.specs.Below.system_meaning.specs.Systems.{on_system, on_channels}
use Rattle.task_lines.proofs.Draining.{none_waits, one_waits}
use Rattle.task_lines.proofs.queue.take_at.Goals as goal

pub returns-in-None : goal.returns-in-None
returns-in-None c = λ read reads m stands.
    none_waits read c.args.task c.args.channel m c.unqueue.new.self (c.in-None.ensures.line m stands) (c.in-None.ensures.taken m stands)

pub returns-in_ok-take-in-Some : goal.returns-in_ok-take-in-Some
returns-in_ok-take-in-Some c = λ read reads m stands.
    one_waits read c.args.task c.args.channel m c.take.new.system c.in-Some.line (c.in-Some.ensures.line m stands)
    (c.in_ok-take-in-Some.ensures read reads (on_system (on_channels (unqueued c.args.channel)) m) c.in-Some.ensures.short (c.in-Some.ensures.taken m stands))
