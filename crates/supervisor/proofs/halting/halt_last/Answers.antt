use Rattle.std.proofs.Common.{Some, None}
use Rattle.supervisor.specs.Below.terminals.specs.Channels as channels
use Rattle.supervisor.specs.Below.system_meaning.specs.Supervisor.{halted}
use Rattle.supervisor.proofs.Coupled.{unless_refused}
use Rattle.supervisor.proofs.Kept.{on_ok}
use Rattle.supervisor.proofs.halting.halt_last.Goals as goal

pub returns-in-Some : goal.returns-in-Some
returns-in-Some c =
    on_ok c.refused.result c.refused.ensures
    (λ h read reads m stands.
    unless_refused c.refused.new.system (halted read c.args.channel) c.args.channel c.last_at-task.result
    (channels.channel c.args.channel m.system.shared.channels).last (Some c.in-Some.answer.now) m (c.last_at-task.ensures m stands)
    (c.in-Some.ensures m stands) (h m stands))

pub returns-in-None : goal.returns-in-None
returns-in-None c =
    on_ok c.halted.result c.halted.ensures
    (λ h read reads m stands.
    unless_refused c.halted.new.system (halted read c.args.channel) c.args.channel c.last_at-task.result
    (channels.channel c.args.channel m.system.shared.channels).last None m (c.last_at-task.ensures m stands)
    (c.in-None.ensures m stands) (h read reads m stands))
