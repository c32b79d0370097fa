use Rattle.std.proofs.Common.{◌≡◌, ℕ, Option, Some, OnOk, subst}
use Rattle.terminals.specs.Channels.{channel_of}
use Rattle.system_meaning.specs.Systems.{uncouple_at}
use Rattle.task_desk.specs.Desks.{Desk, Makes}
use Rattle.task_desk.proofs.desk.TaskDesk.uncouple_task.Goals as goal

pub returns-in-Some : goal.returns-in-Some
returns-in-Some c =
    subst (λ (at : Option ℕ). OnOk c.uncouple.result (Makes (uncouple_at at) c.args.self.now c.uncouple.new.self))
    (subst (λ (d : Desk). Some c.in-Some.channel ≡ channel_of c.args.task d.channels) c.self.view_is c.in-Some.ensures.channel) c.uncouple.ensures
