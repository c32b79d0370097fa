use Rattle.std.proofs.Common.{◌≡◌, OnOk, sym, ◌∙◌, subst}
use Rattle.std.proofs.lemmas.Result.{on_ok_weaker}
use Rattle.task_numbers.specs.declared.number.TaskNo.{TaskNo}
use Rattle.terminals.specs.Channels.{channel, with_last}
use Rattle.system_meaning.specs.Systems.{on_system, on_channels, uncouple}
use Rattle.system_meaning.specs.Supervisor.{called}
use Rattle.task_desk.specs.Desks.{Desk, Makes}
use Rattle.task_desk.proofs.Steps.{makes_both, called_nil, called_there}
use Rattle.task_desk.proofs.desk.TaskDesk.call.Goals as goal

pub returns-then-is_nil : goal.returns-then-is_nil
returns-then-is_nil c =
    let there : c.task_of-task.result ≡ (channel c.args.channel c.args.self.now.channels).task =
    subst (λ (d : Desk). c.task_of-task.result ≡ (channel c.args.channel d.channels).task) c.self.view_is c.task_of-task.ensures in
    subst (λ (t : TaskNo). OnOk c.supervisor_prompt.result (Makes (called t c.args.channel) c.args.self.now c.supervisor_prompt.new.self)) there
    (on_ok_weaker c.supervisor_prompt.result
    (called_nil c.task_of-task.result c.args.channel c.args.self.now c.supervisor_prompt.new.self (sym c.is_nil.ensures ∙ c.if-is_nil.true))
    c.supervisor_prompt.ensures)

pub returns : goal.returns
returns c =
    let there : c.task_of-task.result ≡ (channel c.args.channel c.args.self.now.channels).task =
    subst (λ (d : Desk). c.task_of-task.result ≡ (channel c.args.channel d.channels).task) c.self.view_is c.task_of-task.ensures in
    subst (λ (t : TaskNo). OnOk c.uncouple.result (Makes (called t c.args.channel) c.args.self.now c.uncouple.new.self)) there
    (on_ok_weaker c.uncouple.result
    (λ leaves. called_there c.task_of-task.result c.args.channel c.args.self.now c.uncouple.new.self (sym c.is_nil.ensures ∙ c.if-is_nil.false)
    (makes_both (on_system (on_channels (with_last c.args.channel c.task_of-task.result))) (uncouple c.args.channel) c.args.self.now c.set_last.new.self c.uncouple.new.self
    c.set_last.ensures leaves))
    c.uncouple.ensures)
