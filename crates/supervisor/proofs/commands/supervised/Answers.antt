use Rattle.monitor.specs.declared.commands.Command.TheVariants.{Blank, Begin, Continue, Halt, TaskInfo, StorageInfo, Unknown}
use Rattle.supervisor.proofs.Kept.{on_ok}
use Rattle.supervisor.proofs.Worded.{served, begin_served, continue_served}
use Rattle.supervisor.proofs.commands.supervised.Goals as goal

pub returns-in-Blank : goal.returns-in-Blank
returns-in-Blank c =
    on_ok c.say_supervisor_prompt.result c.say_supervisor_prompt.ensures
    (λ h read reads m stands. served read c.say_supervisor_prompt.new.system c.args.command.now Blank c.args.channel m c.in-Blank.is (h m stands))

pub returns-in-Begin : goal.returns-in-Begin
returns-in-Begin c =
    on_ok c.begin_under.result c.begin_under.ensures
    (λ h read reads m stands. served read c.begin_under.new.system c.args.command.now (Begin c.in-Begin.name c.in-Begin.father) c.args.channel m c.in-Begin.is
    (begin_served c.begin_under.new.system c.as_slice.result.now c.in-Begin.name c.as_slice-in-Begin.result.now c.in-Begin.father
    c.args.channel m c.as_slice.ensures c.as_slice-in-Begin.ensures (h m stands)))

pub returns-in-Continue : goal.returns-in-Continue
returns-in-Continue c =
    on_ok c.continue_named.result c.continue_named.ensures
    (λ h read reads m stands. served read c.continue_named.new.system c.args.command.now (Continue c.in-Continue.name) c.args.channel m c.in-Continue.is
    (continue_served c.continue_named.new.system c.as_slice-in-Continue.result.now c.in-Continue.name c.args.channel m
    c.as_slice-in-Continue.ensures (h m stands)))

pub returns-in-Halt : goal.returns-in-Halt
returns-in-Halt c =
    on_ok c.halt_last.result c.halt_last.ensures
    (λ h read reads m stands. served read c.halt_last.new.system c.args.command.now Halt c.args.channel m c.in-Halt.is (h read reads m stands))

pub returns-in-TaskInfo : goal.returns-in-TaskInfo
returns-in-TaskInfo c =
    on_ok c.tell_tasks.result c.tell_tasks.ensures
    (λ h read reads m stands. served read c.tell_tasks.new.system c.args.command.now TaskInfo c.args.channel m c.in-TaskInfo.is (h m stands))

pub returns-in-StorageInfo : goal.returns-in-StorageInfo
returns-in-StorageInfo c =
    on_ok c.tell_storage.result c.tell_storage.ensures
    (λ h read reads m stands. served read c.tell_storage.new.system c.args.command.now StorageInfo c.args.channel m c.in-StorageInfo.is (h m stands))

pub returns-in-Unknown : goal.returns-in-Unknown
returns-in-Unknown c =
    on_ok c.refused.result c.refused.ensures
    (λ h read reads m stands. served read c.refused.new.system c.args.command.now Unknown c.args.channel m c.in-Unknown.is (h m stands))
