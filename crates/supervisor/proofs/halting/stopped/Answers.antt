use Rattle.std.proofs.Common.{sym, subst}
use Rattle.supervisor.specs.Below.system_meaning.specs.Tasks.{Idle}
use Rattle.supervisor.specs.Below.system_meaning.specs.Systems.{doing, does, on_system}
use Rattle.supervisor.specs.Below.system_meaning.specs.Supervisor.{halted_by}
use Rattle.supervisor.specs.Below.live_system.specs.Machines.{StandsAt}
use Rattle.supervisor.proofs.Coupled.{is_idle, is_gone, is_entering, is_running}
use Rattle.supervisor.proofs.Kept.{on_ok}
use Rattle.supervisor.proofs.halting.stopped.Goals as goal

pub returns-in-Gone : goal.returns-in-Gone
returns-in-Gone c = λ read reads m stands.
    let is = is_gone (doing c.args.task m.system) (c.in-Gone.ensures m stands) in
    subst (λ d. StandsAt c.args.system.now (halted_by read d c.args.channel c.args.task m)) (sym is) stands

pub returns-in-Idle : goal.returns-in-Idle
returns-in-Idle c =
    on_ok c.say_prompt.result c.say_prompt.ensures
    (λ h read reads m stands.
    let is = is_idle (doing c.args.task m.system) (c.in-Idle.ensures m stands) in
    subst (λ d. StandsAt c.say_prompt.new.system (halted_by read d c.args.channel c.args.task m)) (sym is.1) (h m stands))

pub returns-in_ok-say_prompt-in-Entering : goal.returns-in_ok-say_prompt-in-Entering
returns-in_ok-say_prompt-in-Entering c = λ read reads m stands.
    let is = is_entering (doing c.args.task m.system) (c.in-Entering.ensures m stands) in
    let dropped = on_system (does c.args.task (Idle is.2)) m in
    subst (λ d. StandsAt c.say_prompt-in-Entering.new.system (halted_by read d c.args.channel c.args.task m)) (sym is.3)
    (c.in_ok-say_prompt-in-Entering.ensures dropped (c.drop_text.ensures m is.0 is.1 is.2 is.3 stands))

pub returns-in-Running : goal.returns-in-Running
returns-in-Running c =
    on_ok c.command_halted.result c.command_halted.ensures
    (λ h read reads m stands.
    let is = is_running (doing c.args.task m.system) (c.in-Running.ensures m stands) in
    subst (λ d. StandsAt c.command_halted.new.system (halted_by read d c.args.channel c.args.task m)) (sym is.1)
    (h read reads m is.0 is.1 stands))
