use Rattle.std.proofs.Common.{sym, subst}
use Rattle.supervisor.specs.Below.message_wait.specs.Rendezvous.{left}
use Rattle.supervisor.specs.Below.slicer.specs.Rotation as rotation
use Rattle.supervisor.specs.Below.system_meaning.specs.Tasks.{ending, world_of}
use Rattle.supervisor.specs.Below.system_meaning.specs.Systems.{doing, on_ready, on_waits, on_system}
use Rattle.supervisor.specs.Below.system_meaning.specs.Monitor.{over}
use Rattle.supervisor.specs.Below.live_system.specs.Finishing.{HasRoom}
use Rattle.supervisor.specs.Below.live_system.specs.Machines.{StandsAt}
use Rattle.supervisor.proofs.Halts.{halted_over, is_halted}
use Rattle.supervisor.proofs.Kept.{on_ok}
use Rattle.supervisor.proofs.halting.command_halted.Goals as goal

pub returns-in-Some : goal.returns-in-Some
returns-in-Some c =
    on_ok c.over.result c.over.ensures
    (λ h read reads m command is stands.
    let out = on_system (on_ready (rotation.without c.args.task)) m in
    let calm = on_system (on_waits (left c.args.task)) out in
    let w = world_of (ending command 0) in
    let done = halted_over c.halt.new.self c.in-Some.finished c.args.task command (doing c.args.task m.system) calm is
    (c.in-Some.ensures calm (c.stop_waiting.ensures out (c.leave.ensures m stands))) in
    subst (λ stop. StandsAt c.over.new.system (over read c.args.task command stop w calm)) done.1
    (h read reads calm command w done.0 done.2 (subst (λ stop. HasRoom stop command) (sym done.1) tt)))

pub returns-in-None : goal.returns-in-None
returns-in-None c = λ read reads m command is stands.
    let out = on_system (on_ready (rotation.without c.args.task)) m in
    let calm = on_system (on_waits (left c.args.task)) out in
    absurd (is_halted c.halt.new.self c.args.task command (doing c.args.task m.system) calm is
    (c.in-None.ensures calm (c.stop_waiting.ensures out (c.leave.ensures m stands))))
