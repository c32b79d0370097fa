use Rattle.std.proofs.Common.{take}
use Rattle.task_lines.specs.Below.system_meaning.specs.Systems.{Moment}
use Rattle.task_lines.specs.Below.system_meaning.specs.Monitor.{names_told}
use Rattle.live_system.specs.Machines.{StandsAt}
use Rattle.task_lines.proofs.idle.tell_each.Given as goal

-- the names so far are told
abbrev pub invariant-loop-name : goal.invariant-loop-name
invariant-loop-name l = (m : Moment) → StandsAt l.fn.system m → StandsAt l.system (names_told l.task (take l.name-index l.names) m)
