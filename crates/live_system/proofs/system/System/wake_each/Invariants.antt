use Rattle.std.proofs.Common.{take}
use Rattle.live_system.specs.Below.system_meaning.specs.Systems.{Moment}
use Rattle.live_system.specs.Steps.{woken_each}
use Rattle.live_system.specs.Machines.{StandsAt}
use Rattle.live_system.proofs.system.System.wake_each.Given as goal

-- those before are told
abbrev pub invariant-loop-task : goal.invariant-loop-task
invariant-loop-task l = (m : Moment) → StandsAt l.fn.self m → StandsAt l.self (woken_each (take l.task-index l.tasks) m)
