use Rattle.std.proofs.Common.{◌≡◌, map, take}
use Rattle.supervisor.specs.Below.system_meaning.specs.Systems.{Moment}
use Rattle.supervisor.specs.Below.system_meaning.specs.Supervisor as spec
use Rattle.supervisor.specs.Below.live_system.specs.Machines.{StandsAt}
use Rattle.supervisor.proofs.info.task_info.Given as goal

-- there is a line for each task so far
abbrev pub invariant-loop-entry : goal.invariant-loop-entry
invariant-loop-entry l =
    (m : Moment) → StandsAt l.system m → l.lines ≡ map (spec.info_line m.system) (take l.entry-index l.entry-items)
