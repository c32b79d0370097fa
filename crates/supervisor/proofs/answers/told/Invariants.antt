use Rattle.std.proofs.Common.{take}
use Rattle.supervisor.specs.Below.system_meaning.specs.Systems.{Moment}
use Rattle.supervisor.specs.Below.system_meaning.specs.Supervisor as spec
use Rattle.supervisor.specs.Below.live_system.specs.Machines.{StandsAt}
use Rattle.supervisor.proofs.answers.told.Given as goal

-- the lines so far are told
abbrev pub invariant-loop-line : goal.invariant-loop-line
invariant-loop-line l = (m : Moment) → StandsAt l.fn.system m → StandsAt l.system (spec.told l.channel (take l.line-index l.lines) m)
