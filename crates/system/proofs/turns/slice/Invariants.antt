use Rattle.std.proofs.Common.{ℕ, ◌-◌, Bool, true, List}
use Rattle.system.specs.Below.elan_scope.specs.declared.env.Env.{Env}
use Rattle.system.specs.Below.system_meaning.specs.Systems.{Moment}
use Rattle.system.specs.Below.system_meaning.specs.Monitor.{Reading}
use Rattle.system.specs.Below.packet_store.specs.Readings.{IsReading}
use Rattle.system.specs.Below.system_meaning.specs.Turns.{slice}
use Rattle.system.specs.Below.live_system.specs.Machines.{StandsAt}
use Rattle.turn_laws.specs.Waits.{HasTurn}
use Rattle.system.specs.Leading.{Leads, TurnGoes}
use Rattle.system.proofs.turns.slice.Given as goal

-- the evaluations so far led here
abbrev pub invariant-loop-k : goal.invariant-loop-k
invariant-loop-k l =
    (read : Env → Bool → List ℕ → Reading) → IsReading read → (m : Moment) → HasTurn l.task m.system → StandsAt l.fn.system m
    → Leads true (TurnGoes l.task true) l.system (slice read (l.most - l.k) l.task l.left) (slice read l.most l.task l.marks m)
