use Rattle.std.proofs.Common.{ℕ, ◌-◌, Bool, true, List}
use Rattle.system.specs.Below.elan_scope.specs.declared.env.Env.{Env}
use Rattle.system.specs.Below.system_meaning.specs.Systems.{Moment}
use Rattle.system.specs.Below.system_meaning.specs.Monitor.{Reading}
use Rattle.system.specs.Below.packet_store.specs.Readings.{IsReading}
use Rattle.system.specs.Below.system_meaning.specs.Turns.{turns}
use Rattle.system.specs.Systems.{Stands}
use Rattle.system.specs.Leading.{Leads}
use Rattle.system.proofs.Leading.{AreInOrder}
use Rattle.system.proofs.turns.turns.Given as goal

-- the turns so far led here
abbrev pub invariant-loop-k : goal.invariant-loop-k
invariant-loop-k l =
    (read : Env → Bool → List ℕ → Reading) → IsReading read → (m : Moment) → Stands l.fn.system m
    → Leads true AreInOrder l.system (turns read (l.number - l.k)) (turns read l.number m)
