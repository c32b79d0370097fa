use Rattle.std.proofs.Common.{ℕ, ◌-◌, Bool, List}
use Rattle.task_lines.specs.Below.elan_scope.specs.declared.env.Env.{Env}
use Rattle.task_lines.specs.Below.system_meaning.specs.Systems.{Moment}
use Rattle.task_lines.specs.Below.system_meaning.specs.Monitor.{Reading, drained_in}
use Rattle.task_lines.specs.Below.packet_store.specs.Readings.{IsReading}
use Rattle.live_system.specs.Machines.{StandsAt}
use Rattle.task_lines.proofs.Draining.{Midway}
use Rattle.task_lines.proofs.queue.drain.Given as goal

-- the lines so far led here
abbrev pub invariant-loop-k : goal.invariant-loop-k
invariant-loop-k l =
    (read : Env → Bool → List ℕ → Reading) → IsReading read → (m : Moment) → StandsAt l.fn.system m →
    Midway read l.system l.task (l.most - l.k) (drained_in read l.most l.task m)
