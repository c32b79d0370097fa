use Rattle.std.proofs.Common.{drop, fold}
use Rattle.task_requests.specs.Below.task_tree.specs.Ends.{EndInTurn}
use Rattle.task_requests.specs.Below.system_meaning.specs.Systems.{Moment}
use Rattle.task_requests.specs.Below.system_meaning.specs.Ends.{ended}
use Rattle.live_system.specs.Machines.{StandsAt}
use Rattle.task_requests.proofs.Ending.{Midway}
use Rattle.task_requests.proofs.ends.end_each.Given as goal

-- those before have ended, and the others can end in turn
abbrev pub invariant-loop-task : goal.invariant-loop-task
invariant-loop-task l = (m : Moment) → EndInTurn l.tasks m.system.shared.tree → StandsAt l.fn.system m
    → Midway l.system (drop l.task-index l.tasks) (fold ended m l.tasks)
