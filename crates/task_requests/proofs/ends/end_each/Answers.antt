use Rattle.std.proofs.Common.{refl, fold, arith}
use Rattle.task_requests.specs.Below.system_meaning.specs.Ends.{ended}
use Rattle.task_requests.proofs.Ending.{one_ended, all_ended}
use Rattle.task_requests.proofs.ends.end_each.Goals as goal

pub loop-task-init : goal.loop-task-init
loop-task-init c = λ m turn h. record { moment = m; stands = h; turn = turn; leads = refl }

pub loop-task-preserved : goal.loop-task-preserved
loop-task-preserved c = λ m turn h.
    one_ended c.loop-task.system c.end.new.self c.args.tasks.now c.loop-task.task-index _ (fold ended m c.args.tasks.now) (omega arith)
    (c.loop-task.invariant m turn h) c.in_ok-end.ensures

pub returns : goal.returns
returns c = λ m turn h.
    all_ended c.loop-task.system c.args.tasks.now c.loop-task.task-index (fold ended m c.args.tasks.now) (omega arith) (c.loop-task.invariant m turn h)
