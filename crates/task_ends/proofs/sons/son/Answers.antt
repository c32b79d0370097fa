use Rattle.std.proofs.Common.{◌∙◌}
use Rattle.live_task.proofs.Carried.{stands_kept}
use Rattle.task_ends.specs.Below.task_job.proofs.Here.{keeps_none}
use Rattle.task_ends.specs.Below.space_memory.specs.Memories.{roots}
use Rattle.task_ends.specs.Refused.{Refused}
use Rattle.task_ends.proofs.Pages.{on_err, refused_none}
use Rattle.task_ends.proofs.Heirs.{son_stands}
use Rattle.task_ends.proofs.sons.son.Goals as goal

pub returns-clause-son : goal.returns-clause-son
returns-clause-son c kinds own h =
    son_stands kinds c.args.pool.now c.son_memory.new.pool c.args.task.now c.in_ok-packets.packets c.in_ok-memory.memory own h
    (c.in_ok-packets.ensures ∙ c.as_slice.ensures) (c.in_ok-memory.ensures.keeps kinds own h)

pub returns-clause-father : goal.returns-clause-father
returns-clause-father c kinds own h =
    stands_kept kinds c.args.pool.now c.son_memory.new.pool c.args.task.now own c.in_ok-memory.ensures.kept h

pub returns-in_err-memory-clause-father : goal.returns-in_err-memory-clause-father
returns-in_err-memory-clause-father c kinds own h =
    stands_kept kinds c.args.pool.now c.son_memory.new.pool c.args.task.now own c.in_err-memory.ensures.kept h

pub returns-in_err-packets-clause-err : goal.returns-in_err-packets-clause-err
returns-in_err-packets-clause-err c =
    on_err c.from_residual.result (Refused c.args.pool.now c.args.pool.now (roots c.args.task.now.memory) 18)
    (refused_none c.args.pool.now (roots c.args.task.now.memory) 18)
