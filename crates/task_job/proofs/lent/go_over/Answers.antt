use Rattle.std.proofs.Common.{rules}
use Rattle.space_memory.specs.Memories.{roots}
use Rattle.task_job.proofs.Framed.{holds_there, whole_there, rests_there, so_there}
use Rattle.task_job.proofs.lent.go_over.Goals as goal

pub returns-in-Ok-clause-rests : goal.returns-in-Ok-clause-rests
returns-in-Ok-clause-rests c cells r held rests =
    so_there c.go.new.m.pool.now _ c.go.new.m.memory.now _ c.in-Ok.halt c.go.new.self c.go.new.marks r (search rules) (search rules)
    (c.in-Ok.ensures.rests cells r
    (holds_there c.args.pool.now c.over-lent.result.pool.now c.args.memory.now c.over-lent.result.memory.now cells c.over-lent.ensures.memory_same
    c.over-lent.ensures.pool_same held)
    (rests_there c.args.code.now c.args.run.now c.args.memory.now c.over-lent.result.memory.now cells c.args.marks.now r c.over-lent.ensures.memory_same
    rests))

pub returns-in-Ok-clause-stands : goal.returns-in-Ok-clause-stands
returns-in-Ok-clause-stands c =
    whole_there c.go.new.m.pool.now _ (roots c.go.new.m.memory.now) _ (search rules) (search rules) c.go.new.m.agree

pub returns-in-Err-NoMemory-clause-stands : goal.returns-in-Err-NoMemory-clause-stands
returns-in-Err-NoMemory-clause-stands c =
    whole_there c.go.new.m.pool.now _ (roots c.go.new.m.memory.now) _ (search rules) (search rules) c.go.new.m.agree
