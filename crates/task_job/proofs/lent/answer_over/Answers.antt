use Rattle.std.proofs.Common.{rules}
use Rattle.space_memory.specs.Memories.{roots}
use Rattle.task_job.proofs.Framed.{holds_there, whole_there}
use Rattle.task_job.proofs.lent.answer_over.Goals as goal

pub returns-in-Ok-clause-kept : goal.returns-in-Ok-clause-kept
returns-in-Ok-clause-kept c cells held =
    holds_there c.answer.new.m.pool.now _ c.answer.new.m.memory.now _ cells (search rules) (search rules)
    (c.answer.ensures.kept cells
    (holds_there c.args.pool.now c.over-lent.result.pool.now c.args.memory.now c.over-lent.result.memory.now cells c.over-lent.ensures.memory_same
    c.over-lent.ensures.pool_same held))

pub returns-in-Err-NoMemory-clause-kept : goal.returns-in-Err-NoMemory-clause-kept
returns-in-Err-NoMemory-clause-kept c cells held =
    holds_there c.answer.new.m.pool.now _ c.answer.new.m.memory.now _ cells (search rules) (search rules)
    (c.answer.ensures.kept cells
    (holds_there c.args.pool.now c.over-lent.result.pool.now c.args.memory.now c.over-lent.result.memory.now cells c.over-lent.ensures.memory_same
    c.over-lent.ensures.pool_same held))

pub returns-in-Ok-clause-stands : goal.returns-in-Ok-clause-stands
returns-in-Ok-clause-stands c =
    whole_there c.answer.new.m.pool.now _ (roots c.answer.new.m.memory.now) _ (search rules) (search rules) c.answer.new.m.agree

pub returns-in-Err-NoMemory-clause-stands : goal.returns-in-Err-NoMemory-clause-stands
returns-in-Err-NoMemory-clause-stands c =
    whole_there c.answer.new.m.pool.now _ (roots c.answer.new.m.memory.now) _ (search rules) (search rules) c.answer.new.m.agree
