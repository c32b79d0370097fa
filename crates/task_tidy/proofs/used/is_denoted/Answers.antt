use Rattle.std.proofs.Common.{rules}
use Rattle.task_tidy.specs.Below.space_memory.specs.Memories.{roots}
use Rattle.task_tidy.specs.Below.task_job.proofs.Framed.{holds_there, whole_there}
use Rattle.task_tidy.proofs.used.is_denoted.Goals as goal

pub returns-in-Ok-clause-stands : goal.returns-in-Ok-clause-stands
returns-in-Ok-clause-stands c =
    whole_there c.variables_denote.new.m.pool.now _ (roots c.variables_denote.new.m.memory.now) _ (search rules) (search rules) c.variables_denote.new.m.agree

pub returns-in-Err-NoMemory-clause-stands : goal.returns-in-Err-NoMemory-clause-stands
returns-in-Err-NoMemory-clause-stands c =
    whole_there c.variables_denote.new.m.pool.now _ (roots c.variables_denote.new.m.memory.now) _ (search rules) (search rules) c.variables_denote.new.m.agree

pub returns-in-Ok-clause-kept : goal.returns-in-Ok-clause-kept
returns-in-Ok-clause-kept c cells held =
    holds_there c.variables_denote.new.m.pool.now _ c.variables_denote.new.m.memory.now _ cells (search rules) (search rules)
    (c.in-Ok.ensures.kept cells
    (holds_there c.args.pool.now c.over-lent.result.pool.now c.args.memory.now c.over-lent.result.memory.now cells c.over-lent.ensures.memory_same
    c.over-lent.ensures.pool_same held))
