use Rattle.std.proofs.Common.{rules}
use Rattle.code_form.specs.Machine.{made}
use Rattle.space_memory.specs.Memories.{roots}
use Rattle.task_job.proofs.Framed.{holds_there, whole_there}
use Rattle.task_job.proofs.lent.start_over.Goals as goal

pub returns-in-Ok-clause-made : goal.returns-in-Ok-clause-made
returns-in-Ok-clause-made c cells held can =
    holds_there c.start.new.m.pool.now _ c.start.new.m.memory.now _ (made c.args.code.now cells) (search rules) (search rules)
    (c.in-Ok.ensures.made cells
    (holds_there c.args.pool.now c.over-lent.result.pool.now c.args.memory.now c.over-lent.result.memory.now cells c.over-lent.ensures.memory_same
    c.over-lent.ensures.pool_same held) can)

pub returns-in-Ok-clause-stands : goal.returns-in-Ok-clause-stands
returns-in-Ok-clause-stands c =
    whole_there c.start.new.m.pool.now _ (roots c.start.new.m.memory.now) _ (search rules) (search rules) c.start.new.m.agree

pub returns-in-Err-NoMemory-clause-stands : goal.returns-in-Err-NoMemory-clause-stands
returns-in-Err-NoMemory-clause-stands c =
    whole_there c.start.new.m.pool.now _ (roots c.start.new.m.memory.now) _ (search rules) (search rules) c.start.new.m.agree
