use Rattle.std.proofs.Common.{◌+◌, length, rules}
use Rattle.task_ends.specs.Below.cell_kinds.specs.Kinds.{all_kinds}
use Rattle.zero_machine.specs.Freed.{freed}
use Rattle.task_ends.specs.Below.task_job.proofs.Framed.{holds_there}
use Rattle.task_ends.proofs.behind.free_over.Goals as goal

pub returns-in-Ok-clause-freed : goal.returns-in-Ok-clause-freed
returns-in-Ok-clause-freed c cells held each =
    holds_there c.free_shapes.new.m.pool.now _ c.free_shapes.new.m.memory.now _ (freed c.args.at (c.args.at + length (all_kinds c.args.shapes.now)) cells)
    (search rules) (search rules)
    (c.in-Ok.ensures.freed cells
    (holds_there c.args.pool.now c.over-lent.result.pool.now c.args.memory.now c.over-lent.result.memory.now cells c.over-lent.ensures.memory_same
    c.over-lent.ensures.pool_same held) each)
