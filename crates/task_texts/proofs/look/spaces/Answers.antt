use Rattle.std.proofs.Common.{◌∙◌}
use Rattle.task_texts.proofs.Seen.{many_spaces}
use Rattle.task_texts.proofs.look.spaces.Goals as goal

pub returns-clause-count : goal.returns-clause-count
returns-clause-count c kinds pages own h = c.count.ensures.count ∙ many_spaces kinds pages c.args.task.now own h
