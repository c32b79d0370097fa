use Rattle.std.proofs.Common.{◌∙◌}
use Rattle.task_messages.proofs.Passed.{runs_where, lives_alike}
use Rattle.task_messages.proofs.messages.can_send.Goals as goal

pub returns-then-runs-clause-can : goal.returns-then-runs-clause-can
returns-then-runs-clause-can c kinds pages own q h asks live = c.live.ensures ∙ lives_alike kinds pages c.args.task.now own c.args.s h ∙ live

pub returns-else-runs-clause-can : goal.returns-else-runs-clause-can
returns-else-runs-clause-can c kinds pages own q h asks live = c.runs.ensures ∙ runs_where kinds pages c.args.task.now own q h asks
