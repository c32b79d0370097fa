use Rattle.task_lines.specs.Below.system_meaning.specs.Monitor.{prompted}
use Rattle.task_lines.proofs.Kept.{on_ok}
use Rattle.task_lines.proofs.ending.rest.Goals as goal

pub returns : goal.returns
returns c =
    on_ok c.drain.result c.drain.ensures
    (λ h read reads m stands. h read reads (prompted c.args.task m) (c.in_ok-prompt.ensures m stands))
