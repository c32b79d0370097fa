use Rattle.std.proofs.Common.{sym, ◌∙◌}
use Rattle.live_task.proofs.Tasking.{asks_it, asks_none}
use Rattle.live_task.proofs.task.Task.asked.Goals as goal

pub returns-in-Running-clause-request : goal.returns-in-Running-clause-request
returns-in-Running-clause-request c kinds pages own h =
    c.asked.ensures ∙ sym (asks_it kinds pages c.args.self.now own h c.in-Running.job c.in-Running.is)
