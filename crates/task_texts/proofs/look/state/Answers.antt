use Rattle.std.proofs.Common.{◌∙◌}
use Rattle.std.specs.Prelude.{option_copied}
use Rattle.task_texts.proofs.Seen.{state_seen}
use Rattle.task_texts.proofs.look.state.Goals as goal

pub returns-in-Running : goal.returns-in-Running
returns-in-Running c kinds pages own h =
    c.running_state.ensures
    ∙ state_seen kinds pages c.args.task.now own h c.in-Running.field-0 c.in-Running.is (option_copied c.asked.result)
    (c.asked.ensures.request kinds pages own h)
