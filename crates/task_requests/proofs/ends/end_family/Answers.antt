use Rattle.std.proofs.Common.{◌∙◌}
use Rattle.task_requests.proofs.Ending.{family_ended}
use Rattle.task_requests.proofs.ends.end_family.Goals as goal

pub returns : goal.returns
returns c = λ m live other h.
    family_ended c.args.system.now c.end_each.new.system c.args.task c.as_slice.result.now m (c.as_slice.ensures.value ∙ c.in_ok-family.ensures.family m h)
    (c.in_ok-family.ensures.tree m h) live other h c.in_ok-end_each.ensures
