use Rattle.task_texts.proofs.Seen.{none_against, none_told}
use Rattle.task_texts.proofs.entering.can_enter.Goals as goal

pub returns-then-is_idle-clause-can : goal.returns-then-is_idle-clause-can
returns-then-is_idle-clause-can c kinds pages own store idle none h =
    none_told c.entering_refusal.result c.is_none.result c.is_none.ensures
    (none_against kinds pages c.args.task.now own store c.args.name.now c.entering_refusal.result c.entering_refusal.ensures.refusal idle none h)
