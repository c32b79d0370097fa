use Rattle.std.proofs.Common.{sym, ◌∙◌, true≢false}
use Rattle.task_texts.proofs.entering.enter.Goals as goal

pub returns-then-not-can_enter-clause-entered : goal.returns-then-not-can_enter-clause-entered
returns-then-not-can_enter-clause-entered c kinds pages own store idle none h =
    absurd (true≢false (sym (c.can_enter.ensures.can kinds pages own store idle none h) ∙ c.if-not-can_enter.true))
