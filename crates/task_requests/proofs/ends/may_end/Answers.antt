use Rattle.std.proofs.Common.{sym, ◌∙◌}
use Rattle.task_requests.proofs.Ending.{first_may_not, other_may}
use Rattle.task_requests.proofs.ends.may_end.Goals as goal

pub returns-then-first : goal.returns-then-first
returns-then-first c = λ m h. first_may_not c.args.task c.args.other m.system (sym c.is_first-first.ensures ∙ c.if-first.true)

pub returns : goal.returns
returns c = λ m h.
    other_may c.args.task c.args.other m.system c.as_slice.result.now c.is_among.result (sym c.is_first-first.ensures ∙ c.if-first.false)
    (c.as_slice.ensures.value ∙ c.in_ok-family.ensures.family m h) c.is_among.ensures
