use Rattle.std.proofs.Common.{sym, ◌∙◌}
use Rattle.live_system.proofs.Whats.{idle_is, entering_is, running_is}
use Rattle.live_system.proofs.looks.what_at.Goals as goal

pub returns-then-is_idle : goal.returns-then-is_idle
returns-then-is_idle c = λ kinds_of owns own stand has.
    idle_is own.doing (sym (c.is_idle.ensures kinds_of owns own stand has) ∙ c.if-is_idle.true)

pub returns-then-is_entering : goal.returns-then-is_entering
returns-then-is_entering c = λ kinds_of owns own stand has.
    entering_is own.doing (sym (c.is_entering.ensures kinds_of owns own stand has) ∙ c.if-is_entering.true)

pub returns-else-is_entering : goal.returns-else-is_entering
returns-else-is_entering c = λ kinds_of owns own stand has.
    running_is own.doing (sym (c.is_idle.ensures kinds_of owns own stand has) ∙ c.if-is_idle.false)
    (sym (c.is_entering.ensures kinds_of owns own stand has) ∙ c.if-is_entering.false)
