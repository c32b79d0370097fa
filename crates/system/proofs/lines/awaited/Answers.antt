use Rattle.std.proofs.Common.{sym, ◌∙◌}
use Rattle.system.specs.Below.system_meaning.specs.Systems.{requested}
use Rattle.system.proofs.Kept.{on_ok}
use Rattle.system.proofs.Awaiting.{awaited_so, not_awaited}
use Rattle.system.proofs.lines.awaited.Goals as goal

pub returns-then-awaits_line : goal.returns-then-awaits_line
returns-then-awaits_line c =
    on_ok c.answered.result c.answered.ensures
    (λ f m h. awaited_so c.answered.new.system c.args.task c.args.channel (requested c.args.task m.system) m
    (sym c.if-awaits_line.true ∙ c.awaits_line.ensures m h) (f m h))

pub returns-else-awaits_line : goal.returns-else-awaits_line
returns-else-awaits_line c = λ m h.
    not_awaited c.args.system.now c.args.task c.args.channel (requested c.args.task m.system) m (sym c.if-awaits_line.false ∙ c.awaits_line.ensures m h) h
