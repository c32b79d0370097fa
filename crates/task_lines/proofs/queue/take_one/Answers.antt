use Rattle.std.proofs.Common.{sym, ◌∙◌}
use Rattle.task_lines.proofs.Kept.{if_ok}
use Rattle.task_lines.proofs.Draining.{one_runs, one_apart, one_at}
use Rattle.task_lines.proofs.queue.take_one.Goals as goal

pub returns-then-runs : goal.returns-then-runs
returns-then-runs c = λ read reads m stands.
    one_runs read c.args.task m c.args.system.now (sym c.if-runs.true ∙ c.runs.ensures m stands) stands

pub returns-in-None : goal.returns-in-None
returns-in-None c = λ read reads m stands.
    one_apart read c.args.task m c.args.system.now (sym c.if-runs.false ∙ c.runs.ensures m stands) (c.in-None.ensures.channel m stands) stands

pub returns-in-Some : goal.returns-in-Some
returns-in-Some c =
    if_ok c.take_at.result _ _
    (λ took follows read reads m stands.
    one_at read c.args.task m c.take_at.new.system took c.in-Some.channel (sym c.if-runs.false ∙ c.runs.ensures m stands)
    (c.in-Some.ensures.channel m stands) (follows read reads m stands))
    c.take_at.ensures
