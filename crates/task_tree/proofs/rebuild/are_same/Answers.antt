use Rattle.std.proofs.Common.{◌≡◌, true, sym, subst, ◌∙◌}
use Rattle.std.proofs.lemmas.Bool.{false≢true}
use lib.Pointwise.{pointwise}
use Rattle.task_numbers.specs.Numbers.{is_task}
use Rattle.task_tree.proofs.Same.{same_numbers, numbers_alike}
use Rattle.task_tree.proofs.rebuild.are_same.Goals as goal

pub returns-clause-same : goal.returns-clause-same
returns-clause-same c = λ e. same_numbers c.args.tasks.now c.args.others.now (sym c.eq.ensures ∙ e)

pub returns-clause-other : goal.returns-clause-other
returns-clause-other c = λ e same.
    false≢true (sym e ∙ c.eq.ensures ∙ subst (λ us. pointwise is_task c.args.tasks.now us ≡ true) same (numbers_alike c.args.tasks.now))
