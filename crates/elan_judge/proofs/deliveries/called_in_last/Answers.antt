use Rattle.std.proofs.Common.{List, ℕ, Option, sym, ap, subst, ◌≡◌, ◌∙◌}
use Rattle.std.specs.Prelude.{IfOk}
use Rattle.elan_scope.specs.Phrase.{Phrase}
use Rattle.elan_judge.specs.walks.Rounds.{called_if}
use Rattle.elan_judge.proofs.Calls.{last_called}
use Rattle.elan_judge.proofs.deliveries.called_in_last.Goals as goal

pub returns-in-None : goal.returns-in-None
returns-in-None c = λ d. c.new.ensures ∙ ap called_if (c.in-None.ensures c.args.scope.now d)

pub returns-in-Some : goal.returns-in-Some
returns-in-Some c = λ d.
    subst (λ (o : Option Phrase). IfOk c.called_in_unit.result (λ called. called ≡ called_if o)) (c.in-Some.ensures c.args.scope.now d)
    (subst (λ (ns : List ℕ). IfOk c.called_in_unit.result (λ called. called ≡ ns)) (sym (last_called c.args.scope.now d c.in-Some.unit.now))
    c.called_in_unit.ensures)
