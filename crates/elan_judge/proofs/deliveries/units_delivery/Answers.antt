use Rattle.std.proofs.Common.{◌≡◌, Option, ap, subst}
use Rattle.std.specs.Prelude.{IfOk}
use Rattle.elan_scope.specs.Phrase.{Phrase}
use Rattle.elan_rules.specs.Meaning.{judged}
use Rattle.elan_judge.specs.Shape as shape
use Rattle.elan_judge.specs.walks.Steps.{wanted}
use Rattle.elan_judge.specs.Refinements.{unit_delivery}
use Rattle.elan_judge.proofs.deliveries.units_delivery.Goals as goal

pub returns-in-None : goal.returns-in-None
returns-in-None c = ap (λ (o : Option Phrase). unit_delivery c.args.known.now o) (c.in-None.ensures c.args.scope.now (wanted c.args.wanted))

pub returns-in-Some : goal.returns-in-Some
returns-in-Some c =
    subst (λ (o : Option Phrase). IfOk c.outcome.result (λ d. d ≡ unit_delivery c.args.known.now o)) (c.in-Some.ensures c.args.scope.now (wanted c.args.wanted))
    (c.outcome.ensures (judged c.args.known.now (shape.role (wanted c.args.wanted) (shape.written (shape.unit c.args.scope.now c.in-Some.unit.now))))
    c.judge_role.ensures)
