use Rattle.elan_scope.specs.Phrase as form
use Rattle.elan_rules.specs.Meaning.{judged}
use Rattle.elan_rules.proofs.Together.{pair_fails, pair_is}
use Rattle.elan_rules.proofs.whole.assignment_phrase.Goals as goal

pub returns-in-Err : goal.returns-in-Err
returns-in-Err c = λ k p q g h. pair_fails k c.args.at (form.assignment c.args.scope.now c.args.named) p q c.in-Err.trouble (c.in-Err.ensures (judged k p) (judged k q) g h)

pub returns-in-Ok : goal.returns-in-Ok
returns-in-Ok c = λ k p q g h.
    pair_is k c.args.at (form.assignment c.args.scope.now c.args.named) p q c.assignment.result c.in-Ok.left c.in-Ok.right
    (c.in-Ok.ensures (judged k p) (judged k q) g h) c.assignment.ensures
