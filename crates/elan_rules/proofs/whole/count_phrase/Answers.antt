use Rattle.elan_scope.specs.Phrase as form
use Rattle.elan_rules.specs.Meaning.{judged}
use Rattle.elan_rules.proofs.Together.{six_fails, six_is}
use Rattle.elan_rules.proofs.whole.count_phrase.Goals as goal
use Rattle.elan_meant.specs.walks.Arity.{triple}

pub returns-in-Err : goal.returns-in-Err
returns-in-Err c = λ k n f l w us u g h.
    six_fails k c.args.at (form.count c.args.way) n f l w us u c.in-Err.trouble
    (c.in-Err.ensures (triple (judged k n) (judged k f) (judged k l)) (triple (judged k w) (judged k us) (judged k u)) g h)

pub returns-in-Ok : goal.returns-in-Ok
returns-in-Ok c = λ k n f l w us u g h.
    six_is k c.args.at (form.count c.args.way) n f l w us u c.counted.result _
    (c.in-Ok.ensures (triple (judged k n) (judged k f) (judged k l)) (triple (judged k w) (judged k us) (judged k u)) g h) c.counted.ensures
