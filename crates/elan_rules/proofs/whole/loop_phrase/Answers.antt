use Rattle.std.proofs.Common.{Result, subst}
use Rattle.elan_scope.specs.declared.trouble.Trouble.{Trouble}
use Rattle.elan_scope.specs.Answer.{Is}
use Rattle.elan_scope.specs.Phrase as form
use Rattle.elan_meant.specs.declared.meant.Meant.{Meant}
use Rattle.elan_rules.proofs.Together.{Beside, three_fails, three_is}
use Rattle.elan_rules.proofs.whole.loop_phrase.Goals as goal

pub returns-in-Err : goal.returns-in-Err
returns-in-Err c = λ k w us u h.
    three_fails k c.args.at form.loop w us u c.in-Err.trouble
    (subst (λ (r : Result (Meant × Meant × Meant) Trouble). Is r (Beside k c.args.at form.loop w us u)) c.in-Err.is h)

pub returns-in-Ok : goal.returns-in-Ok
returns-in-Ok c = λ k w us u h.
    three_is k c.args.at form.loop w us u c.repeated.result _
    (subst (λ (r : Result (Meant × Meant × Meant) Trouble). Is r (Beside k c.args.at form.loop w us u)) c.in-Ok.is h) c.repeated.ensures
