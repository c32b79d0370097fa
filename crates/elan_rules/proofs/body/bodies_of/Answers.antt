use Rattle.std.proofs.Common.{◌≡◌, ◌++◌, ◌∙◌, IfOk, List, ap, sym, subst}
use Rattle.elan_types.specs.declared.core_phrase.Body.{Body}
use Rattle.elan_rules.specs.Units.{bodies_of}
use Rattle.elan_rules.proofs.Lists.{bodies_push}
use Rattle.elan_rules.proofs.body.bodies_of.Goals as goal

pub loop-part-preserved : goal.loop-part-preserved
loop-part-preserved c =
    subst (λ (l : List Body). IfOk c.appended-bodies.result (λ (x : List Body). x ≡ l))
    (ap (λ (m : List Body). bodies_of c.loop-part.yielded ++ m) c.bodies_in.ensures ∙ sym (bodies_push c.loop-part.yielded c.in-Some.part))
    (c.appended-bodies.ensures (bodies_of c.loop-part.yielded) c.loop-part.invariant)
