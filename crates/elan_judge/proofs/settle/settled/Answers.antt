use Rattle.std.proofs.Common.{◌≡◌, sym, ap, subst, ◌∙◌}
use Rattle.elan_scope.specs.declared.known.Known.{Known}
use Rattle.elan_scope.specs.declared.scope.Scope.{Scope}
use Rattle.elan_tree.specs.declared.tree.Level.{Level}
use Rattle.elan_judge.specs.Level.{level_bodies}
use Rattle.elan_judge.specs.Refinements.{known_after}
use Rattle.elan_judge.specs.walks.OnTheWay.{IsOnTheWay, bodies_at}
use Rattle.elan_judge.proofs.OnTheWay.{start}
use Rattle.elan_judge.proofs.settle.settled.Goals as goal

pub returns-in-Ok-clause-found : goal.returns-in-Ok-clause-found
returns-in-Ok-clause-found c = λ w es el.
    let known : c.args.known ≡ known_after 0 w.scope.headings (bodies_at w) =
    c.requires.known ∙ ap (λ (z : Scope). known_after 0 z.headings (level_bodies z c.args.level.now)) (sym es)
    ∙ ap (λ (l : Level). known_after 0 w.scope.headings (level_bodies w.scope l)) (sym el) in
    c.in-Ok.ensures.found w es el (subst (λ (k : Known). IsOnTheWay w k) (sym known) (start w))
