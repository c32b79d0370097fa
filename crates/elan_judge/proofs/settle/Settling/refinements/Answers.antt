use Rattle.std.proofs.Common.{sym, subst, ◌∙◌}
use Rattle.elan_judge.specs.declared.settle.Settling.{Settling}
use Rattle.elan_judge.specs.walks.OnTheWay.{IsOnTheWay, bodies_at}
use Rattle.elan_judge.proofs.Settling.{refined_here}
use Rattle.elan_judge.proofs.settle.Settling.refinements.Goals as goal
use Rattle.elan_judge.proofs.settle.Settling.refinements.Goals.{in-Some+in_ok-refinement, in_default}

pub loop-place-preserved : goal.loop-place-preserved
loop-place-preserved c =
    elim c.match-refinement_with.branch [
      | in-Some+in_ok-refinement w ↦ record {
        scope = w.scope-is ∙ w.in_ok-refinement.ensures.kept ∙ c.loop-place.invariant.scope;
        found = λ l k h.
            subst (λ (z : Settling). IsOnTheWay l z.known) (sym w.self-is)
            (w.in_ok-refinement.ensures.found l (c.loop-place.invariant.found l k h)
            (refined_here (bodies_at l) c.args.scope.now c.loop-place.scope c.args.first c.number_at-number.result c.args.refinements.now
            w.in-Some.refinement.now h w.in-Some.ensures.0 w.in-Some.ensures.1 c.loop-place.invariant.scope));
      }
      | in_default w ↦ record {
        scope = w.scope-is ∙ c.loop-place.invariant.scope;
        found = λ l k h. subst (λ (z : Settling). IsOnTheWay l z.known) (sym w.self-is) (c.loop-place.invariant.found l k h);
      }
    ]
