use Rattle.std.proofs.Common.{◌∙◌}
use Rattle.elan_judge.proofs.Steps.{refinement_found}
use Rattle.elan_judge.proofs.walk.see_refinements.Goals as goal

pub loop-refinement-preserved : goal.loop-refinement-preserved
loop-refinement-preserved g c = record {
  scope = c.in_ok-see_refinement.ensures.kept ∙ c.loop-refinement.invariant.scope;
  found =
      refinement_found g.B.EachBody.after c.args.scope.now c.loop-refinement.scope c.args.refinements.now c.loop-refinement.refinement-index
      c.refinement-item.result c.loop-refinement.number c.in_ok-number.number c.loop-refinement.looks c.see_refinement.new.looks _
      c.loop-refinement-test.true c.refinement-item.is c.in_ok-number.ensures c.loop-refinement.invariant.scope c.in_ok-see_refinement.ensures.found
      c.loop-refinement.invariant.found;
}
