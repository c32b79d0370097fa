use Rattle.std.proofs.Common.{◌∙◌, sym}
use Rattle.elan_check.proofs.Over.{over}
use Rattle.elan_check.proofs.Routines.{refinements_go}
use Rattle.elan_check.proofs.routine.judge_refinements.Goals as goal

pub loop-refinement-preserved : goal.loop-refinement-preserved
loop-refinement-preserved c = record {
  scope = c.judge_refinement-next.ensures.kept ∙ c.loop-refinement.invariant.scope;
  row = λ ps h.
      refinements_go c.args.known.now c.loop-refinement.row c.judge_refinement-next.result c.with-row.result c.with-row.ensures c.args.scope.now
      c.loop-refinement.scope c.args.refinements.now c.loop-refinement.refinement-index c.refinement-item.result c.loop-refinement.number c.in-Ok.following
      _
      c.loop-refinement-test.true c.refinement-item.is c.in-Ok.ensures c.loop-refinement.invariant.scope (c.loop-refinement.invariant.row ps h)
      c.judge_refinement-next.ensures.meaning;
}

pub returns-then-is_over-clause-meaning : goal.returns-then-is_over-clause-meaning
returns-then-is_over-clause-meaning c = λ ps h.
    over c.args.known.now c.loop-refinement.row _ _ (c.loop-refinement.invariant.row ps h) (sym c.is_over.ensures ∙ c.if-is_over.true)
