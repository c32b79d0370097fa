use Rattle.std.proofs.Common.{◌∙◌, sym}
use Rattle.elan_check.proofs.Over.{over}
use Rattle.elan_check.proofs.Routines.{units_go}
use Rattle.elan_check.proofs.level.judge_level_units.Goals as goal

pub loop-unit-preserved : goal.loop-unit-preserved
loop-unit-preserved c = record {
  scope = c.judge_level_unit-next.ensures.kept ∙ c.loop-unit.invariant.scope;
  row = λ ps h.
      units_go c.args.known.now c.loop-unit.row c.judge_level_unit-next.result c.with-row.result c.with-row.ensures c.args.scope.now c.loop-unit.scope
      c.args.units.now c.loop-unit.unit-index c.unit-item.result c.loop-unit.number c.in-Ok.following _
      c.loop-unit-test.true c.unit-item.is c.in-Ok.ensures c.loop-unit.invariant.scope (c.loop-unit.invariant.row ps h) c.judge_level_unit-next.ensures.meaning;
}

pub returns-then-is_over-clause-meaning : goal.returns-then-is_over-clause-meaning
returns-then-is_over-clause-meaning c = λ ps h.
    over c.args.known.now c.loop-unit.row _ _ (c.loop-unit.invariant.row ps h) (sym c.is_over.ensures ∙ c.if-is_over.true)
