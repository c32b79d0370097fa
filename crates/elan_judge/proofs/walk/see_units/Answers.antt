use Rattle.std.proofs.Common.{◌∙◌}
use Rattle.elan_judge.proofs.Steps.{unit_found}
use Rattle.elan_judge.proofs.walk.see_units.Goals as goal

pub loop-unit-preserved : goal.loop-unit-preserved
loop-unit-preserved g c = record {
  scope = c.in_ok-see_unit.ensures.kept ∙ c.loop-unit.invariant.scope;
  found =
      unit_found g.B.EachBody.after c.args.scope.now c.loop-unit.scope c.args.units.now c.loop-unit.unit-index c.unit-item.result c.loop-unit.number
      c.in_ok-number.number c.loop-unit.looks c.see_unit.new.looks _
      c.loop-unit-test.true c.unit-item.is c.in_ok-number.ensures c.loop-unit.invariant.scope c.in_ok-see_unit.ensures.found c.loop-unit.invariant.found;
}
