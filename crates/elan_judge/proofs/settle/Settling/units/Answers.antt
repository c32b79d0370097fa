use Rattle.std.proofs.Common.{◌∙◌}
use Rattle.elan_judge.specs.walks.OnTheWay.{bodies_at}
use Rattle.elan_judge.proofs.Settling.{unit_here, units_behind}
use Rattle.elan_judge.proofs.settle.Settling.units.Goals as goal

pub loop-unit-preserved : goal.loop-unit-preserved
loop-unit-preserved c = record {
  scope = c.in_ok-unit.ensures.kept ∙ c.loop-unit.invariant.scope;
  found = λ w s h.
      let i = c.loop-unit.invariant.found w s h in (
        c.in_ok-unit.ensures.found w i.0
            (unit_here (bodies_at w) c.args.scope.now c.loop-unit.scope c.loop-unit.number c.in_ok-number.number c.args.units.now c.loop-unit.unit-index
            c.unit-item.result c.loop-unit-test.true c.unit-item.is c.loop-unit.invariant.scope i.1),
        units_behind (bodies_at w) c.args.scope.now c.loop-unit.scope c.loop-unit.number c.in_ok-number.number c.args.units.now c.loop-unit.unit-index
            c.unit-item.result c.loop-unit-test.true c.unit-item.is c.loop-unit.invariant.scope i.1 c.in_ok-number.ensures,
      );
}
