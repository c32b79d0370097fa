use Rattle.std.proofs.Common.{sym, map, ◌∙◌}
use Rattle.std.proofs.lemmas.List.{at_drop_all}
use Rattle.elan_judge.specs.Shape.{unit, all_empty}
use Rattle.elan_judge.proofs.Rows.{stops, goes_on}
use Rattle.elan_judge.proofs.role.all_empty.Goals as goal

pub returns-then-not-is_empty : goal.returns-then-not-is_empty
returns-then-not-is_empty c =
    λ s. stops s c.args.units.now c.loop-unit.unit-index c.unit-item.result c.loop-unit-test.true c.unit-item.is (c.if-not-is_empty.ensures s)
    (c.loop-unit.invariant s)

pub loop-unit-preserved : goal.loop-unit-preserved
loop-unit-preserved c =
    λ s. goes_on s c.args.units.now c.loop-unit.unit-index c.unit-item.result c.loop-unit-test.true c.unit-item.is (c.if-not-is_empty.ensures s)
    (c.loop-unit.invariant s)

pub returns : goal.returns
returns c = λ s. sym (at_drop_all (λ us. all_empty (map (unit s) us)) c.args.units.now c.loop-unit.unit-index c.loop-unit-test.false) ∙ c.loop-unit.invariant s
