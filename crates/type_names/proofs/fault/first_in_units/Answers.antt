use Rattle.std.proofs.Common.{◌+◌, sym, ◌∙◌, drop}
use Rattle.elan_walk.proofs.Went.{rest_of}
use Rattle.type_names.specs.Faults.{unit_faults, first_fault}
use Rattle.std.specs.Prelude.{flat_map}
use Rattle.type_names.proofs.Searched.{some_turn, none_turn}
use Rattle.type_names.proofs.fault.first_in_units.Goals as goal

pub returns-in-Some : goal.returns-in-Some
returns-in-Some c =
    λ ds e.
    some_turn (unit_faults c.args.level.around.first c.args.level.around.names.now ds c.args.level.refined.now) (drop c.loop-unit.unit-index c.args.units.now)
    (drop (c.loop-unit.unit-index + 1) c.args.units.now) c.unit-item.result
    c.in-Some.fault (first_fault (flat_map (unit_faults c.args.level.around.first c.args.level.around.names.now ds c.args.level.refined.now) c.args.units.now))
    (rest_of c.args.units.now c.loop-unit.unit-index c.unit-item.result c.loop-unit-test.true c.unit-item.is)
    (sym c.in-Some.is ∙ c.in_ok-fault.ensures ds e) (c.loop-unit.invariant ds e)

pub loop-unit-preserved : goal.loop-unit-preserved
loop-unit-preserved c =
    λ ds e.
    none_turn (unit_faults c.args.level.around.first c.args.level.around.names.now ds c.args.level.refined.now) (drop c.loop-unit.unit-index c.args.units.now)
    (drop (c.loop-unit.unit-index + 1) c.args.units.now) c.unit-item.result
    (first_fault (flat_map (unit_faults c.args.level.around.first c.args.level.around.names.now ds c.args.level.refined.now) c.args.units.now))
    (rest_of c.args.units.now c.loop-unit.unit-index c.unit-item.result c.loop-unit-test.true c.unit-item.is)
    (sym c.in-None.is ∙ c.in_ok-fault.ensures ds e) (c.loop-unit.invariant ds e)
