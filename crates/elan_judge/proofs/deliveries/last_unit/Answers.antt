use Rattle.std.proofs.Common.{◌≡◌, true, false, ap, sym, map, ◌∙◌}
use Rattle.std.specs.Prelude.{option_map}
use Rattle.std.proofs.lemmas.List.{at_drop_all}
use Rattle.elan_judge.specs.Shape as shape
use Rattle.elan_judge.specs.walks.Steps.{is_empty}
use Rattle.elan_judge.specs.Refinements.{last_unit}
use Rattle.elan_judge.proofs.Lasts.{last_goes, last_behind, no_other}
use Rattle.elan_judge.proofs.deliveries.last_unit.Goals as goal
use Rattle.elan_judge.proofs.deliveries.last_unit.Goals.{then-not-is_empty, else-not-is_empty}

pub loop-unit-init : goal.loop-unit-init
loop-unit-init c = λ s d. no_other (last_unit (shape.units d (map (shape.unit s) c.args.units.now)))

pub loop-unit-preserved : goal.loop-unit-preserved
loop-unit-preserved c = λ s d.
    elim c.if-not-is_empty.branch [
      | then-not-is_empty w ↦ (let e : false ≡ is_empty (shape.unit s c.unit-item.result) = cc (c.is_empty.ensures s) in
          last_goes d s c.args.units.now c.loop-unit.unit-index c.unit-item.result c.loop-unit-test.true c.unit-item.is _ _ _ false e
          (ap (λ o. option_map (λ u. shape.role d (shape.written (shape.unit s u.now))) o) w.last-is) (c.loop-unit.invariant s d))
      | else-not-is_empty w ↦ (let e : true ≡ is_empty (shape.unit s c.unit-item.result) = cc (c.is_empty.ensures s) in
          last_goes d s c.args.units.now c.loop-unit.unit-index c.unit-item.result c.loop-unit-test.true c.unit-item.is _ _ _ true e
          (ap (λ o. option_map (λ u. shape.role d (shape.written (shape.unit s u.now))) o) w.last-is) (c.loop-unit.invariant s d))
    ]

pub returns : goal.returns
returns c = λ s d.
    sym (at_drop_all (λ us. last_behind d (option_map (λ u. shape.role d (shape.written (shape.unit s u.now))) c.loop-unit.last) (map (shape.unit s) us))
    c.args.units.now c.loop-unit.unit-index c.loop-unit-test.false)
    ∙ c.loop-unit.invariant s d
