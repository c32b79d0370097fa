use Rattle.std.proofs.Common.{◌≡◌, List, map, ap, sym, ◌∙◌}
use Rattle.elan_tree.specs.declared.phrase.Unit.{Unit as Statement}
use Rattle.elan_scope.specs.declared.delivery.Delivery.TheVariants.{Open}
use Rattle.elan_scope.specs.Known.{delivery_at}
use Rattle.elan_judge.specs.Shape as shape
use Rattle.elan_judge.specs.Level.{refinement_scope, refined_units}
use Rattle.elan_judge.specs.Refinements.{last_unit, unit_delivery}
use Rattle.elan_judge.proofs.OnTheWay.{after_one, not_kept}
use Rattle.elan_judge.proofs.settle.Settling.refinement.Goals as goal

pub returns-clause-found : goal.returns-clause-found
returns-clause-found c = λ w s e.
    let k = c.args.self.now.known in
    let n = c.args.number in
    let z = refinement_scope c.args.scope.now n in
    let nothing : delivery_at k n ≡ Open = not_kept (delivery_at k n) _ (sym c.is_kept.ensures ∙ c.if-is_kept.false) in
    let found : c.in_ok-delivery.delivery ≡ unit_delivery k (last_unit (refined_units c.args.scope.now n c.args.refinement.now)) =
    c.in_ok-delivery.ensures
    ∙ ap (λ (us : List Statement). unit_delivery k (last_unit (shape.units Open (map (shape.unit z) us)))) c.as_slice-units.ensures in
    after_one w k s n (refined_units c.args.scope.now n c.args.refinement.now) e nothing c.in_ok-delivery.delivery found c.put.new.deliveries c.put.ensures
