use Rattle.std.proofs.Common.{List, map, ap, ◌∙◌}
use Rattle.elan_tree.specs.declared.phrase.Unit.{Unit as Statement}
use Rattle.elan_scope.specs.declared.delivery.Delivery.TheVariants.{Open}
use Rattle.elan_judge.specs.Shape as shape
use Rattle.elan_judge.specs.Level.{refinement_scope}
use Rattle.type_names.proofs.Scopes.{left_refinement}
use Rattle.elan_judge.proofs.walk.see_refinement.Goals as goal

pub returns-clause-found : goal.returns-clause-found
returns-clause-found g c =
    let n = c.args.number in
    c.in_ok-body.ensures
    ∙ ap (λ (us : List Statement). g.B.EachBody.after c.args.looks.now n (shape.units Open (map (shape.unit (refinement_scope c.args.scope.now n)) us)))
    c.as_slice-units.ensures

pub returns-clause-kept : goal.returns-clause-kept
returns-clause-kept g c = left_refinement c.args.scope.now c.requires
