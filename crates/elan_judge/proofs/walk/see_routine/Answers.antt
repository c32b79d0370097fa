use Rattle.std.proofs.Common.{List, map, ap, ◌∙◌}
use Rattle.elan_tree.specs.declared.phrase.Unit.{Unit as Statement}
use Rattle.elan_tree.specs.declared.tree.Refinement.{Refinement}
use Rattle.elan_scope.specs.declared.delivery.Delivery.{Delivery}
use Rattle.elan_scope.specs.declared.scope.Scope.{Scope}
use Rattle.elan_scope.specs.Known.{delivered}
use Rattle.type_names.specs.Bodies.{body_within, result}
use Rattle.elan_judge.specs.Shape as shape
use Rattle.elan_judge.specs.Level.{all_refined_units}
use Rattle.elan_judge.specs.walks.Seen.{all_seen}
use Rattle.elan_judge.proofs.Steps.{routine_found}
use Rattle.elan_judge.proofs.walk.see_routine.Goals as goal

pub see_refinements-requires : goal.see_refinements-requires
see_refinements-requires g c = ap (λ (z : Scope). z.refinement) c.in_ok-enter.ensures.entered

pub returns-clause-found : goal.returns-clause-found
returns-clause-found g c =
    let s = c.args.scope.now in
    let n = c.args.number in
    let z = c.enter.new.scope in
    let wanted = delivered (result s.types c.args.delivered.now) in
    routine_found g.B.EachBody.after s z n c.in_ok-first.first c.args.delivered.now c.args.formals.now c.args.body.now c.args.looks.now c.body.new.self
    c.see_refinements.new.looks c.in_ok-enter.ensures.entered c.in_ok-first.ensures
    (c.in_ok-body.ensures
    ∙ ap (λ (d : Delivery). g.B.EachBody.after c.args.looks.now n (shape.units d (map (shape.unit z) c.as_slice.result.now)))
    (c.of-wanted.ensures ∙ ap delivered (c.as_ref.ensures.value ∙ c.in_ok-of.ensures))
    ∙ ap (λ (us : List Statement). g.B.EachBody.after c.args.looks.now n (shape.units wanted (map (shape.unit z) us)))
    c.as_slice.ensures)
    (c.in_ok-see_refinements.ensures.found
    ∙ ap (λ (rs : List Refinement). all_seen g.B.EachBody.after c.body.new.self c.in_ok-first.first (all_refined_units z c.in_ok-first.first rs))
    c.as_slice-2.ensures)

pub returns-clause-kept : goal.returns-clause-kept
returns-clause-kept g c =
    let s = c.args.scope.now in
    c.leave.ensures s (body_within s.types c.args.number c.args.formals.now c.args.body.now) c.requires.level c.requires.unit
    (c.in_ok-see_refinements.ensures.kept ∙ c.in_ok-enter.ensures.entered)
