use Rattle.std.proofs.Common.{◌+◌, List, subst, drop}
use Rattle.elan_tree.specs.declared.phrase.Unit.{Unit as Statement}
use Rattle.elan_tree.specs.declared.tree.Refinement.{Refinement}
use Rattle.elan_walk.proofs.Went.{rest_of}
use Rattle.elan_names.specs.declared.entry.Denotes.TheVariants as denotes
use Rattle.type_names.specs.Declarations.{entry, in_units}
use Rattle.type_names.specs.Bodies.{refinement_names}
use Rattle.type_names.specs.walks.LevelSeen.{visible, Adds}
use Rattle.type_names.proofs.Named.{Rest, as_added, then_as, refined_next}
use Rattle.type_names.proofs.bodies.refinement_names.Goals as goal

pub loop-refinement-preserved : goal.loop-refinement-preserved
loop-refinement-preserved c =
    let begun = c.args.out in
    let s = c.loop-refinement.out in
    let r = c.refinement-item.result in
    let i = c.loop-refinement.refinement-index in
    let rs = c.args.refinements.now in
    let all = refinement_names (visible begun) rs in
    let e = entry r.name denotes.Refinement in
    let units = subst (λ (us : List Statement). Adds (in_units (visible c.add-out.result) us) c.add-out.result c.add_units-out.result) c.as_slice.ensures
    c.add_units-out.ensures in
    refined_next all begun s c.add_units-out.result r (drop (i + 1) rs)
    (subst (λ (qs : List Refinement). Rest (refinement_names (visible begun) qs) all begun s) (rest_of rs i r c.loop-refinement-test.true c.refinement-item.is)
    c.loop-refinement.invariant)
    (then_as e (λ ts. in_units ts r.units) s c.add-out.result c.add_units-out.result (as_added e s c.add-out.result c.add-out.ensures) units)
