use Rattle.std.proofs.Common.{List, ◌≡◌, ◌++◌, ap, subst, ◌∙◌}
use Rattle.std.specs.Prelude.{IfOk}
use Rattle.elan_tree.specs.declared.phrase.Unit.{Unit as Statement}
use Rattle.elan_tree.specs.declared.tree.Refinement.{Refinement}
use Rattle.elan_names.specs.declared.type_name.TypeName.{TypeName}
use Rattle.type_names.specs.Declarations.{in_units}
use Rattle.type_names.specs.Bodies.{refinement_names, own_names}
use Rattle.type_names.specs.walks.LevelSeen.{visible, Adds}
use Rattle.type_names.proofs.Named.{then_as, met_is}
use Rattle.type_names.proofs.bodies.own_names.Goals as goal

pub returns : goal.returns
returns c =
    let n = c.new.result in
    let m = c.add_units-names.result in
    let b = c.args.body.now in
    let seen = ap (λ (ts : List TypeName). ts ++ n.around.now) c.new.ensures.here ∙ ap (λ (ts : List TypeName). c.args.here.now ++ ts) c.new.ensures.around in
    let units = subst (λ (us : List Statement). Adds (in_units (visible n) us) n m) c.as_slice.ensures c.add_units-names.ensures in
    let rest = subst (λ (rs : List Refinement). Adds (refinement_names (visible m) rs) m c.refinement_names.result) c.as_slice-2.ensures
    c.refinement_names.ensures in
    subst (λ (ts : List TypeName). IfOk c.met.result (λ made. made ≡ own_names ts b)) seen
    (met_is (in_units (visible n) b.units ++ refinement_names (visible n) b.refinements) n c.refinement_names.result c.met.result c.new.ensures.entries
    (then_as (in_units (visible n) b.units) (λ ts. refinement_names ts b.refinements) n m c.refinement_names.result units rest) c.met.ensures)
