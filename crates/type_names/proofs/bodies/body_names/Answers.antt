use Rattle.std.proofs.Common.{List, ◌≡◌, ◌++◌, ap, subst, ◌∙◌}
use Rattle.std.specs.Prelude.{IfOk}
use Rattle.elan_tree.specs.declared.phrase.Unit.{Unit as Statement}
use Rattle.elan_tree.specs.declared.tree.Refinement.{Refinement}
use Rattle.elan_names.specs.declared.type_name.TypeName.{TypeName}
use Rattle.type_names.specs.Declarations.{in_units}
use Rattle.type_names.specs.Bodies.{refinement_names, parameter_names, own_names}
use Rattle.type_names.specs.walks.LevelSeen.{visible, Adds}
use Rattle.type_names.proofs.Named.{then_as, met_is}
use Rattle.type_names.proofs.bodies.body_names.Goals as goal

pub returns : goal.returns
returns c =
    let n = c.new.result in
    let q = c.parameter_names-names.result in
    let m = c.add_units-names.result in
    let fs = c.args.formals.now in
    let b = c.args.body.now in
    let seen = ap (λ (ts : List TypeName). ts ++ n.around.now) c.new.ensures.here ∙ ap (λ (ts : List TypeName). c.args.here.now ++ ts) c.new.ensures.around in
    let units = subst (λ (us : List Statement). Adds (in_units (visible q) us) q m) c.as_slice.ensures c.add_units-names.ensures in
    let rest = subst (λ (rs : List Refinement). Adds (refinement_names (visible m) rs) m c.refinement_names.result) c.as_slice-2.ensures
    c.refinement_names.ensures in
    subst (λ (ts : List TypeName). IfOk c.met.result (λ made. made ≡ parameter_names c.args.around.now fs ++ own_names ts b)) seen
    (subst (λ (ts : List TypeName). IfOk c.met.result (λ made. made ≡ parameter_names ts fs ++ own_names (visible n) b)) c.new.ensures.around
    (met_is (parameter_names n.around.now fs ++ own_names (visible n) b) n c.refinement_names.result c.met.result c.new.ensures.entries
    (then_as (parameter_names n.around.now fs) (λ ts. own_names ts b) n q c.refinement_names.result c.parameter_names-names.ensures
    (then_as (in_units (visible q) b.units) (λ ts. refinement_names ts b.refinements) q m c.refinement_names.result units rest)) c.met.ensures))
