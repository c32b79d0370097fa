use Rattle.std.proofs.Common.{List, [], ◌++◌, refl, subst}
use Rattle.elan_tree.specs.declared.phrase.Unit.{Unit}
use Rattle.elan_tree.specs.declared.tree.Refinement.{Refinement}
use Rattle.elan_walk.specs.Nodes as nodes
use Rattle.elan_walk.proofs.Went.{two}
use Rattle.type_names.specs.Faults.{nodes_faults}
use Rattle.type_names.specs.walks.Seen.{searched, plainly, Finds}
use Rattle.type_names.proofs.Searched.{is_wanted, met_found}
use Rattle.type_names.proofs.fault.units_fault.Goals as goal

pub returns : goal.returns
returns c =
    let us = c.as_slice.result.now in
    let rs = c.as_slice-2.result.now in
    subst (λ (vs : List Unit). Finds (nodes_faults (plainly c.args.here.now c.args.around.now [])
    (nodes.in_units vs ++ nodes.refinements c.args.body.now.refinements)) c.met.result) c.as_slice.ensures
    (subst (λ (qs : List Refinement). Finds (nodes_faults (plainly c.args.here.now c.args.around.now [])
    (nodes.in_units us ++ nodes.refinements qs)) c.met.result)
    c.as_slice-2.ensures
    (met_found c.args.here.now c.args.around.now [] c.new.result c.refinements.result (nodes.in_units us ++ nodes.refinements rs) c.met.result
    c.new.ensures.here
    c.new.ensures.around c.new.ensures.refinements c.new.ensures.first
    (two is_wanted searched (nodes.in_units us) (nodes.refinements rs) {s = c.new.result} {t = c.visit_units-search.result} {u = c.refinements.result} refl
    c.visit_units-search.ensures c.refinements.ensures) c.met.ensures))
