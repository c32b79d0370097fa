use Rattle.std.proofs.Common.{[], ◌∷◌, sym, subst}
use Rattle.elan_tree.specs.declared.tree.LevelUnit.{LevelUnit}
use Rattle.elan_walk.specs.Nodes.{new_type}
use Rattle.type_names.specs.Faults.{unit_faults}
use Rattle.type_names.specs.walks.Seen.{Finds}
use Rattle.type_names.proofs.Searched.{in_level, met_found}
use Rattle.type_names.proofs.fault.unit_fault.Goals as goal

pub returns-in-NewType : goal.returns-in-NewType
returns-in-NewType c = λ ds k.
    let level = c.args.level in
    let node = new_type c.in-NewType.at c.in-NewType.name c.in-NewType.of in
    subst (λ (u : LevelUnit). Finds (unit_faults level.around.first level.around.names.now ds level.refined.now u) c.met.result) (sym c.in-NewType.is)
    (in_level ds level k (node ∷ []) c.met.result
    (met_found level.types.now level.around.names.now level.refined.now c.new-search.result c.visit.result (node ∷ []) c.met.result
    c.new-search.ensures.here c.new-search.ensures.around c.new-search.ensures.refinements c.new-search.ensures.first c.visit.ensures c.met.ensures))
