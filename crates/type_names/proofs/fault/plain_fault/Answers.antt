use Rattle.std.proofs.Common.{[], ◌∙◌}
use Rattle.elan_walk.specs.Nodes as nodes
use Rattle.type_names.proofs.Searched.{met_found}
use Rattle.type_names.proofs.fault.plain_fault.Goals as goal

pub returns : goal.returns
returns c =
    met_found c.args.level.types.now c.args.level.around.names.now c.args.level.refined.now c.new-search.result c.visit_unit.result (nodes.in_unit c.args.unit.now) c.met.result
    c.new-search.ensures.here c.new-search.ensures.around c.new-search.ensures.refinements c.new-search.ensures.first c.visit_unit.ensures
    c.met.ensures
