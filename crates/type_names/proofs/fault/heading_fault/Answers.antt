use Rattle.std.proofs.Common.{[], ◌++◌, refl, ◌∙◌}
use Rattle.elan_walk.specs.Nodes as nodes
use Rattle.elan_walk.proofs.Went.{two}
use Rattle.type_names.specs.walks.Seen.{searched}
use Rattle.type_names.proofs.Searched.{is_wanted, met_found}
use Rattle.type_names.proofs.fault.heading_fault.Goals as goal

pub returns : goal.returns
returns c =
    met_found c.args.level.types.now c.args.level.around.names.now c.args.level.refined.now c.new-search.result c.formals.result (nodes.result c.args.of.now ++ nodes.formals c.args.given.now) c.met.result
    c.new-search.ensures.here c.new-search.ensures.around c.new-search.ensures.refinements c.new-search.ensures.first
    (two is_wanted searched (nodes.result c.args.of.now) (nodes.formals c.args.given.now) refl c.result_type.ensures c.formals.ensures) c.met.ensures
