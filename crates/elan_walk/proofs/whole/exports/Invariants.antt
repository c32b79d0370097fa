use Rattle.std.proofs.Common.{drop}
use Rattle.std.specs.Prelude.{flat_map}
use Rattle.elan_walk.specs.Nodes.{export}
use Rattle.elan_walk.proofs.Went.{Rest}
use Rattle.elan_walk.proofs.whole.exports.Given as goal

abbrev pub invariant-loop-shown : goal.invariant-loop-shown
invariant-loop-shown g l = Rest g.V.Visitor.wanted g.V.Visitor.after (flat_map export (drop l.shown-index l.list)) (flat_map export l.list) l.fn.visitor l.visitor
