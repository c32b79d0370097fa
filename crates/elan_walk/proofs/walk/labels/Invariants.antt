use Rattle.std.proofs.Common.{drop}
use Rattle.elan_walk.specs.Nodes.{labels}
use Rattle.elan_walk.proofs.Went.{Rest}
use Rattle.elan_walk.proofs.walk.labels.Given as goal

abbrev pub invariant-loop-label : goal.invariant-loop-label
invariant-loop-label g l = Rest g.V.Visitor.wanted g.V.Visitor.after (labels (drop l.label-index l.labels)) (labels l.labels) l.fn.visitor l.visitor
