use Rattle.std.proofs.Common.{drop}
use Rattle.elan_walk.specs.Nodes.{formals}
use Rattle.elan_walk.proofs.Went.{Rest}
use Rattle.elan_walk.proofs.whole.formals.Given as goal

abbrev pub invariant-loop-formal : goal.invariant-loop-formal
invariant-loop-formal g l = Rest g.V.Visitor.wanted g.V.Visitor.after (formals (drop l.formal-index l.formals)) (formals l.formals) l.fn.visitor l.visitor
