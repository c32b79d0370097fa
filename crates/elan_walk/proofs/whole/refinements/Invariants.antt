use Rattle.std.proofs.Common.{drop}
use Rattle.elan_walk.specs.Nodes.{refinements}
use Rattle.elan_walk.proofs.Went.{Rest}
use Rattle.elan_walk.proofs.whole.refinements.Given as goal

abbrev pub invariant-loop-refinement : goal.invariant-loop-refinement
invariant-loop-refinement g l =
    Rest g.V.Visitor.wanted g.V.Visitor.after (refinements (drop l.refinement-index l.refinements)) (refinements l.refinements) l.fn.visitor l.visitor
