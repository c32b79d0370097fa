use Rattle.std.proofs.Common.{map, drop}
use Rattle.elan_walk.specs.Nodes.{other}
use Rattle.elan_walk.proofs.Went.{Rest}
use Rattle.elan_walk.proofs.whole.names.Given as goal

abbrev pub invariant-loop-name : goal.invariant-loop-name
invariant-loop-name g l = Rest g.V.Visitor.wanted g.V.Visitor.after (map other (drop l.name-index l.names)) (map other l.names) l.fn.visitor l.visitor
