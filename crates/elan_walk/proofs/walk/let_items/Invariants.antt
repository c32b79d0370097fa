use Rattle.std.proofs.Common.{map, drop}
use Rattle.elan_walk.specs.Nodes.{let_item}
use Rattle.elan_walk.proofs.Went.{Rest}
use Rattle.elan_walk.proofs.walk.let_items.Given as goal

abbrev pub invariant-loop-item : goal.invariant-loop-item
invariant-loop-item g l = Rest g.V.Visitor.wanted g.V.Visitor.after (map let_item (drop l.item-index l.items)) (map let_item l.items) l.fn.visitor l.visitor
