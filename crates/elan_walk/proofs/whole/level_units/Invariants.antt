use Rattle.std.proofs.Common.{drop}
use Rattle.std.specs.Prelude.{flat_map}
use Rattle.elan_walk.specs.Nodes.{level_unit}
use Rattle.elan_walk.proofs.Went.{Rest}
use Rattle.elan_walk.proofs.whole.level_units.Given as goal

abbrev pub invariant-loop-unit : goal.invariant-loop-unit
invariant-loop-unit g l = Rest g.V.Visitor.wanted g.V.Visitor.after (flat_map level_unit (drop l.unit-index l.units)) (flat_map level_unit l.units) l.fn.visitor l.visitor
