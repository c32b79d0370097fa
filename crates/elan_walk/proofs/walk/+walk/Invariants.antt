use Rattle.std.proofs.Common.{map, drop}
use Rattle.std.specs.Prelude.{flat_map}
use Rattle.elan_walk.specs.Nodes.{all, in_expr, in_branch, in_case, in_item, in_unit}
use Rattle.elan_walk.proofs.Went.{Rest}
use Rattle.elan_walk.proofs.walk.+walk.Given as goal

abbrev pub invariant-in_exprs-loop-expr : goal.invariant-in_exprs-loop-expr
invariant-in_exprs-loop-expr g l =
    Rest g.V.Visitor.wanted g.V.Visitor.after (all (map in_expr (drop l.expr-index l.exprs))) (all (map in_expr l.exprs)) l.fn.visitor l.visitor

abbrev pub invariant-in_branches-loop-branch : goal.invariant-in_branches-loop-branch
invariant-in_branches-loop-branch g l =
    Rest g.V.Visitor.wanted g.V.Visitor.after (all (map in_branch (drop l.branch-index l.branches))) (all (map in_branch l.branches)) l.fn.visitor l.visitor

abbrev pub invariant-in_cases-loop-case : goal.invariant-in_cases-loop-case
invariant-in_cases-loop-case g l =
    Rest g.V.Visitor.wanted g.V.Visitor.after (all (map in_case (drop l.case-index l.cases))) (all (map in_case l.cases)) l.fn.visitor l.visitor

abbrev pub invariant-visit_units-loop-unit : goal.invariant-visit_units-loop-unit
invariant-visit_units-loop-unit g l =
    Rest g.V.Visitor.wanted g.V.Visitor.after (all (map in_unit (drop l.unit-index l.units))) (all (map in_unit l.units)) l.fn.visitor l.visitor

abbrev pub invariant-in_items-loop-item : goal.invariant-in_items-loop-item
invariant-in_items-loop-item g l =
    Rest g.V.Visitor.wanted g.V.Visitor.after (flat_map (λ i. i l.held l.of) (map in_item (drop l.item-index l.items))) (flat_map (λ i. i l.held l.of) (map in_item l.items)) l.fn.visitor l.visitor

abbrev pub invariant-in_otherwise-loop-unit : goal.invariant-in_otherwise-loop-unit
invariant-in_otherwise-loop-unit g l =
    Rest g.V.Visitor.wanted g.V.Visitor.after (all (map in_unit (drop l.unit-index l.units))) (all (map in_unit l.units)) l.fn.visitor l.visitor
