-- What is seen of the parts of a phrase, one after the other, is seen of the phrase.
use Rattle.std.proofs.Common.{rules, ◌≡◌, ◌+◌, ◌++◌, [], ◌∷◌, map, drop, ap, refl}
use Rattle.std.specs.Prelude.{flat_map, option_map, unwrap_or}
use Rattle.std.proofs.lemmas.List.{drop_all}
use Rattle.elan_tree.specs.declared.phrase.Expr.TheFolds.{the_lemmas}
use Rattle.elan_walk.specs.declared.node.Held.TheVariants.{Variable, Constant, Bound}
use Rattle.elan_walk.specs.Nodes.{other, sign, of_type, content, item, all, in_expr, in_branch, in_case, in_counter, in_item, in_limit, in_unit, labels}
use Rattle.elan_walk.proofs.Went.{rest_of, two, three, four, turn, ends}
use Rattle.elan_walk.proofs.walk.+walk.Goals as goal

pub in_expr-returns-in-Call : goal.in_expr-returns-in-Call
in_expr-returns-in-Call g t c =
    let a = other c.in-Call.name ∷ [] in
    let b = all (map in_expr c.as_slice.result.now) in
    let e : a ++ b ≡ in_expr c.args.expr.now = search (rules, the_lemmas, c.in-Call.is, c.as_slice.ensures) in
    two g.V.Visitor.wanted g.V.Visitor.after a b e c.visit-visitor.ensures c.in_exprs.ensures

pub in_expr-returns-in-If : goal.in_expr-returns-in-If
in_expr-returns-in-If g t c =
    let a = all (map in_branch c.as_slice-in-If.result.now) in
    let b = all (unwrap_or (option_map (map in_unit) c.in-If.otherwise) []) in
    let e : a ++ b ≡ in_expr c.args.expr.now = search (rules, the_lemmas, c.in-If.is, c.as_slice-in-If.ensures) in
    two g.V.Visitor.wanted g.V.Visitor.after a b e c.in_branches-visitor.ensures c.in_otherwise.ensures

pub in_expr-returns-in-Select : goal.in_expr-returns-in-Select
in_expr-returns-in-Select g t c =
    let a = in_expr c.get-in-Select.result.now in
    let b = all (map in_case c.as_slice-in-Select.result.now) in
    let d = all (unwrap_or (option_map (map in_unit) c.in-Select.otherwise) []) in
    let e : a ++ b ++ d ≡ in_expr c.args.expr.now =
    search (rules, the_lemmas, c.in-Select.is, c.get-in-Select.ensures, c.as_slice-in-Select.ensures) in
    three g.V.Visitor.wanted g.V.Visitor.after a b d e c.in_expr-visitor.ensures c.in_cases-visitor.ensures c.in_otherwise-in-Select.ensures

pub in_expr-returns-in-Monadic : goal.in_expr-returns-in-Monadic
in_expr-returns-in-Monadic g t c =
    let a = sign c.in-Monadic.operator ∷ [] in
    let b = in_expr c.get-in-Monadic.result.now in
    let e : a ++ b ≡ in_expr c.args.expr.now = search (rules, the_lemmas, c.in-Monadic.is, c.get-in-Monadic.ensures) in
    two g.V.Visitor.wanted g.V.Visitor.after a b e c.visit-visitor-in-Monadic.ensures c.in_expr-in-Monadic.ensures

pub in_expr-returns-in-Dyadic : goal.in_expr-returns-in-Dyadic
in_expr-returns-in-Dyadic g t c =
    let a = in_expr c.get-in-Dyadic.result.now in
    let b = sign c.in-Dyadic.operator ∷ [] in
    let d = in_expr c.get-in-Dyadic-2.result.now in
    let e : a ++ sign c.in-Dyadic.operator ∷ d ≡ in_expr c.args.expr.now =
    search (rules, the_lemmas, c.in-Dyadic.is, c.get-in-Dyadic.ensures, c.get-in-Dyadic-2.ensures) in
    two g.V.Visitor.wanted g.V.Visitor.after a (sign c.in-Dyadic.operator ∷ d) e
    c.in_expr-visitor-in-Dyadic.ensures (two g.V.Visitor.wanted g.V.Visitor.after b d refl c.visit-visitor-in-Dyadic.ensures c.in_expr-in-Dyadic.ensures)

pub in_expr-returns-in-Cand : goal.in_expr-returns-in-Cand
in_expr-returns-in-Cand g t c =
    let a = in_expr c.get-in-Cand.result.now in
    let b = in_expr c.get-in-Cand-2.result.now in
    let e : a ++ b ≡ in_expr c.args.expr.now = search (rules, the_lemmas, c.in-Cand.is, c.get-in-Cand.ensures, c.get-in-Cand-2.ensures) in
    two g.V.Visitor.wanted g.V.Visitor.after a b e c.in_expr-visitor-in-Cand.ensures c.in_expr-in-Cand.ensures

pub in_expr-returns-in-Cor : goal.in_expr-returns-in-Cor
in_expr-returns-in-Cor g t c =
    let a = in_expr c.get-in-Cor.result.now in
    let b = in_expr c.get-in-Cor-2.result.now in
    let e : a ++ b ≡ in_expr c.args.expr.now = search (rules, the_lemmas, c.in-Cor.is, c.get-in-Cor.ensures, c.get-in-Cor-2.ensures) in
    two g.V.Visitor.wanted g.V.Visitor.after a b e c.in_expr-visitor-in-Cor.ensures c.in_expr-in-Cor.ensures

pub visit_unit-returns-in-Variables : goal.visit_unit-returns-in-Variables
visit_unit-returns-in-Variables g t c =
    let a = of_type c.in-Variables.of ∷ [] in
    let b = flat_map (λ i. i Variable c.in-Variables.of) (map in_item c.as_slice.result.now) in
    let e : a ++ b ≡ in_unit c.args.unit.now = search (rules, the_lemmas, c.in-Variables.is, c.as_slice.ensures) in
    two g.V.Visitor.wanted g.V.Visitor.after a b e c.visit-visitor.ensures c.in_items.ensures

pub visit_unit-returns-in-Constants : goal.visit_unit-returns-in-Constants
visit_unit-returns-in-Constants g t c =
    let a = of_type c.in-Constants.of ∷ [] in
    let b = flat_map (λ i. i Constant c.in-Constants.of) (map in_item c.as_slice-in-Constants.result.now) in
    let e : a ++ b ≡ in_unit c.args.unit.now = search (rules, the_lemmas, c.in-Constants.is, c.as_slice-in-Constants.ensures) in
    two g.V.Visitor.wanted g.V.Visitor.after a b e c.visit-visitor-in-Constants.ensures c.in_items-in-Constants.ensures

pub visit_unit-returns-in-Bound : goal.visit_unit-returns-in-Bound
visit_unit-returns-in-Bound g t c =
    let a = content c.in-Bound.of ∷ [] in
    let b = flat_map (λ i. i Bound c.in-Bound.of) (map in_item c.as_slice-in-Bound.result.now) in
    let e : a ++ b ≡ in_unit c.args.unit.now = search (rules, the_lemmas, c.in-Bound.is, c.as_slice-in-Bound.ensures) in
    two g.V.Visitor.wanted g.V.Visitor.after a b e c.visit-visitor-in-Bound.ensures c.in_items-in-Bound.ensures

pub visit_unit-returns-in-Becomes : goal.visit_unit-returns-in-Becomes
visit_unit-returns-in-Becomes g t c =
    let a = in_expr c.in-Becomes.left in
    let b = in_expr c.in-Becomes.right in
    let e : a ++ b ≡ in_unit c.args.unit.now = search (rules, the_lemmas, c.in-Becomes.is) in
    two g.V.Visitor.wanted g.V.Visitor.after a b e c.in_expr-visitor.ensures c.in_expr-in-Becomes.ensures

pub visit_unit-returns-in-Loop : goal.visit_unit-returns-in-Loop
visit_unit-returns-in-Loop g t c =
    let a = unwrap_or (option_map in_counter c.in-Loop.counter) [] in
    let b = unwrap_or (option_map in_expr c.in-Loop.condition) [] in
    let d = all (map in_unit c.as_slice-in-Loop.result.now) in
    let f = unwrap_or (option_map in_expr c.in-Loop.until) [] in
    let e : a ++ b ++ d ++ f ≡ in_unit c.args.unit.now = search (rules, the_lemmas, c.in-Loop.is, c.as_slice-in-Loop.ensures) in
    four g.V.Visitor.wanted g.V.Visitor.after a b d f e
    c.in_counter-visitor.ensures c.in_optional-visitor.ensures c.visit_units-visitor.ensures c.in_optional.ensures

pub visit_unit-returns-in-Leave : goal.visit_unit-returns-in-Leave
visit_unit-returns-in-Leave g t c =
    let a = other c.in-Leave.name ∷ [] in
    let b = unwrap_or (option_map in_expr c.in-Leave.value) [] in
    let e : a ++ b ≡ in_unit c.args.unit.now = search (rules, the_lemmas, c.in-Leave.is) in
    two g.V.Visitor.wanted g.V.Visitor.after a b e c.visit-visitor-in-Leave.ensures c.in_optional-in-Leave.ensures

pub in_exprs-loop-expr-preserved : goal.in_exprs-loop-expr-preserved
in_exprs-loop-expr-preserved g t c =
    let rest = rest_of c.args.exprs.now c.loop-expr.expr-index c.expr-item.result c.loop-expr-test.true c.expr-item.is in
    turn g.V.Visitor.wanted g.V.Visitor.after (in_expr c.expr-item.result)
    (all (map in_expr (drop (c.loop-expr.expr-index + 1) c.args.exprs.now))) (all (map in_expr c.args.exprs.now))
    (ap (λ l. all (map in_expr l)) rest) c.loop-expr.invariant c.in_expr-visitor.ensures

pub in_exprs-returns : goal.in_exprs-returns
in_exprs-returns g t c =
    ends g.V.Visitor.wanted g.V.Visitor.after (all (map in_expr c.args.exprs.now))
    (ap (λ l. all (map in_expr l)) (drop_all c.loop-expr.expr-index c.args.exprs.now c.loop-expr-test.false)) c.loop-expr.invariant

pub visit_units-loop-unit-preserved : goal.visit_units-loop-unit-preserved
visit_units-loop-unit-preserved g t c =
    let rest = rest_of c.args.units.now c.loop-unit.unit-index c.unit-item.result c.loop-unit-test.true c.unit-item.is in
    turn g.V.Visitor.wanted g.V.Visitor.after (in_unit c.unit-item.result)
    (all (map in_unit (drop (c.loop-unit.unit-index + 1) c.args.units.now))) (all (map in_unit c.args.units.now))
    (ap (λ l. all (map in_unit l)) rest) c.loop-unit.invariant c.visit_unit-visitor.ensures

pub visit_units-returns : goal.visit_units-returns
visit_units-returns g t c =
    ends g.V.Visitor.wanted g.V.Visitor.after (all (map in_unit c.args.units.now))
    (ap (λ l. all (map in_unit l)) (drop_all c.loop-unit.unit-index c.args.units.now c.loop-unit-test.false)) c.loop-unit.invariant

pub in_branches-loop-branch-preserved : goal.in_branches-loop-branch-preserved
in_branches-loop-branch-preserved g t c =
    let a = in_expr c.branch-item.result.condition in
    let b = all (map in_unit c.as_slice.result.now) in
    let whole = in_branch c.branch-item.result in
    let e : a ++ b ≡ whole = search (rules, the_lemmas, c.as_slice.ensures) in
    let rest = rest_of c.args.branches.now c.loop-branch.branch-index c.branch-item.result c.loop-branch-test.true c.branch-item.is in
    turn g.V.Visitor.wanted g.V.Visitor.after whole (all (map in_branch (drop (c.loop-branch.branch-index + 1) c.args.branches.now)))
    (all (map in_branch c.args.branches.now))
    (ap (λ l. all (map in_branch l)) rest) c.loop-branch.invariant (two g.V.Visitor.wanted g.V.Visitor.after a b e
    c.in_expr-visitor.ensures c.visit_units-visitor.ensures)

pub in_branches-returns : goal.in_branches-returns
in_branches-returns g t c =
    ends g.V.Visitor.wanted g.V.Visitor.after (all (map in_branch c.args.branches.now))
    (ap (λ l. all (map in_branch l)) (drop_all c.loop-branch.branch-index c.args.branches.now c.loop-branch-test.false)) c.loop-branch.invariant

pub in_cases-loop-case-preserved : goal.in_cases-loop-case-preserved
in_cases-loop-case-preserved g t c =
    let a = labels c.as_slice.result.now in
    let b = all (map in_unit c.as_slice-in-loop-case.result.now) in
    let whole = in_case c.case-item.result in
    let e : a ++ b ≡ whole = search (rules, the_lemmas, c.as_slice.ensures, c.as_slice-in-loop-case.ensures) in
    let rest = rest_of c.args.cases.now c.loop-case.case-index c.case-item.result c.loop-case-test.true c.case-item.is in
    turn g.V.Visitor.wanted g.V.Visitor.after whole (all (map in_case (drop (c.loop-case.case-index + 1) c.args.cases.now)))
    (all (map in_case c.args.cases.now))
    (ap (λ l. all (map in_case l)) rest) c.loop-case.invariant (two g.V.Visitor.wanted g.V.Visitor.after a b e
    c.labels-visitor.ensures c.visit_units-visitor.ensures)

pub in_cases-returns : goal.in_cases-returns
in_cases-returns g t c =
    ends g.V.Visitor.wanted g.V.Visitor.after (all (map in_case c.args.cases.now))
    (ap (λ l. all (map in_case l)) (drop_all c.loop-case.case-index c.args.cases.now c.loop-case-test.false)) c.loop-case.invariant

pub in_items-loop-item-preserved : goal.in_items-loop-item-preserved
in_items-loop-item-preserved g t c =
    let a = item c.args.held c.args.of.now c.item-item.result.name ∷ [] in
    let b = unwrap_or (option_map in_expr c.item-item.result.init) [] in
    let whole = in_item c.item-item.result c.args.held c.args.of.now in
    let e : a ++ b ≡ whole = search (rules, the_lemmas, c.item-item.is) in
    let rest = rest_of c.args.items.now c.loop-item.item-index c.item-item.result c.loop-item-test.true c.item-item.is in
    turn g.V.Visitor.wanted g.V.Visitor.after whole (flat_map (λ i. i c.args.held c.args.of.now)
    (map in_item (drop (c.loop-item.item-index + 1) c.args.items.now))) (flat_map (λ i. i c.args.held c.args.of.now) (map in_item c.args.items.now))
    (ap (λ l. flat_map (λ i. i c.args.held c.args.of.now) (map in_item l)) rest) c.loop-item.invariant (two g.V.Visitor.wanted g.V.Visitor.after a b e
    c.visit-visitor.ensures c.in_optional-visitor.ensures)

pub in_items-returns : goal.in_items-returns
in_items-returns g t c =
    ends g.V.Visitor.wanted g.V.Visitor.after (flat_map (λ i. i c.args.held c.args.of.now) (map in_item c.args.items.now))
    (ap (λ l. flat_map (λ i. i c.args.held c.args.of.now) (map in_item l)) (drop_all c.loop-item.item-index c.args.items.now c.loop-item-test.false)) c.loop-item.invariant

pub in_counter-returns-in-Some : goal.in_counter-returns-in-Some
in_counter-returns-in-Some g t c =
    let a = other c.get-counter.result.now.name ∷ [] in
    let b = unwrap_or (option_map in_expr c.get-counter.result.now.from) [] in
    let d = in_limit c.get-counter.result.now.limit in
    let e : a ++ b ++ d ≡ unwrap_or (option_map in_counter c.args.counter.now) [] = search (rules, the_lemmas, c.in-Some.is, c.get-counter.ensures) in
    three g.V.Visitor.wanted g.V.Visitor.after a b d e c.visit-visitor.ensures c.in_optional-visitor.ensures c.in_limit.ensures
