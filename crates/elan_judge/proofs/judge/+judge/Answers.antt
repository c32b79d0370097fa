use Rattle.std.proofs.Common.{drop, length, ◌-◌, rules, arith, ℕ, ℤ, ◌≡◌, ◌++◌, ◌∷◌, ◌∙◌, List, [], map, take, Ok, Err, Option, Some, None, option_map, ap, sym, subst}
use Rattle.elan_tree.specs.declared.phrase.Counter.{Counter}
use Rattle.elan_tree.specs.declared.phrase.Expr.TheViews.{size-Expr, size-Unit, size_is-Branch, sized-Select, sized-Loop, weight-Expr-If-2}
use Rattle.std.proofs.lemmas.List.{append-nil}
use Rattle.elan_judge.specs.declared.role.Wanted.{Wanted}
use Rattle.elan_scope.specs.declared.delivery.Delivery.TheVariants.{Open, Nothing}
use Rattle.elan_rules.specs.Units as units
use Rattle.elan_scope.specs.Answer.{Is}
use Rattle.elan_meant.specs.Verdict.{Tells}
use Rattle.elan_rules.specs.Meaning.{judged, judged_all}
use Rattle.elan_scope.specs.declared.scope.Usage.TheVariants.{Counter as Counts}
use Rattle.elan_scope.specs.Phrase as form
use Rattle.elan_scope.specs.Phrase.{Phrase, row, leaf, all_of, part}
use Rattle.elan_meant.specs.walks.Arity.{triple}
use Rattle.eu_base.specs.declared.operation.Way.{Way}
use Rattle.elan_judge.specs.Shape as shape
use Rattle.elan_judge.specs.walks.Steps as walk
use Rattle.elan_judge.proofs.Rows.{row_further, row_whole, row_goes, two_more, roles_go, roles_end, row_is, one_is, branches_go, branches_end, cases_go, cases_end}
use Rattle.elan_judge.proofs.Rows.{first_fails, first_is, whole_fails, whole_is}
use Rattle.elan_judge.proofs.Shapes.{units_of, units_absent, units_written, choice_parts, case_parts, loop_of, choice_is, selection_is, procedure_is, second_is, begun_is, alone, firsts, others_are, only_is, cand_is, cor_is, index_is}
use Rattle.elan_judge.proofs.Shapes.{loop_is, branch_shape, case_shape, counter_shape, item_is, variables_is, bound_is, becomes_is, constants_is, let_is}
use Rattle.elan_judge.proofs.judge.+judge.Goals as goal
use Rattle.elan_judge.proofs.judge.+judge.Goals.{judge-in-None, judge-in-Some, judge-in-None-otherwise, judge-in-Some-otherwise}

-- ---- IF, SELECT, CAND, COR and items

pub judge-judge_units-otherwise-requires-in-Some-otherwise : goal.judge-judge_units-otherwise-requires-in-Some-otherwise
judge-judge_units-otherwise-requires-in-Some-otherwise t c =
    let deep = ap size-Expr c.in-Select.is ∙ sized-Select c.in-Select.at c.in-Select.of c.in-Select.cases c.in-Select.otherwise in
    let written = ap weight-Expr-If-2 c.in-Some-otherwise.is in
    rw c.as_slice-in-Some-otherwise.ensures (omega (arith, deep, written))

pub judge-returns-in-Ok-with : goal.judge-returns-in-Ok-with
judge-returns-in-Ok-with t c =
    let other : Is c.match-otherwise.otherwise (judged c.args.known.now (units_of c.args.scope.now c.in-If.otherwise)) = elim c.match-otherwise.branch [
      | judge-in-None w ↦ units_absent c.args.scope.now c.args.known.now c.match-otherwise.otherwise c.in-If.otherwise w.in-None.is w.otherwise-is
      | judge-in-Some w ↦ units_written c.args.scope.now c.args.known.now c.match-otherwise.otherwise w.judge_units-otherwise.result c.in-If.otherwise
          w.in-Some.units w.as_slice-in-Some.result.now w.in-Some.is w.as_slice-in-Some.ensures w.otherwise-is w.judge_units-otherwise.ensures
    ] in
    let bs = shape.branches (map (shape.branch c.args.scope.now) c.as_slice-in-If.result.now) in
    choice_is c.args.scope.now c.args.known.now c.choice.result c.args.expr.now c.in-If.at c.in-If.branches c.as_slice-in-If.result.now c.in-If.otherwise
    c.in-If.is c.as_slice-in-If.ensures
    (whole_is c.args.known.now c.in-If.at form.choice (choice_parts c.args.scope.now c.as_slice-in-If.result.now c.in-If.otherwise)
    c.choice.result c.in-Ok-with.parts
    (row_is c.args.known.now (Ok c.in-Ok-with.parts) bs (units_of c.args.scope.now c.in-If.otherwise)
    (c.in-Ok-with.ensures (judged_all c.args.known.now (all_of bs)) (judged c.args.known.now (units_of c.args.scope.now c.in-If.otherwise))
    c.judge_branches-row.ensures other)) c.choice.ensures)

pub judge-returns-in-Err-with : goal.judge-returns-in-Err-with
judge-returns-in-Err-with t c =
    let other : Is c.match-otherwise.otherwise (judged c.args.known.now (units_of c.args.scope.now c.in-If.otherwise)) = elim c.match-otherwise.branch [
      | judge-in-None w ↦ units_absent c.args.scope.now c.args.known.now c.match-otherwise.otherwise c.in-If.otherwise w.in-None.is w.otherwise-is
      | judge-in-Some w ↦ units_written c.args.scope.now c.args.known.now c.match-otherwise.otherwise w.judge_units-otherwise.result c.in-If.otherwise
          w.in-Some.units w.as_slice-in-Some.result.now w.in-Some.is w.as_slice-in-Some.ensures w.otherwise-is w.judge_units-otherwise.ensures
    ] in
    let bs = shape.branches (map (shape.branch c.args.scope.now) c.as_slice-in-If.result.now) in
    choice_is c.args.scope.now c.args.known.now (Err c.in-Err-with.trouble) c.args.expr.now c.in-If.at c.in-If.branches c.as_slice-in-If.result.now
    c.in-If.otherwise
    c.in-If.is c.as_slice-in-If.ensures
    (whole_fails c.args.known.now c.in-If.at form.choice (choice_parts c.args.scope.now c.as_slice-in-If.result.now c.in-If.otherwise)
    c.in-Err-with.trouble
    (row_is c.args.known.now (Err c.in-Err-with.trouble) bs (units_of c.args.scope.now c.in-If.otherwise)
    (c.in-Err-with.ensures (judged_all c.args.known.now (all_of bs)) (judged c.args.known.now (units_of c.args.scope.now c.in-If.otherwise))
    c.judge_branches-row.ensures other)))

pub judge-returns-in-Ok-before : goal.judge-returns-in-Ok-before
judge-returns-in-Ok-before t c =
    let other : Is c.match-otherwise-2.otherwise (judged c.args.known.now (units_of c.args.scope.now c.in-Select.otherwise)) = elim c.match-otherwise-2.branch [
      | judge-in-None-otherwise w ↦ units_absent c.args.scope.now c.args.known.now c.match-otherwise-2.otherwise c.in-Select.otherwise w.in-None-otherwise.is
          w.otherwise-is
      | judge-in-Some-otherwise w ↦ units_written c.args.scope.now c.args.known.now c.match-otherwise-2.otherwise
          w.judge_units-otherwise-in-Some-otherwise.result c.in-Select.otherwise w.in-Some-otherwise.units w.as_slice-in-Some-otherwise.result.now
          w.in-Some-otherwise.is w.as_slice-in-Some-otherwise.ensures w.otherwise-is w.judge_units-otherwise-in-Some-otherwise.ensures
    ] in
    let arms = shape.arms c.args.scope.now [] (map (shape.case c.args.scope.now) c.as_slice-in-Select.result.now) in
    let rest = case_parts c.args.scope.now c.as_slice-in-Select.result.now c.in-Select.otherwise in
    let behind : Is c.with-row.result (judged_all c.args.known.now rest) =
    row_is c.args.known.now c.with-row.result arms (units_of c.args.scope.now c.in-Select.otherwise)
    (c.with-row.ensures (judged_all c.args.known.now (all_of arms)) (judged c.args.known.now (units_of c.args.scope.now c.in-Select.otherwise))
    c.judge_cases-row.ensures other) in
    let of = shape.expr c.args.scope.now c.get-in-Select.result.now in
    selection_is c.args.scope.now c.args.known.now c.selected.result c.args.expr.now c.in-Select.at c.in-Select.of c.get-in-Select.result.now
    c.in-Select.cases c.as_slice-in-Select.result.now c.in-Select.otherwise c.in-Select.is c.get-in-Select.ensures c.as_slice-in-Select.ensures
    (whole_is c.args.known.now c.in-Select.at form.selection (part of rest) c.selected.result (c.in-Ok-before.of ∷ c.in-Ok-before.parts)
    (first_is c.args.known.now of rest c.in-Ok-before.of c.in-Ok-before.parts
    (c.in-Ok-before.ensures (judged c.args.known.now of) (judged_all c.args.known.now rest) c.judge-of.ensures behind)) c.selected.ensures)

pub judge-returns-in-Err-before : goal.judge-returns-in-Err-before
judge-returns-in-Err-before t c =
    let other : Is c.match-otherwise-2.otherwise (judged c.args.known.now (units_of c.args.scope.now c.in-Select.otherwise)) = elim c.match-otherwise-2.branch [
      | judge-in-None-otherwise w ↦ units_absent c.args.scope.now c.args.known.now c.match-otherwise-2.otherwise c.in-Select.otherwise w.in-None-otherwise.is
          w.otherwise-is
      | judge-in-Some-otherwise w ↦ units_written c.args.scope.now c.args.known.now c.match-otherwise-2.otherwise
          w.judge_units-otherwise-in-Some-otherwise.result c.in-Select.otherwise w.in-Some-otherwise.units w.as_slice-in-Some-otherwise.result.now
          w.in-Some-otherwise.is w.as_slice-in-Some-otherwise.ensures w.otherwise-is w.judge_units-otherwise-in-Some-otherwise.ensures
    ] in
    let arms = shape.arms c.args.scope.now [] (map (shape.case c.args.scope.now) c.as_slice-in-Select.result.now) in
    let rest = case_parts c.args.scope.now c.as_slice-in-Select.result.now c.in-Select.otherwise in
    let behind : Is c.with-row.result (judged_all c.args.known.now rest) =
    row_is c.args.known.now c.with-row.result arms (units_of c.args.scope.now c.in-Select.otherwise)
    (c.with-row.ensures (judged_all c.args.known.now (all_of arms)) (judged c.args.known.now (units_of c.args.scope.now c.in-Select.otherwise))
    c.judge_cases-row.ensures other) in
    let of = shape.expr c.args.scope.now c.get-in-Select.result.now in
    selection_is c.args.scope.now c.args.known.now (Err c.in-Err-before.trouble) c.args.expr.now c.in-Select.at c.in-Select.of c.get-in-Select.result.now
    c.in-Select.cases c.as_slice-in-Select.result.now c.in-Select.otherwise c.in-Select.is c.get-in-Select.ensures c.as_slice-in-Select.ensures
    (whole_fails c.args.known.now c.in-Select.at form.selection (part of rest) c.in-Err-before.trouble
    (first_fails c.args.known.now of rest c.in-Err-before.trouble
    (c.in-Err-before.ensures (judged c.args.known.now of) (judged_all c.args.known.now rest) c.judge-of.ensures behind)))

pub judge-judge_cases-row-requires : goal.judge-judge_cases-row-requires
judge-judge_cases-row-requires t c =
    let deep = ap size-Expr c.in-Select.is ∙ sized-Select c.in-Select.at c.in-Select.of c.in-Select.cases c.in-Select.otherwise in
    rw c.as_slice-in-Select.ensures (omega (arith, deep))

pub judge-returns-in-Cand : goal.judge-returns-in-Cand
judge-returns-in-Cand t c =
    cand_is c.args.scope.now c.args.known.now c.cand_phrase.result c.args.expr.now c.in-Cand.at c.in-Cand.left c.get-in-Cand.result.now c.in-Cand.right
    c.get-in-Cand-2.result.now c.in-Cand.is c.get-in-Cand.ensures c.get-in-Cand-2.ensures
    (c.cand_phrase.ensures c.args.known.now (shape.expr c.args.scope.now c.get-in-Cand.result.now) (shape.expr c.args.scope.now c.get-in-Cand-2.result.now)
    c.judge-left-in-Cand.ensures c.judge-right-in-Cand.ensures)

pub judge-returns-in-Cor : goal.judge-returns-in-Cor
judge-returns-in-Cor t c =
    cor_is c.args.scope.now c.args.known.now c.cor_phrase.result c.args.expr.now c.in-Cor.at c.in-Cor.left c.get-in-Cor.result.now c.in-Cor.right
    c.get-in-Cor-2.result.now c.in-Cor.is c.get-in-Cor.ensures c.get-in-Cor-2.ensures
    (c.cor_phrase.ensures c.args.known.now (shape.expr c.args.scope.now c.get-in-Cor.result.now) (shape.expr c.args.scope.now c.get-in-Cor-2.result.now)
    c.judge-left-in-Cor.ensures c.judge-right-in-Cor.ensures)

pub judge-returns-in-Index : goal.judge-returns-in-Index
judge-returns-in-Index t c =
    index_is c.args.scope.now c.args.known.now c.index_phrase.result c.args.expr.now c.in-Index.at c.in-Index.of c.get-in-Index.result.now c.in-Index.index
    c.get-in-Index-2.result.now c.in-Index.is c.get-in-Index.ensures c.get-in-Index-2.ensures
    (c.index_phrase.ensures c.args.known.now (shape.expr c.args.scope.now c.get-in-Index.result.now)
    (shape.expr c.args.scope.now c.get-in-Index-2.result.now) c.judge-of-in-Index.ensures c.judge-index.ensures)

pub add_exprs-loop-expr-preserved : goal.add_exprs-loop-expr-preserved
add_exprs-loop-expr-preserved t c = λ done h.
    row_further c.args.known.now (shape.expr c.args.scope.now) done c.args.exprs.now c.loop-expr.expr-index c.expr-item.result c.with-row.result
    c.loop-expr-test.true c.expr-item.is
    (c.with-row.ensures (judged_all c.args.known.now (all_of (done ++ map (shape.expr c.args.scope.now) (take c.loop-expr.expr-index c.args.exprs.now))))
    (judged c.args.known.now (shape.expr c.args.scope.now c.expr-item.result)) (c.loop-expr.invariant done h) c.judge.ensures)

pub add_exprs-returns : goal.add_exprs-returns
add_exprs-returns t c = λ done h.
    row_whole c.args.known.now (shape.expr c.args.scope.now) done c.args.exprs.now c.loop-expr.expr-index c.loop-expr.row c.loop-expr-test.false
    (c.loop-expr.invariant done h)

pub judge-returns-in-Procedure : goal.judge-returns-in-Procedure
judge-returns-in-Procedure t c =
    procedure_is c.args.scope.now c.args.known.now c.start.result c.args.expr.now c.in-Procedure.at c.in-Procedure.name c.in-Procedure.is
    (c.start.ensures c.args.known.now)

pub judge_second-returns-in-Procedure : goal.judge_second-returns-in-Procedure
judge_second-returns-in-Procedure t c =
    second_is c.args.scope.now c.args.known.now c.start.result c.args.expr.now c.in-Procedure.at c.in-Procedure.name c.in-Procedure.is
    (c.start.ensures c.args.known.now)

pub judge_actuals-returns-then-not-is_begin_name : goal.judge_actuals-returns-then-not-is_begin_name
judge_actuals-returns-then-not-is_begin_name t c =
    others_are c.args.scope.now c.args.known.now c.add_exprs.result c.args.name.now c.args.exprs.now
    (sym c.is_begin_name.ensures ∙ c.if-not-is_begin_name.true) (c.add_exprs.ensures [] c.none.ensures)

pub judge_actuals-returns-in-len1 : goal.judge_actuals-returns-in-len1
judge_actuals-returns-in-len1 t c =
    let only = c.only-item.result in
    only_is c.args.scope.now c.args.known.now c.one.result c.args.name.now only c.args.exprs.now
    (alone c.args.exprs.now only c.in-len1.len_at_least c.in-len1.len_below c.only-item.is)
    (c.one.ensures (judged c.args.known.now (shape.expr c.args.scope.now only)) c.judge.ensures)

pub judge_actuals-returns-in-len2-up : goal.judge_actuals-returns-in-len2-up
judge_actuals-returns-in-len2-up t c =
    let s = c.args.scope.now in
    let k = c.args.known.now in
    let first = shape.expr s c.first-item.result in
    let second = shape.as_start (shape.expr s c.second-item.result) in
    begun_is s k c.add_exprs-in-len2-up.result c.args.name.now c.first-item.result c.second-item.result (take (length c.args.exprs.now - 2) (drop 2 c.args.exprs.now))
    c.args.exprs.now
    (sym c.is_begin_name.ensures ∙ c.if-not-is_begin_name.false)
    (firsts c.args.exprs.now c.first-item.result c.second-item.result c.in-len2-up.len_at_least c.first-item.is c.second-item.is)
    (c.add_exprs-in-len2-up.ensures (first ∷ second ∷ []) (c.pair-row.ensures (judged k first) (judged k second) c.judge-first.ensures c.judge_second.ensures))

-- ---- branches and cases

pub add_branch-judge_units-requires : goal.add_branch-judge_units-requires
add_branch-judge_units-requires t c = rw c.as_slice-units.ensures (omega (arith, size_is-Branch c.args.branch.now))

pub add_branch-returns : goal.add_branch-returns
add_branch-returns t c = λ done h.
    let condition = shape.expr c.args.scope.now c.args.branch.now.condition in
    let us = shape.units Open (map (shape.unit c.args.scope.now) c.as_slice-units.result.now) in
    subst (λ (ps : List Phrase). Is c.with.result (judged_all c.args.known.now (all_of (done ++ ps))))
    (branch_shape c.args.scope.now c.args.branch.now c.as_slice-units.result.now c.as_slice-units.ensures)
    (two_more c.args.known.now c.with-row.result c.with.result done condition us
    (c.with-row.ensures (judged_all c.args.known.now (all_of done)) (judged c.args.known.now condition) h c.judge.ensures)
    (λ rs e. c.with.ensures rs (judged c.args.known.now us) e c.judge_units.ensures))

pub judge_branches-loop-branch-preserved : goal.judge_branches-loop-branch-preserved
judge_branches-loop-branch-preserved t c =
    branches_go c.args.known.now c.args.scope.now c.loop-branch.row c.add_branch-row.result c.args.branches.now c.loop-branch.branch-index c.branch-item.result
    _ c.loop-branch-test.true c.branch-item.is
    c.add_branch-row.ensures c.loop-branch.invariant

pub judge_branches-returns : goal.judge_branches-returns
judge_branches-returns t c =
    branches_end c.args.known.now c.args.scope.now c.loop-branch.row c.args.branches.now c.loop-branch.branch-index _ c.loop-branch-test.false
    c.loop-branch.invariant

pub add_case-returns : goal.add_case-returns
add_case-returns t c = λ done h.
    let labels = walk.labels_phrase c.args.scope.now c.args.earlier.now c.as_slice-labels.result.now in
    let us = shape.units Open (map (shape.unit c.args.scope.now) c.as_slice-units.result.now) in
    subst (λ (ps : List Phrase). Is c.with.result (judged_all c.args.known.now (all_of (done ++ ps))))
    (case_shape c.args.scope.now c.args.earlier.now c.args.case.now c.as_slice-labels.result.now c.as_slice-units.result.now c.as_slice-labels.ensures
    c.as_slice-units.ensures)
    (two_more c.args.known.now c.with-row.result c.with.result done labels us
    (c.with-row.ensures (judged_all c.args.known.now (all_of done)) (judged c.args.known.now labels) h c.judge_labels.ensures)
    (λ rs e. c.with.ensures rs (judged c.args.known.now us) e c.judge_units.ensures))

pub judge_cases-loop-case-preserved : goal.judge_cases-loop-case-preserved
judge_cases-loop-case-preserved t c =
    let before_it : c.as_slice.result.now ≡ c.loop-case.earlier = c.as_slice.ensures in
    let behind : c.add_numbers.new.out ≡ c.loop-case.earlier ++ walk.numbers c.args.scope.now c.case-item.result.labels = search rules in
    cases_go c.args.known.now c.args.scope.now c.loop-case.row c.add_case-row.result c.args.cases.now c.loop-case.case-index c.case-item.result
    c.loop-case.earlier c.add_numbers.new.out _ c.loop-case-test.true c.case-item.is behind
    (λ done h. subst (λ (ns : List ℤ).
    Is c.add_case-row.result
    (judged_all c.args.known.now (all_of (done ++ shape.arms c.args.scope.now ns (shape.case c.args.scope.now c.case-item.result ∷ []))))) before_it
    (c.add_case-row.ensures done h)) c.loop-case.invariant

pub judge_cases-returns : goal.judge_cases-returns
judge_cases-returns t c =
    cases_end c.args.known.now c.args.scope.now c.loop-case.row c.args.cases.now c.loop-case.case-index c.loop-case.earlier _ c.loop-case-test.false
    c.loop-case.invariant

-- ---- declarations and counters

pub judge_item-returns-in-Some : goal.judge_item-returns-in-Some
judge_item-returns-in-Some t c =
    let name : Is c.declared-name.result (judged c.args.known.now (leaf c.args.item.now.name.at (form.declares c.args.scope.now c.args.item.now.name.text))) =
    subst (λ (x : List ℕ). Is c.declared-name.result (judged c.args.known.now (leaf c.args.item.now.name.at (form.declares c.args.scope.now x))))
    c.as_slice.ensures c.declared-name.ensures in
    item_is c.args.scope.now c.args.known.now c.initial_phrase.result c.args.item.now (Some c.in-Some.expr) c.in-Some.is
    (c.initial_phrase.ensures c.args.known.now (leaf c.args.item.now.name.at (form.declares c.args.scope.now c.args.item.now.name.text))
    (shape.expr c.args.scope.now c.in-Some.expr) name c.judge-value.ensures)

pub judge_items-loop-item-preserved : goal.judge_items-loop-item-preserved
judge_items-loop-item-preserved t c =
    row_goes c.args.known.now (shape.item c.args.scope.now) c.args.items.now c.loop-item.item-index c.item-item.result c.with-row.result c.loop-item-test.true
    c.item-item.is
    (c.with-row.ensures (judged_all c.args.known.now (all_of (map (shape.item c.args.scope.now) (take c.loop-item.item-index c.args.items.now))))
    (judged c.args.known.now (shape.item c.args.scope.now c.item-item.result)) c.loop-item.invariant c.judge_item.ensures)

pub judge_item-returns-in-None : goal.judge_item-returns-in-None
judge_item-returns-in-None t c =
    let name : Is c.declared-name.result (judged c.args.known.now (leaf c.args.item.now.name.at (form.declares c.args.scope.now c.args.item.now.name.text))) =
    subst (λ (x : List ℕ). Is c.declared-name.result (judged c.args.known.now (leaf c.args.item.now.name.at (form.declares c.args.scope.now x))))
    c.as_slice.ensures c.declared-name.ensures in
    item_is c.args.scope.now c.args.known.now c.declared-name.result c.args.item.now None c.in-None.is name

pub judge_counter-returns : goal.judge_counter-returns
judge_counter-returns t c =
    let counter = c.args.counter.now in
    let k = c.args.known.now in
    let name : Is c.named-name.result (judged k (form.name Counts counter.name.at c.args.scope.now counter.name.text)) =
    subst (λ (x : List ℕ). Is c.named-name.result (judged k (form.name Counts counter.name.at c.args.scope.now x))) c.as_slice-text.ensures
    c.named-name.ensures in
    subst (λ (x : shape.Counted). Is c.three.result (triple (judged k x.0) (judged k x.1) (judged k x.2))) (sym (counter_shape c.args.scope.now counter))
    (c.three.ensures (judged k (form.name Counts counter.name.at c.args.scope.now counter.name.text))
    (judged k (walk.optional_expr c.args.scope.now counter.from)) (judged k (shape.limit c.args.scope.now counter.limit).1)
    name c.judge_optional-from.ensures c.judge_limit-limit.ensures)

-- ---- units

pub judge_unit-returns-in-Variables : goal.judge_unit-returns-in-Variables
judge_unit-returns-in-Variables t c =
    variables_is c.args.scope.now c.args.known.now c.judge_declaration.result c.args.unit.now c.in-Variables.field-0 c.in-Variables.field-1 c.in-Variables.items
    c.as_slice.result.now c.in-Variables.is c.as_slice.ensures (c.judge_declaration.ensures c.in-Variables.field-0)

pub judge_unit-returns-in-Constants : goal.judge_unit-returns-in-Constants
judge_unit-returns-in-Constants t c =
    constants_is c.args.scope.now c.args.known.now c.judge_declaration-in-Constants.result c.args.unit.now c.in-Constants.field-0 c.in-Constants.field-1
    c.in-Constants.items c.as_slice-in-Constants.result.now c.in-Constants.is c.as_slice-in-Constants.ensures
    (c.judge_declaration-in-Constants.ensures c.in-Constants.field-0)

pub judge_unit-returns-in-Bound : goal.judge_unit-returns-in-Bound
judge_unit-returns-in-Bound t c =
    bound_is c.args.scope.now c.args.known.now c.judge_declaration-in-Bound.result c.args.unit.now c.in-Bound.field-0 c.in-Bound.field-1
    c.in-Bound.items c.as_slice-in-Bound.result.now c.in-Bound.is c.as_slice-in-Bound.ensures (c.judge_declaration-in-Bound.ensures c.in-Bound.field-0)

pub judge_unit-returns-in-Becomes : goal.judge_unit-returns-in-Becomes
judge_unit-returns-in-Becomes t c =
    let s = c.args.scope.now in
    let k = c.args.known.now in
    becomes_is s k c.assignment_phrase.result c.args.unit.now c.in-Becomes.at c.in-Becomes.left c.in-Becomes.right c.is_name-named.result c.in-Becomes.is
    (c.is_name-named.ensures s)
    (c.assignment_phrase.ensures k (shape.expr s c.in-Becomes.left) (shape.expr s c.in-Becomes.right) c.judge-left.ensures c.judge-right.ensures)

pub judge_unit-returns-in-Let : goal.judge_unit-returns-in-Let
judge_unit-returns-in-Let t c =
    let_is c.args.scope.now c.args.known.now c.judge_let.result c.args.unit.now c.in-Let.field-0 c.in-Let.items c.as_slice-in-Let.result.now c.in-Let.is
    c.as_slice-in-Let.ensures (c.judge_let.ensures c.in-Let.field-0)

pub judge_unit-judge_units-units-requires : goal.judge_unit-judge_units-units-requires
judge_unit-judge_units-units-requires t c =
    let deep = ap size-Unit c.in-Loop.is ∙ sized-Loop c.in-Loop.at c.in-Loop.counter c.in-Loop.condition c.in-Loop.units c.in-Loop.until in
    rw c.as_slice-in-Loop.ensures (omega (arith, deep))

pub judge_unit-returns-in-None : goal.judge_unit-returns-in-None
judge_unit-returns-in-None t c =
    let k = c.args.known.now in
    let s = c.args.scope.now in
    let v = walk.optional_expr s c.in-Loop.condition in
    let us = shape.units Nothing (map (shape.unit s) c.as_slice-in-Loop.result.now) in
    let u = walk.optional_expr s c.in-Loop.until in
    let turns = c.three-turns.ensures (judged k v) (judged k us) (judged k u) c.judge_optional-condition.ensures c.judge_units-units.ensures
    c.judge_optional-until.ensures in
    loop_is s k c.loop_phrase.result c.args.unit.now c.in-Loop.at c.in-Loop.counter c.in-Loop.condition c.in-Loop.units c.as_slice-in-Loop.result.now
    c.in-Loop.until c.in-Loop.is c.as_slice-in-Loop.ensures
    (subst (λ (o : Option Counter).
    Is c.loop_phrase.result (judged k (loop_of s c.in-Loop.at o c.in-Loop.condition c.as_slice-in-Loop.result.now c.in-Loop.until)))
    (sym c.in-None.is) (c.loop_phrase.ensures k v us u turns))

pub judge_unit-returns-in-Some : goal.judge_unit-returns-in-Some
judge_unit-returns-in-Some t c =
    let k = c.args.known.now in
    let s = c.args.scope.now in
    let v = walk.optional_expr s c.in-Loop.condition in
    let us = shape.units Nothing (map (shape.unit s) c.as_slice-in-Loop.result.now) in
    let u = walk.optional_expr s c.in-Loop.until in
    let turns = c.three-turns.ensures (judged k v) (judged k us) (judged k u) c.judge_optional-condition.ensures c.judge_units-units.ensures
    c.judge_optional-until.ensures in
    let counter = c.get-counter.result.now in
    let d = shape.counter s counter in
    let way : c.way.result ≡ d.3 = c.way.ensures s ∙ sym (ap (λ (x : shape.Counted). x.3) (counter_shape s counter)) in
    loop_is s k c.count_phrase.result c.args.unit.now c.in-Loop.at c.in-Loop.counter c.in-Loop.condition c.in-Loop.units c.as_slice-in-Loop.result.now
    c.in-Loop.until c.in-Loop.is c.as_slice-in-Loop.ensures
    (subst (λ (o : Option Counter).
    Is c.count_phrase.result (judged k (loop_of s c.in-Loop.at o c.in-Loop.condition c.as_slice-in-Loop.result.now c.in-Loop.until)))
    (ap (λ (x : Counter). Some x) c.get-counter.ensures ∙ sym c.in-Some.is)
    (subst (λ (w : Way). Is c.count_phrase.result (judged k (row c.in-Loop.at (form.count w) (d.0 ∷ d.1 ∷ d.2 ∷ v ∷ us ∷ u ∷ [])))) way
    (c.count_phrase.ensures k d.0 d.1 d.2 v us u c.judge_counter-bounds.ensures turns)))

pub judge_role-returns-in_ok-meant-in-Of : goal.judge_role-returns-in_ok-meant-in-Of
judge_role-returns-in_ok-meant-in-Of t c =
    let p = shape.written (shape.unit c.args.scope.now c.args.unit.now) in
    subst (λ (d : Wanted). Is c.must_deliver.result (judged c.args.known.now (shape.role (walk.wanted d) p))) (sym c.in-Of.is)
    (one_is c.args.known.now (form.place p) (form.must_deliver c.in-Of.of.now) p c.must_deliver.result c.in_ok-meant-in-Of.meant c.in_ok-meant-in-Of.ensures
    (subst (λ (a : ℕ). Tells c.must_deliver.result (units.must_deliver a c.in-Of.of.now c.in_ok-meant-in-Of.meant)) (c.unit_place.ensures c.args.scope.now)
    c.must_deliver.ensures))

pub add_role-returns-in-None : goal.add_role-returns-in-None
add_role-returns-in-None t c = λ done h.
    let p = shape.written (shape.unit c.args.scope.now c.args.unit.now) in
    subst (λ (o : Option Wanted). Is c.args.row (judged_all c.args.known.now (all_of (done ++ walk.in_role (option_map walk.wanted o) p)))) (sym c.in-None.is)
    (subst (λ (ps : List Phrase). Is c.args.row (judged_all c.args.known.now (all_of ps))) (sym (append-nil done)) h)

pub add_role-returns-in-Some : goal.add_role-returns-in-Some
add_role-returns-in-Some t c = λ done h.
    let p = shape.written (shape.unit c.args.scope.now c.args.unit.now) in
    subst (λ (o : Option Wanted). Is c.with.result (judged_all c.args.known.now (all_of (done ++ walk.in_role (option_map walk.wanted o) p)))) (sym c.in-Some.is)
    (row_is c.args.known.now c.with.result done (shape.role (walk.wanted c.in-Some.wanted) p)
    (c.with.ensures (judged_all c.args.known.now (all_of done)) (judged c.args.known.now (shape.role (walk.wanted c.in-Some.wanted) p)) h c.judge_role.ensures))

pub judge_roles-loop-i-preserved : goal.judge_roles-loop-i-preserved
judge_roles-loop-i-preserved t c =
    roles_go c.args.known.now c.args.scope.now (walk.wanted c.args.wanted) c.loop-i.row c.add_role-row.result c.args.units.now c.loop-i.i c.index-units-i.result
    (option_map walk.wanted c.asked-role.result) _ c.loop-i-test.true c.index-units-i.is
    (c.asked-role.ensures c.args.scope.now) c.add_role-row.ensures c.loop-i.invariant

pub judge_roles-returns : goal.judge_roles-returns
judge_roles-returns t c =
    roles_end c.args.known.now c.args.scope.now (walk.wanted c.args.wanted) c.loop-i.row c.args.units.now c.loop-i.i _ c.loop-i-test.false c.loop-i.invariant
