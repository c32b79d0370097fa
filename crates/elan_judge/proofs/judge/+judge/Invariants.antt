use Rattle.std.proofs.Common.{List, [], ◌++◌, map, take, drop}
use Rattle.elan_scope.specs.Answer.{Is}
use Rattle.elan_rules.specs.Meaning.{judged_all}
use Rattle.elan_scope.specs.Phrase.{Phrase, all_of}
use Rattle.elan_judge.specs.Shape.{expr, item}
use Rattle.elan_judge.specs.walks.Steps.{wanted}
use Rattle.elan_judge.proofs.Rows.{Grown, left_roles, left_branches, left_cases}
use Rattle.elan_judge.proofs.judge.+judge.Given as goal

abbrev pub invariant-add_exprs-loop-expr : goal.invariant-add_exprs-loop-expr
invariant-add_exprs-loop-expr l =
    (done : List Phrase) → Is l.fn.front (judged_all l.known (all_of done))
    → Is l.row (judged_all l.known (all_of (done ++ map (expr l.scope) (take l.expr-index l.exprs))))

abbrev pub invariant-judge_items-loop-item : goal.invariant-judge_items-loop-item
invariant-judge_items-loop-item l = Is l.row (judged_all l.known (all_of (map (item l.scope) (take l.item-index l.items))))

abbrev pub invariant-judge_branches-loop-branch : goal.invariant-judge_branches-loop-branch
invariant-judge_branches-loop-branch l =
    Grown l.known l.row (left_branches l.known l.scope (drop l.branch-index l.branches)) (left_branches l.known l.scope l.branches)

abbrev pub invariant-judge_cases-loop-case : goal.invariant-judge_cases-loop-case
invariant-judge_cases-loop-case l =
    Grown l.known l.row (left_cases l.known l.scope l.earlier (drop l.case-index l.cases)) (left_cases l.known l.scope [] l.cases)

abbrev pub invariant-judge_roles-loop-i : goal.invariant-judge_roles-loop-i
invariant-judge_roles-loop-i l = Grown l.known l.row (left_roles l.known l.scope (wanted l.wanted) (drop l.i l.units)) (left_roles l.known l.scope (wanted l.wanted) l.units)
