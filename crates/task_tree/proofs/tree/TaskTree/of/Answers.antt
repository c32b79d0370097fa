-- A tree comes back from its rows.
use Rattle.std.proofs.Common.{◌≡◌, true, map, All, sym, ap, subst, ◌∙◌}
use Rattle.std.specs.List.{list_any}
use Rattle.std.proofs.lemmas.Bool.{false≢true}
use Rattle.task_tree.specs.declared.row.TreeRow.{TreeRow}
use Rattle.task_tree.specs.Rows.{row_of}
use Rattle.task_tree.specs.Tree.{Tree, number, has_number, sons}
use Rattle.task_tree.specs.Whole.{IsGrown}
use Rattle.task_tree.proofs.Rows.{same_tree, all_sons, rows_back}
use Rattle.task_tree.proofs.tree.TaskTree.of.Goals as goal

pub returns-in-Err-clause-refused : goal.returns-in-Err-clause-refused
returns-in-Err-clause-refused c = λ cause s whole last rows.
    c.in-Err.ensures.refused cause (subst IsGrown (same_tree s c.args.last c.args.rows.now last rows) whole.grown)

pub returns-then-not-has_ur-clause-refused : goal.returns-then-not-has_ur-clause-refused
returns-then-not-has_ur-clause-refused c = λ cause s whole last rows.
    let tasks = ap (λ (t : Tree). t.tasks) (same_tree s c.args.last c.args.rows.now last rows) ∙ sym c.in-Ok.ensures.tasks ∙ sym c.deref.ensures.value in
    let ur : list_any (has_number (number 1)) c.deref.result.now ≡ true = subst (λ ts. list_any (has_number (number 1)) ts ≡ true) tasks whole.ur in
    false≢true (sym c.if-not-has_ur.true ∙ c.has_ur.ensures ∙ ur)

pub returns-then-not-branch-clause-refused : goal.returns-then-not-branch-clause-refused
returns-then-not-branch-clause-refused c = λ cause s whole last rows.
    let made : Tree = record { tasks = c.in-Ok.tasks.items; last = c.args.last } in
    let same : s ≡ made = same_tree s c.args.last c.args.rows.now last rows ∙ ap (λ ts. record { tasks = ts; last = c.args.last }) (sym c.in-Ok.ensures.tasks) in
    let all = subst (λ rs. All (λ (r : TreeRow). r.sons ≡ sons r.number s) rs) rows (all_sons s s.tasks) in
    c.in_ok-has_all_sons.ensures.some c.if-not-branch.true (subst (λ t. All (λ (r : TreeRow). r.sons ≡ sons r.number t) c.args.rows.now) same all)

pub returns-clause-rows : goal.returns-clause-rows
returns-clause-rows c =
    let made : Tree = record { tasks = c.in-Ok.tasks.items; last = c.args.last } in
    ap (map (row_of made)) c.in-Ok.ensures.tasks ∙ rows_back made c.args.rows.now (c.in_ok-has_all_sons.ensures.all c.if-not-branch.false)

pub returns-clause-same : goal.returns-clause-same
returns-clause-same c = λ s last rows.
    sym (same_tree s c.args.last c.args.rows.now last rows ∙ ap (λ ts. record { tasks = ts; last = c.args.last }) (sym c.in-Ok.ensures.tasks))
