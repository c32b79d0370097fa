-- Each task of a tree can follow those before it.
use Rattle.std.proofs.Common.{◌≡◌, ◌∷◌, ◌++◌, [], true, sym, ap, subst, ◌∙◌}
use Rattle.std.proofs.lemmas.Bool.{false≢true}
use Rattle.task_tree.specs.Rows.{task_of, can_follow}
use Rattle.task_tree.specs.Whole.{IsGrown}
use Rattle.task_tree.proofs.Rows.{grown_more, row_follows, tasks_more}
use Rattle.task_tree.proofs.rebuild.tasks_of.Goals as goal

pub returns-then-not-can_follow-clause-refused : goal.returns-then-not-can_follow-clause-refused
returns-then-not-can_follow-clause-refused c = λ _ grown.
    let r = c.row-item.result in
    let follows = row_follows c.args.rows.now c.args.last c.loop-row.row-index r grown c.loop-row-test.true c.row-item.is in
    let can : can_follow c.args.last c.deref.result.now (task_of r) ≡ true =
    subst (λ ts. can_follow c.args.last ts (task_of r) ≡ true) (sym (c.deref.ensures.value ∙ c.loop-row.invariant.tasks)) follows in
    false≢true (sym c.if-not-can_follow.true ∙ c.can_follow.ensures ∙ can)

pub loop-row-preserved : goal.loop-row-preserved
loop-row-preserved c =
    let r = c.row-item.result in
    let pushed : c.add.new.tasks.items ≡ c.loop-row.tasks.items ++ task_of r ∷ [] = c.in_ok-add.ensures in
    let can : can_follow c.args.last c.loop-row.tasks.items (task_of r) ≡ true =
    subst (λ ts. can_follow c.args.last ts (task_of r) ≡ true) c.deref.ensures.value (sym c.can_follow.ensures ∙ c.if-not-can_follow.false) in
    record {
      grown = subst (λ ts. IsGrown (record { tasks = ts; last = c.args.last })) (sym pushed)
          (grown_more (record { tasks = c.loop-row.tasks.items; last = c.args.last }) (task_of r) c.loop-row.invariant.grown can);
      tasks = pushed ∙ ap (λ ts. ts ++ task_of r ∷ []) c.loop-row.invariant.tasks ∙ sym (tasks_more c.args.rows.now c.loop-row.row-index r c.loop-row-test.true c.row-item.is);
    }
