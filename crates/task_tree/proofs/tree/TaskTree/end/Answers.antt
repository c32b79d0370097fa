-- What the closure keeps is the filter by the same test.
use Rattle.std.proofs.Common.{rules, ◌≡◌, not, sym, subst, arith}
use Rattle.std.proofs.lemmas.Fn.{filter_same}
use Rattle.task_numbers.specs.Numbers.{niltask}
use Rattle.task_tree.specs.Tree as spec
use Rattle.task_tree.specs.Whole.{IsWhole}
use Rattle.task_tree.proofs.Whole.{ended_is_whole}
use Rattle.task_tree.proofs.tree.TaskTree.end.Goals as goal

pub returns : goal.returns
returns c =
    let kept = filter_same _ (λ u. not (spec.has_number c.args.task u)) _ (λ x b q k. search rules) _ _ c.retain.ensures.filtered in
    grind (arith, kept, c.self.view_is)

pub invariant_of-self : goal.invariant_of-self
invariant_of-self c =
    let kept = filter_same _ (λ u. not (spec.has_number c.args.task u)) _ (λ x b q k. search rules) _ _ c.retain.ensures.filtered in
    let old : spec.Tree = record { tasks = c.self.inside.tasks.items; last = c.self.inside.last } in
    let none : spec.son c.args.task old ≡ niltask = subst (λ s. spec.son c.args.task s ≡ niltask) (sym c.self.view_is) c.requires.childless in
    subst (λ tasks. IsWhole (record { tasks = tasks; last = c.self.inside.last })) (sym kept)
    (ended_is_whole old c.args.task c.self.invariant none c.requires.later)
