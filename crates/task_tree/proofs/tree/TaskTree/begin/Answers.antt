-- A task that begins leaves the tree one.
use Rattle.std.proofs.Common.{◌≡◌, ◌+◌, ◌<◌, true, false, [], ◌∷◌, ◌++◌, length, sym, subst, arith}
use Rattle.std.specs.List.{list_any}
use Rattle.std.proofs.lemmas.Grind.{common_steps}
use Rattle.task_numbers.specs.declared.limits.TheConstants.{TASKS}
use Rattle.task_tree.specs.Tree as spec
use Rattle.task_tree.specs.Whole.{IsWhole}
use Rattle.task_tree.proofs.Whole.{begun_is_whole}
use Rattle.task_tree.proofs.tree.TaskTree.begin.Goals as goal

pub invariant_of-self-2 : goal.invariant_of-self-2
invariant_of-self-2 c =
    let old : spec.Tree = record { tasks = c.self.inside.tasks.items; last = c.self.inside.last } in
    let free : list_any (spec.has_name c.args.name.now) old.tasks ≡ false = grind (arith, c.if-is_taken.false, c.is_taken.ensures, c.self.view_is) in
    let room : length old.tasks < TASKS = grind (arith, common_steps, c.if-len-ge-TASKS.false, c.len.ensures) in
    let live : spec.lives c.args.father old ≡ true = subst (λ s. spec.lives c.args.father s ≡ true) (sym c.self.view_is) c.requires.live in
    let pushed : c.push.new.self.items ≡ old.tasks ++ spec.task (spec.next old) c.args.name.now c.args.father ∷ [] =
    grind (arith, common_steps, c.push.ensures.items, c.is_err.ensures.value, c.is_err.ensures.negation, c.if-is_err.false, c.in_ok-name.ensures) in
    subst (λ tasks. IsWhole (record { tasks = tasks; last = c.self.inside.last + 1 })) (sym pushed)
    (begun_is_whole old c.args.name.now c.args.father c.self.invariant free room live c.requires.named)
