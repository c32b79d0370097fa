use Rattle.std.proofs.Common.{◌≡◌, arith}
use Rattle.task_tree.specs.Tree.{sons}
use Rattle.task_tree.proofs.Added.{entered}
use Rattle.task_tree.proofs.walks.+list.Goals as goal

pub returns : goal.returns
returns t c =
    let sons_are : c.deref-son-items.result.now ≡ sons c.args.task c.args.tree.now = grind (arith, c.deref-son-items.ensures.value, c.in_ok-sons.ensures) in
    entered c.args.levels c.args.level c.args.task c.args.tree.now c.deref-son-items.result.now c.args.out.now.items c.loop-son.out.items c.loop-son.son-index
    c.if-levels-eq0.false sons_are (omega (arith, c.loop-son-test.false)) c.loop-son.invariant
