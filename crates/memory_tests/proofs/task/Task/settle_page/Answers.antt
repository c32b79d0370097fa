use Rattle.std.proofs.Common.{sym}
use Rattle.memory_tests.proofs.Settled.{settled_agree}
use Rattle.memory_tests.proofs.task.Task.settle_page.Goals as goal

pub invariant_of-self : goal.invariant_of-self
invariant_of-self c = record {
  agree = settled_agree _ _ _ _ _ c.settle.ensures.settles c.settle.ensures.sound (sym c.if-not-pinned.ensures) c.args.self.now.agree;
}
