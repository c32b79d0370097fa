use Rattle.std.proofs.Common.{arith, None}
use Rattle.memory_tests.proofs.Tasks.{memory_stands, memory_after}
use Rattle.memory_tests.proofs.task.Task.make.Goals as goal

pub make-requires-clause-agree : goal.make-requires-clause-agree
make-requires-clause-agree c =
    let also = c.count.ensures in
    let live = c.count-then-there.ensures in
    memory_stands _ c.args.self.now.memory c.args.self.now.other (omega (arith, also.count, also.few)) c.args.self.now.agree 1 (omega arith)
    (omega (arith, live.count, live.few))

pub invariant_of-self : goal.invariant_of-self
invariant_of-self c =
    let also = c.count.ensures in
    let after = c.count-then-last_number-lt1000.ensures in
    record {
      agree = memory_after _ c.args.self.now.memory c.args.self.now.other (omega (arith, also.count, also.few)) c.args.self.now.agree _ c.make.new.self
          (omega (arith, after.count, after.few)) (c.make.ensures.frames None);
    }
