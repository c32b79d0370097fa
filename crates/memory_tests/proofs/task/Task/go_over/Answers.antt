use Rattle.std.proofs.Common.{arith, refl, None}
use Rattle.page_table.specs.Frames.{over}
use Rattle.space_memory.specs.Memories.{roots}
use Rattle.space_memory.proofs.Framed.{whole_of, roots_long}
use Rattle.memory_tests.proofs.Tasks.{memory_stands, memory_went}
use Rattle.memory_tests.proofs.task.Task.go_over.Goals as goal

pub over-lent-requires : goal.over-lent-requires
over-lent-requires c =
    let m = c.args.self.now.memory in
    let live = c.count.ensures in
    let also = c.count-2.ensures in
    record {
      agree = whole_of _ (roots m) 18 (omega (arith, live.count, live.few, roots_long m.spaces)) (omega arith)
          (memory_stands _ m c.args.self.now.other (omega (arith, also.count, also.few)) c.args.self.now.agree 18 (omega arith)
          (omega (arith, live.count, live.few)));
      backed = record { each = λ p block is. refl };
    }

pub invariant_of-self : goal.invariant_of-self
invariant_of-self c =
    let also = c.count-2.ensures in
    let same = c.over-lent.ensures in
    let went = c.go.new.memory in
    record {
      agree = memory_went _ (over went.pool.now None) c.args.self.now.memory went.memory.now c.args.self.now.other (omega (arith, also.count, also.few))
          c.args.self.now.agree (rw (same.pool_same, same.memory_same) at c.go.ensures.frames);
    }
