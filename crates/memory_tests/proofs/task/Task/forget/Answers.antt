use Rattle.std.proofs.Common.{arith, None}
use Rattle.space_memory.specs.Memories.{roots}
use Rattle.space_memory.proofs.Framed.{roots_long}
use Rattle.memory_tests.proofs.Tasks.{first_stands, first_after, fewer}
use Rattle.memory_tests.proofs.task.Task.forget.Goals as goal

pub forget-requires : goal.forget-requires
forget-requires c = record { agree = first_stands _ (roots c.args.self.now.other) _ c.args.self.now.agree }

pub invariant_of-self : goal.invariant_of-self
invariant_of-self c =
    let few = fewer c.args.s.0 _ _ c.forget.ensures.forgotten in
    record {
      agree = first_after _ (roots c.args.self.now.other) _ _ _ (omega (arith, few, roots_long c.args.self.now.memory.spaces, roots_long c.forget.new.self.spaces))
          (c.forget.ensures.frames None) c.args.self.now.agree;
    }
