use Rattle.std.proofs.Common.{arith, ap, length}
use Rattle.space_memory.specs.Live.{the_space}
use Rattle.space_memory.specs.Memories.{MemoryData, roots}
use Rattle.space_memory.proofs.Framed.{roots_long}
use Rattle.space_memory.proofs.Led.{with_long}
use Rattle.memory_tests.proofs.Tasks.{first_stands, first_after}
use Rattle.memory_tests.proofs.task.Task.fill.Goals as goal

pub fill-requires-clause-agree : goal.fill-requires-clause-agree
fill-requires-clause-agree c = first_stands _ (roots c.args.self.now.other) _ c.args.self.now.agree

pub invariant_of-self : goal.invariant_of-self
invariant_of-self c =
    let m = c.args.self.now.memory in
    let as_many = ap (λ (u : MemoryData). length u.spaces) c.fill.ensures.others in
    let long = with_long c.args.s.0 (the_space c.args.s.0 c.fill.new.self.spaces) m.spaces in
    record {
      agree = first_after _ (roots c.args.self.now.other) _ _ _ (omega (arith, as_many, long, roots_long m.spaces, roots_long c.fill.new.self.spaces))
          c.fill.ensures.frames c.args.self.now.agree;
    }
