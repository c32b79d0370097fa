use Rattle.std.proofs.Common.{arith, ap, length, None}
use Rattle.space_memory.specs.Memories.{MemoryData, roots}
use Rattle.memory_tests.proofs.Tasks.{first_stands, first_after}
use Rattle.memory_tests.proofs.task.Task.clear_run.Goals as goal

pub clear_run-requires : goal.clear_run-requires
clear_run-requires c = record { agree = first_stands _ (roots c.args.self.now.other) _ c.args.self.now.agree }

pub invariant_of-self : goal.invariant_of-self
invariant_of-self c =
    let as_many = ap (λ (u : MemoryData). length (roots u)) c.clear_run.ensures.cleared in
    record { agree = first_after _ (roots c.args.self.now.other) _ _ _ (omega (arith, as_many)) (c.clear_run.ensures.frames None) c.args.self.now.agree }
