use Rattle.std.proofs.Common.{sym, arith, None}
use Rattle.space_memory.specs.Memories.{roots}
use Rattle.memory_tests.proofs.Tasks.{taken, given, in_hand, let_go, fewer}
use Rattle.memory_tests.proofs.task.Task.renumber.Goals as goal

pub give-requires-clause-few : goal.give-requires-clause-few
give-requires-clause-few c =
    let few = fewer c.args.s.0 _ _ c.take-space.ensures.forgotten in
    omega (arith, few, c.count.ensures.count, c.if-count-lt-MOST_LIVE.true)

pub forget-requires : goal.forget-requires
forget-requires c =
    let other = roots c.args.self.now.other in
    let held = taken other _ c.args.s.0 _ _ _ (sym c.if-live.ensures) c.take-space.ensures.space c.take-space.ensures.forgotten c.args.self.now.agree in
    record { agree = rw c.in-Err.ensures.back (in_hand _ _ _ held) }

pub invariant_of-self : goal.invariant_of-self
invariant_of-self c =
    let other = roots c.args.self.now.other in
    let held = taken other _ c.args.s.0 _ _ _ (sym c.if-live.ensures) c.take-space.ensures.space c.take-space.ensures.forgotten c.args.self.now.agree in
    record { agree = given other _ _ _ _ c.in-Ok.ensures.given held }

pub invariant_of-self-in-Err : goal.invariant_of-self-in-Err
invariant_of-self-in-Err c =
    let other = roots c.args.self.now.other in
    let held = taken other _ c.args.s.0 _ _ _ (sym c.if-live.ensures) c.take-space.ensures.space c.take-space.ensures.forgotten c.args.self.now.agree in
    record { agree = rw c.in-Err.ensures.err (let_go _ _ _ _ (rw c.in-Err.ensures.back at (c.forget.ensures.frames None)) held) }
