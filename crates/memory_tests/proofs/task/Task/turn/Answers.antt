use Rattle.space_memory.specs.Memories.{roots}
use Rattle.memory_tests.proofs.Tasks.{turned}
use Rattle.memory_tests.proofs.task.Task.turn.Goals as goal

pub invariant_of-self : goal.invariant_of-self
invariant_of-self c = record {
  agree = rw (c.swap.ensures.x_after, c.swap.ensures.y_after)
      (turned _ (roots c.args.self.now.memory) (roots c.args.self.now.other) c.args.self.now.agree);
}
