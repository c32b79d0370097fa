use Rattle.memory_tests.proofs.Threes.{turn}
use Rattle.memory_tests.proofs.data_spaces.Three.turn.Goals as goal

pub invariant_of-self : goal.invariant_of-self
invariant_of-self c =
    record {
      agree =
          rw (c.swap.ensures.x_after, c.swap-2.ensures.x_after, c.swap-2.ensures.y_after, c.swap.ensures.y_after) (turn _ _ _ _ c.args.self.now.agree);
    }
