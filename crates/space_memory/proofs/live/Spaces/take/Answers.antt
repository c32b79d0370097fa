use Rattle.space_memory.proofs.Numbers.{numbered_without}
use Rattle.space_memory.proofs.live.Spaces.take.Goals as goal

pub invariant_of-self : goal.invariant_of-self
invariant_of-self c = rw c.shift_remove.ensures.entries (numbered_without c.args.s.0 _ _ c.self.invariant)
