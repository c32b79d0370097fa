use Rattle.space_memory.proofs.Led.{led_unnamed}
use Rattle.space_memory.proofs.space_memory.SpaceMemory.unname.Goals as goal

pub invariant_of-self : goal.invariant_of-self
invariant_of-self c = rw c.take.ensures.others (led_unnamed _ _ c.args.name.now c.self.invariant)
