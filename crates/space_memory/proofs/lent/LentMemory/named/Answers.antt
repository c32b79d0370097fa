use Rattle.space_memory.proofs.Changed.{live_told}
use Rattle.space_memory.proofs.lent.LentMemory.named.Goals as goal

pub returns-clause-live : goal.returns-clause-live
returns-clause-live g c = live_told c.named.result c.args.self.now.memory.now c.named.ensures.live
