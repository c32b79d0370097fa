use Rattle.std.proofs.Common.{sym, ◌∙◌}
use Rattle.eu_base.proofs.Heads.{long_heads}
use Rattle.space_memory.specs.Memories.{head_of}
use Rattle.space_memory.proofs.lent.LentMemory.count.Goals as goal

pub returns : goal.returns
returns g c = c.count.ensures.count ∙ sym (long_heads head_of c.args.self.now.memory.now.spaces)
