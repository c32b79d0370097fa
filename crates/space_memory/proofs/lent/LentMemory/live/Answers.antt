use Rattle.std.proofs.Common.{sym, ◌∙◌}
use Rattle.eu_base.proofs.Heads.{live_there}
use Rattle.space_memory.specs.Memories.{head_of}
use Rattle.space_memory.proofs.lent.LentMemory.live.Goals as goal

pub returns : goal.returns
returns g c = c.live.ensures ∙ sym (live_there head_of c.args.s.0 c.args.self.now.memory.now.spaces)
