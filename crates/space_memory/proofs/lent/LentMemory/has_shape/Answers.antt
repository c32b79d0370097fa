use Rattle.std.proofs.Common.{sym, ap, ◌∙◌}
use Rattle.eu_base.specs.DataSpaces.{Head}
use Rattle.space_memory.proofs.Changed.{head_is, live_here}
use Rattle.space_memory.proofs.lent.LentMemory.has_shape.Goals as goal

pub has_shape-requires : goal.has_shape-requires
has_shape-requires g c = record { live = live_here c.args.s c.args.self.now.memory.now c.requires.live }

pub returns : goal.returns
returns g c = c.has_shape.ensures ∙ ap (λ (h : Head). h.shape) (sym (head_is c.args.s c.args.self.now.memory.now))
