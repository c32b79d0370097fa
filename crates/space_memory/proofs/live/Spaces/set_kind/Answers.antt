use Rattle.space_memory.proofs.Numbers.{numbered_with}
use Rattle.space_memory.proofs.live.Spaces.set_kind.Goals as goal

pub invariant_of-self : goal.invariant_of-self
invariant_of-self c = rw (c.get_mut.follows.holds c.set_kind.new.self).0 (numbered_with c.args.s.0 _ _ _ c.self.invariant)
