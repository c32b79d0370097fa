use Rattle.std.proofs.Common.{sym, subst}
use Rattle.space_memory.specs.Live.{LiveData}
use Rattle.space_names.specs.Directory as directory
use Rattle.space_memory.specs.Memories.{LeadToSpaces}
use Rattle.space_memory.proofs.Framed.{taken_frames}
use Rattle.space_memory.proofs.Led.{led_without}
use Rattle.space_memory.proofs.space_memory.SpaceMemory.take.Goals as goal

pub invariant_of-self : goal.invariant_of-self
invariant_of-self c =
    rw c.forget.ensures
    (subst (λ (live : LiveData). LeadToSpaces (directory.without_space c.args.s.0 c.self.inside.names) live.spaces) (sym c.take.ensures.others)
    (led_without c.args.s.0 _ _ c.self.invariant))

pub returns-clause-frames : goal.returns-clause-frames
returns-clause-frames c = rw (c.take.ensures.space, c.take.ensures.others) (taken_frames _ _ c.self.view_is c.args.s.0 c.requires.live)
