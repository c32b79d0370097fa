use Rattle.std.proofs.Common.{sym, subst}
use Rattle.space_memory.specs.Live.{LiveData}
use Rattle.space_memory.specs.Memories.{LeadToSpaces}
use Rattle.space_memory.proofs.Framed.{kind_roots}
use Rattle.space_memory.proofs.Led.{led_with}
use Rattle.space_memory.proofs.space_memory.SpaceMemory.set_kind.Goals as goal

pub invariant_of-self : goal.invariant_of-self
invariant_of-self c =
    subst (λ (live : LiveData). LeadToSpaces c.self.inside.names live.spaces) (sym c.set_kind.ensures) (led_with _ _ c.args.s.0 _ c.self.invariant)

pub returns-clause-roots : goal.returns-clause-roots
returns-clause-roots c = rw c.set_kind.ensures (kind_roots _ _ c.self.view_is c.args.s.0 _ c.requires.live)
