use Rattle.std.proofs.Common.{◌∷◌, sym, subst}
use Rattle.space_memory.specs.Live.{LiveData, space_roots}
use Rattle.space_memory.specs.Memories.{LeadToSpaces, roots}
use Rattle.space_memory.specs.Below.page_table.specs.Frames.{Frames}
use Rattle.space_memory.proofs.Framed.{given_frames}
use Rattle.space_memory.proofs.Led.{led_new}
use Rattle.space_memory.proofs.space_memory.SpaceMemory.give.Goals as goal
use Rattle.space_memory.proofs.space_memory.SpaceMemory.give.Goals.{in-Ok, in-Err}

pub invariant_of-self : goal.invariant_of-self
invariant_of-self c = elim c.match-add.branch [
  | in-Ok w ↦ subst (λ (live : LiveData). LeadToSpaces c.self.inside.names live.spaces) (sym w.in-Ok.ensures.added) (led_new _ _ _ c.self.invariant)
  | in-Err w ↦ subst (λ (live : LiveData). LeadToSpaces c.self.inside.names live.spaces) (sym w.in-Err.ensures.err) c.self.invariant
]

pub returns-clause-frames : goal.returns-clause-frames
returns-clause-frames c = elim c.match-add.branch [
  | in-Ok w ↦ rw w.result-is (λ pages.
      subst (λ (live : LiveData). Frames pages pages (c.args.space.root ∷ roots c.args.self.now)
      (c.self.inside.run.root ∷ c.self.inside.packets.root ∷ space_roots live.spaces)) (sym w.in-Ok.ensures.added)
      (given_frames _ _ c.self.view_is c.args.space pages))
  | in-Err w ↦ rw w.result-is tt
]
