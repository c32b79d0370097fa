use Rattle.space_memory.specs.Below.page_table.specs.Frames.{over}
use Rattle.std.proofs.Common.{◌+◌, [], ◌∷◌, length, ap, sym, subst, arith}
use Rattle.std.proofs.lemmas.List.{length-append}
use Rattle.space_memory.specs.Live.{LiveData, the_space, space_roots}
use Rattle.space_memory.specs.Memories.{LeadToSpaces}
use Rattle.space_memory.proofs.Framed.{live_stand, live_frames, live_keep}
use Rattle.space_memory.proofs.Led.{led_new}
use Rattle.space_memory.proofs.space_memory.SpaceMemory.make_copy.Goals as goal
use Rattle.space_memory.proofs.space_memory.SpaceMemory.make_copy.Goals.{in-Ok, in-Err}

pub copy-requires-clause-agree : goal.copy-requires-clause-agree
copy-requires-clause-agree c = live_stand _ _ c.self.view_is _ 1 c.requires.agree

pub invariant_of-self : goal.invariant_of-self
invariant_of-self c = elim c.match-copy.branch [
  | in-Ok w ↦ subst (λ (live : LiveData). LeadToSpaces c.self.inside.names live.spaces) (sym w.in-Ok.ensures.added) (led_new _ _ _ c.self.invariant)
  | in-Err w ↦ subst (λ (live : LiveData). LeadToSpaces c.self.inside.names live.spaces) (sym w.in-Err.ensures.err) c.self.invariant
]

pub returns-clause-frames : goal.returns-clause-frames
returns-clause-frames c = λ tell. live_frames _ _ c.self.view_is (over c.args.pool.now tell) (over c.copy.new.pool tell) c.copy.new.self.spaces (c.copy.ensures.frames tell)

pub returns-clause-keeps : goal.returns-clause-keeps
returns-clause-keeps c = elim c.match-copy.branch [
  | in-Ok w ↦ λ tell.
      let long = ap (λ (live : LiveData). length live.spaces) w.in-Ok.ensures.added in
      live_keep _ _ c.self.view_is (over c.args.pool.now tell) (over c.copy.new.pool tell) c.copy.new.self.spaces (c.copy.ensures.frames tell) 1
      (omega (arith, long, length-append c.self.inside.spaces.spaces ((c.self.inside.spaces.last + 1, the_space c.args.of.0 c.self.inside.spaces.spaces) ∷ []))) c.requires.agree (λ spaces. space_roots spaces) (c.copy.ensures.keeps tell)
  | in-Err w ↦ λ tell.
      let long = ap (λ (live : LiveData). length live.spaces) w.in-Err.ensures.err in
      live_keep _ _ c.self.view_is (over c.args.pool.now tell) (over c.copy.new.pool tell) c.copy.new.self.spaces (c.copy.ensures.frames tell) 1
      (omega (arith, long)) c.requires.agree (λ spaces. space_roots spaces) (c.copy.ensures.keeps tell)
]
