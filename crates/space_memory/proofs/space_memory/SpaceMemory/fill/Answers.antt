use Rattle.space_memory.specs.Below.page_table.specs.Frames.{over}
use Rattle.std.proofs.Common.{◌∙◌, length, ap, sym, subst, arith}
use Rattle.space_memory.specs.Live.{LiveData, space_roots, without, the_space}
use Rattle.space_memory.specs.Memories.{LeadToSpaces}
use Rattle.space_memory.proofs.Framed.{live_stand, live_frames, live_keep}
use Rattle.space_memory.proofs.Led.{led_with, with_long}
use Rattle.space_memory.proofs.space_memory.SpaceMemory.fill.Goals as goal

pub fill-requires-clause-agree : goal.fill-requires-clause-agree
fill-requires-clause-agree g c = live_stand _ _ c.self.view_is _ 0 c.requires.agree

pub invariant_of-self : goal.invariant_of-self
invariant_of-self g c =
    subst (λ (live : LiveData). LeadToSpaces c.self.inside.names live.spaces) (sym c.fill.ensures.others)
    (led_with _ _ c.args.s.0 (the_space c.args.s.0 c.fill.new.self.spaces) c.self.invariant)

pub returns-clause-frames : goal.returns-clause-frames
returns-clause-frames g c = live_frames _ _ c.self.view_is (over c.args.pool.now (g.B.Backing.tells c.args.backing.now)) (over c.fill.new.pool (g.B.Backing.tells c.fill.new.backing)) c.fill.new.self.spaces c.fill.ensures.frames

pub returns-clause-keeps : goal.returns-clause-keeps
returns-clause-keeps g c =
    let long = ap (λ (live : LiveData). length live.spaces) c.fill.ensures.others
    ∙ with_long c.args.s.0 (the_space c.args.s.0 c.fill.new.self.spaces) c.self.inside.spaces.spaces in
    live_keep _ _ c.self.view_is (over c.args.pool.now (g.B.Backing.tells c.args.backing.now)) (over c.fill.new.pool (g.B.Backing.tells c.fill.new.backing)) c.fill.new.self.spaces c.fill.ensures.frames 0 (omega (arith, long)) c.requires.agree
    (λ spaces. space_roots (without c.args.s.0 spaces)) c.fill.ensures.keeps
