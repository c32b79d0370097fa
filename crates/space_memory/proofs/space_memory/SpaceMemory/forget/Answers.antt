use Rattle.space_memory.specs.Below.page_table.specs.Frames.{over}
use Rattle.std.proofs.Common.{length, ap, sym, subst, arith}
use Rattle.space_memory.specs.Live.{LiveData, space_roots}
use Rattle.space_names.specs.Directory as directory
use Rattle.space_memory.specs.Memories.{LeadToSpaces}
use Rattle.space_memory.proofs.Framed.{live_stand, live_frames, left_keep}
use Rattle.space_memory.proofs.Led.{led_without, without_long}
use Rattle.space_memory.proofs.space_memory.SpaceMemory.forget.Goals as goal

pub forget-requires-2 : goal.forget-requires-2
forget-requires-2 c = record { agree = live_stand _ _ c.self.view_is _ 0 c.requires.agree }

pub invariant_of-self : goal.invariant_of-self
invariant_of-self c =
    rw c.forget.ensures
    (subst (λ (live : LiveData). LeadToSpaces (directory.without_space c.args.s.0 c.self.inside.names) live.spaces) (sym c.forget-2.ensures.others)
    (led_without c.args.s.0 _ _ c.self.invariant))

pub returns-clause-frames : goal.returns-clause-frames
returns-clause-frames c = λ tell. live_frames _ _ c.self.view_is (over c.args.pool.now tell) (over c.forget-2.new.pool tell) c.forget-2.new.self.spaces (c.forget-2.ensures.frames tell)

pub returns-clause-keeps : goal.returns-clause-keeps
returns-clause-keeps c = λ tell.
    let long = ap (λ (live : LiveData). length live.spaces) c.forget-2.ensures.others in
    let fewer = without_long c.args.s.0 c.self.inside.spaces.spaces in
    left_keep _ _ c.self.view_is (over c.args.pool.now tell) (over c.forget-2.new.pool tell) c.forget-2.new.self.spaces (c.forget-2.ensures.frames tell) 0 (omega (arith, long, fewer)) c.requires.agree
    (space_roots c.forget-2.new.self.spaces) (c.forget-2.ensures.keeps tell)
