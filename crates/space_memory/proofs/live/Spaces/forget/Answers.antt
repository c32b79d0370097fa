use Rattle.std.proofs.Common.{nat_eq, sym, subst, [], arith}
use Rattle.space_memory.specs.Below.page_table.specs.Frames.{over, Stands, Frames}
use Rattle.space_memory.specs.Live.{LiveData, space_roots, without}
use Rattle.space_memory.proofs.Numbers.{numbered_without, gone_without}
use Rattle.space_memory.proofs.Roots.{one_stands, gone_frames, others_keep}
use Rattle.space_memory.proofs.live.Spaces.forget.Goals as goal

pub forget-requires : goal.forget-requires
forget-requires c =
    let stands = subst (λ (live : LiveData). Stands c.args.pool.now (space_roots live.spaces) 0) (sym c.self.view_is) c.requires.agree in
    record { agree = one_stands (nat_eq c.args.s.0) _ _ (sym c.in-Some.ensures.value) _ 0 stands }

pub invariant_of-self-2 : goal.invariant_of-self-2
invariant_of-self-2 c = rw c.shift_remove.ensures.entries (numbered_without c.args.s.0 _ _ c.self.invariant)

pub returns-clause-frames : goal.returns-clause-frames
returns-clause-frames c = λ tell.
    let left = space_roots (without c.args.s.0 c.self.inside.spaces.entries) in
    rw c.shift_remove.ensures.entries
    (subst (λ (live : LiveData). Frames (over c.args.pool.now tell) (over c.forget.new.pool tell) (space_roots live.spaces) left) c.self.view_is
    (gone_frames (nat_eq c.args.s.0) _ _ (sym c.in-Some.ensures.value) _ _ (c.forget.ensures.frames tell)))

pub returns-clause-keeps : goal.returns-clause-keeps
returns-clause-keeps c = λ tell.
    let stands = subst (λ (live : LiveData). Stands c.args.pool.now (space_roots live.spaces) 0) (sym c.self.view_is) c.requires.agree in
    rw c.shift_remove.ensures.entries
    (others_keep (nat_eq c.args.s.0) _ _ (sym c.in-Some.ensures.value) (over c.args.pool.now tell) (over c.forget.new.pool tell) [] 0 (omega arith) (c.forget.ensures.frames tell) stands)

pub returns-clause-gone : goal.returns-clause-gone
returns-clause-gone c = rw c.shift_remove.ensures.entries (gone_without 0 c.args.s.0 _ _ c.self.invariant.rise)
