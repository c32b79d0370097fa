use Rattle.std.proofs.Common.{nat_eq, sym, subst, [], ◌∷◌, arith}
use Rattle.space_memory.specs.Below.page_table.specs.Frames.{over, Stands, Frames}
use Rattle.space_memory.specs.Kept.{KeepsBytes}
use Rattle.space_memory.specs.Live.{LiveData, space_roots, with_space, without}
use Rattle.space_memory.proofs.Numbers.{numbered_with}
use Rattle.space_memory.proofs.Roots.{one_stands, one_frames, others_keep}
use Rattle.space_memory.proofs.live.Spaces.cell.Goals as goal

pub number-requires-clause-agree : goal.number-requires-clause-agree
number-requires-clause-agree g c =
    let stands = subst (λ (live : LiveData). Stands c.args.pool.now (space_roots live.spaces) 0) (sym c.self.view_is) c.requires.agree in
    one_stands (nat_eq c.args.s.0) _ _ (sym c.in-Some.ensures.value) _ 0 stands

pub invariant_of-self : goal.invariant_of-self
invariant_of-self g c = rw (c.get_mut.follows.holds c.number.new.space).0 (numbered_with c.args.s.0 _ _ _ c.self.invariant)

pub returns-clause-frames : goal.returns-clause-frames
returns-clause-frames g c =
    let later = space_roots (with_space c.args.s.0 c.number.new.space c.self.inside.spaces.entries) in
    rw (c.get_mut.follows.holds c.number.new.space).0
    (subst (λ (live : LiveData). Frames (over c.args.pool.now (g.B.Backing.tells c.args.backing.now)) (over c.number.new.pool (g.B.Backing.tells c.number.new.backing)) (space_roots live.spaces) later) c.self.view_is
    (one_frames (nat_eq c.args.s.0) _ _ (sym c.in-Some.ensures.value) (over c.args.pool.now (g.B.Backing.tells c.args.backing.now)) (over c.number.new.pool (g.B.Backing.tells c.number.new.backing)) c.number.new.space c.number.ensures.frames))

pub returns-clause-keeps : goal.returns-clause-keeps
returns-clause-keeps g c =
    let stands = subst (λ (live : LiveData). Stands c.args.pool.now (space_roots live.spaces) 0) (sym c.self.view_is) c.requires.agree in
    subst (λ (live : LiveData). KeepsBytes (over c.args.pool.now (g.B.Backing.tells c.args.backing.now)) (over c.number.new.pool (g.B.Backing.tells c.number.new.backing)) (space_roots (without c.args.s.0 live.spaces))) c.self.view_is
    (others_keep (nat_eq c.args.s.0) _ _ (sym c.in-Some.ensures.value) (over c.args.pool.now (g.B.Backing.tells c.args.backing.now)) (over c.number.new.pool (g.B.Backing.tells c.number.new.backing)) (c.number.new.space.root ∷ []) 0 (omega arith) c.number.ensures.frames stands)
