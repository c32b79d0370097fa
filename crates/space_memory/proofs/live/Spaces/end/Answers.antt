use Rattle.std.proofs.Common.{List, ℕ, None, ◌≤◌, length, sym, subst, arith}
use Rattle.page_pool.specs.Pool.{Tell}
use Rattle.space_memory.specs.Below.page_table.specs.Frames.{over, Stands, Frames}
use Rattle.space_memory.specs.Below.page_table.proofs.Framing.{frames_none, frames_then, stands_after}
use Rattle.data_space.specs.Data.{SpaceData}
use Rattle.space_memory.specs.Live.{LiveData, space_roots}
use Rattle.space_memory.proofs.Roots.{last_stands, last_frames, last_fewer, frees_none, frees_then, none_left}
use Rattle.space_memory.proofs.live.Spaces.end.Goals as goal

pub loop-space-init : goal.loop-space-init
loop-space-init c = record {
  stands = subst (λ (live : LiveData). Stands c.args.pool.now (space_roots live.spaces) 0) (sym c.self.view_is) c.requires.agree;
  frames = λ tell. subst (λ (live : LiveData). Frames (over c.args.pool.now tell) (over c.args.pool.now tell) (space_roots live.spaces) (space_roots c.self.inside.spaces.entries)) c.self.view_is
      (frames_none (over c.args.pool.now tell) _);
  fewer = subst (λ (live : LiveData). length (space_roots c.self.inside.spaces.entries) ≤ length (space_roots live.spaces)) c.self.view_is (omega arith);
  frees = frees_none _;
  used = omega arith;
}

pub forget-requires : goal.forget-requires
forget-requires c = record { agree = last_stands _ _ _ _ c.in-Some.ensures.entries _ c.loop-space.invariant.stands }

pub loop-space-preserved : goal.loop-space-preserved
loop-space-preserved c =
    let frames = λ (tell : Tell). last_frames _ _ _ _ c.in-Some.ensures.entries (over c.loop-space.pool tell) (over c.forget.new.pool tell) (c.forget.ensures.frames tell) in
    let inv = c.loop-space.invariant in
    let fewer = last_fewer _ _ _ _ c.in-Some.ensures.entries in
    record {
      stands = stands_after (over c.loop-space.pool None) (over c.forget.new.pool None) _ _ 0 0 (omega (arith, fewer)) (frames None) inv.stands;
      frames = λ tell. frames_then (over c.args.pool.now tell) (over c.loop-space.pool tell) (over c.forget.new.pool tell) _ _ _ (omega (arith, inv.fewer)) (inv.frames tell) (frames tell);
      fewer = omega (arith, inv.fewer, fewer);
      frees = frees_then _ _ _ inv.frees c.forget.ensures.frees;
      used = omega (arith, inv.used, c.forget.ensures.used);
    }

pub returns-clause-frames : goal.returns-clause-frames
returns-clause-frames c = λ tell.
    let none = none_left c.loop-space.spaces.entries c.in_default.ensures.found.1 in
    subst (λ (es : List (ℕ × SpaceData)). Frames (over c.args.pool.now tell) (over c.loop-space.pool tell) (space_roots c.args.self.spaces) (space_roots es)) none
    (c.loop-space.invariant.frames tell)
