use Rattle.page_pool.specs.Pool.{Pages}
use Rattle.named_texts.specs.Below.page_table.specs.Frames.{over}
use Rattle.std.proofs.Common.{[], ap, arith}
use Rattle.named_texts.specs.Below.page_table.proofs.Framing.{frames_none, homes_backed, stands_after, stands_first}
use Rattle.space_memory.specs.Memories.{roots}
use Rattle.named_texts.proofs.Giving.{back_frames, refused_frames, stands_then, stands_more, bytes_kept, given_frames, not_given_frames, last_long, kept_there, on_err}
use Rattle.named_texts.proofs.keep.keep_text.Goals as goal

pub forget_named-requires-clause-agree : goal.forget_named-requires-clause-agree
forget_named-requires-clause-agree g c =
    let mine = roots c.args.memory.now in
    stands_after (over c.args.pool.now (g.B.Backing.tells c.args.backing.now)) (over c.args.pool.now (g.B.Backing.tells c.args.backing.now)) mine mine 1 0 (omega arith) (frames_none (over c.args.pool.now (g.B.Backing.tells c.args.backing.now)) mine) c.requires.agree

pub returns-then-is_some-clause-back : goal.returns-then-is_some-clause-back
returns-then-is_some-clause-back g c =
    back_frames (over c.args.pool.now (g.B.Backing.tells c.args.backing.now)) (over c.forget_named.new.pool (g.B.Backing.tells c.args.backing.now)) (roots c.args.memory.now) (roots c.forget_named.new.memory) (c.forget_named.ensures.frames (g.B.Backing.tells c.args.backing.now))

pub write_source-requires-clause-agree : goal.write_source-requires-clause-agree
write_source-requires-clause-agree g c =
    stands_first c.forget_named.new.pool [] (roots c.forget_named.new.memory) 1
    (stands_then (over c.args.pool.now (g.B.Backing.tells c.args.backing.now)) (over c.forget_named.new.pool (g.B.Backing.tells c.args.backing.now)) (over c.forget_named.new.pool (g.B.Backing.tells c.args.backing.now)) (roots c.args.memory.now) (roots c.forget_named.new.memory)
    (c.forget_named.ensures.frames (g.B.Backing.tells c.args.backing.now)) c.forget_named.ensures.fewer c.requires.agree)

pub returns-in_err-space-clause-back : goal.returns-in_err-space-clause-back
returns-in_err-space-clause-back g c =
    on_err c.from_residual.result _
    (refused_frames (over c.args.pool.now (g.B.Backing.tells c.args.backing.now)) (over c.forget_named.new.pool (g.B.Backing.tells c.args.backing.now)) (over c.write_source.new.pool (g.B.Backing.tells c.write_source.new.backing)) (roots c.args.memory.now) (roots c.forget_named.new.memory)
    (c.forget_named.ensures.frames (g.B.Backing.tells c.args.backing.now)) c.forget_named.ensures.fewer c.in_err-space.ensures.given_back)

pub give_named-requires-clause-agree : goal.give_named-requires-clause-agree
give_named-requires-clause-agree g c =
    stands_more (over c.args.pool.now (g.B.Backing.tells c.args.backing.now)) (over c.forget_named.new.pool (g.B.Backing.tells c.args.backing.now)) (over c.write_source.new.pool (g.B.Backing.tells c.write_source.new.backing)) (roots c.args.memory.now) (roots c.forget_named.new.memory)
    (c.forget_named.ensures.frames (g.B.Backing.tells c.args.backing.now)) c.forget_named.ensures.fewer c.requires.agree c.in_ok-space.space.root c.in_ok-space.ensures.frames

pub returns-clause-kept : goal.returns-clause-kept
returns-clause-kept g c =
    kept_there (over c.args.pool.now (g.B.Backing.tells c.args.backing.now)) (over c.forget_named.new.pool (g.B.Backing.tells c.args.backing.now)) (over c.write_source.new.pool (g.B.Backing.tells c.write_source.new.backing)) (over c.give_named.new.pool (g.B.Backing.tells c.write_source.new.backing)) c.args.memory.now c.forget_named.new.memory
    c.give_named.new.memory c.args.name.now c.args.lines.now c.in_ok-space.space c.forget_named.ensures.gone c.in_ok-space.ensures.holds
    (c.forget_named.ensures.keeps (g.B.Backing.tells c.args.backing.now))
    (bytes_kept (over c.args.pool.now (g.B.Backing.tells c.args.backing.now)) (over c.forget_named.new.pool (g.B.Backing.tells c.args.backing.now)) (over c.write_source.new.pool (g.B.Backing.tells c.write_source.new.backing)) (roots c.args.memory.now) (roots c.forget_named.new.memory)
    (c.forget_named.ensures.frames (g.B.Backing.tells c.args.backing.now)) c.forget_named.ensures.fewer c.requires.agree c.in_ok-space.space.root c.in_ok-space.ensures.frames)
    c.in_ok-give_named.ensures.given (ap (λ (x : Pages). over x (g.B.Backing.tells c.write_source.new.backing)) c.in_ok-give_named.ensures.same)

pub returns-clause-frames : goal.returns-clause-frames
returns-clause-frames g c =
    given_frames (over c.args.pool.now (g.B.Backing.tells c.args.backing.now)) (over c.forget_named.new.pool (g.B.Backing.tells c.args.backing.now)) (over c.write_source.new.pool (g.B.Backing.tells c.write_source.new.backing)) (roots c.args.memory.now) (roots c.forget_named.new.memory)
    (c.forget_named.ensures.frames (g.B.Backing.tells c.args.backing.now)) c.forget_named.ensures.fewer c.requires.agree c.in_ok-space.space.root c.in_ok-space.ensures.frames
    (over c.give_named.new.pool (g.B.Backing.tells c.write_source.new.backing)) (roots c.give_named.new.memory) (c.give_named.ensures.frames (g.B.Backing.tells c.write_source.new.backing))
    (last_long c.forget_named.new.memory c.give_named.new.memory c.in_ok-space.space c.args.name.now c.in_ok-give_named.ensures.given)

pub returns-in_err-give_named-clause-back : goal.returns-in_err-give_named-clause-back
returns-in_err-give_named-clause-back g c =
    on_err c.from_residual-in_err-give_named.result _
    (not_given_frames (over c.args.pool.now (g.B.Backing.tells c.args.backing.now)) (over c.forget_named.new.pool (g.B.Backing.tells c.args.backing.now)) (over c.write_source.new.pool (g.B.Backing.tells c.write_source.new.backing)) (roots c.args.memory.now) (roots c.forget_named.new.memory)
    (c.forget_named.ensures.frames (g.B.Backing.tells c.args.backing.now)) c.forget_named.ensures.fewer c.requires.agree c.in_ok-space.space.root c.in_ok-space.ensures.frames
    (over c.give_named.new.pool (g.B.Backing.tells c.write_source.new.backing)) (roots c.give_named.new.memory) (c.give_named.ensures.frames (g.B.Backing.tells c.write_source.new.backing)))

pub write_source-requires-clause-backed : goal.write_source-requires-clause-backed
write_source-requires-clause-backed g c = homes_backed c.args.pool.now c.forget_named.new.pool (λ block is. is) (c.forget_named.ensures.frames (g.B.Backing.tells c.args.backing.now)).homes c.requires.backed
