use Rattle.std.proofs.Common.{[], ◌∷◌, sym, subst}
use Rattle.named_texts.specs.Below.page_table.specs.Entries.{Names}
use Rattle.named_texts.specs.Below.page_table.specs.Frames.{over, Frames, Stands}
use Rattle.named_texts.specs.Below.page_table.proofs.Framing.{frames_more, stands_first}
use Rattle.data_space.specs.Data.{SpaceData}
use Rattle.space_memory.specs.Memories.{MemoryData, roots}
use Rattle.named_texts.proofs.Giving.{given_live, same_named}
use Rattle.named_texts.proofs.keep.give_named.Goals as goal

pub name-requires-clause-live : goal.name-requires-clause-live
name-requires-clause-live c =
    given_live c.args.memory.now c.give.new.self c.args.space c.in-Ok.s.0 c.in-Ok.ensures.given c.in-Ok.ensures.number

pub forget-requires : goal.forget-requires
forget-requires c = record {
  agree =
      subst (λ (d : SpaceData). Stands c.args.pool.now (d.root ∷ []) 0) (sym c.in-Err.ensures.back)
      (stands_first c.args.pool.now (c.args.space.root ∷ []) (roots c.args.memory.now) 0 c.requires.agree);
}

pub returns-in-Ok-clause-frames : goal.returns-in-Ok-clause-frames
returns-in-Ok-clause-frames c = λ tell.
    subst (λ (names : Names). Frames (over c.args.pool.now tell) (over c.args.pool.now tell) (c.args.space.root ∷ roots c.args.memory.now) names)
    (sym (same_named c.name.result c.give.new.self c.name.new.self _ c.name.ensures.ok c.name.ensures.err)) (c.in-Ok.ensures.frames (over c.args.pool.now tell))

pub returns-in-Err-clause-frames : goal.returns-in-Err-clause-frames
returns-in-Err-clause-frames c = λ tell.
    subst (λ (u : MemoryData). Frames (over c.args.pool.now tell) (over c.forget.new.pool tell) (c.args.space.root ∷ roots c.args.memory.now) (roots u)) (sym c.in-Err.ensures.err)
    (frames_more (over c.args.pool.now tell) (over c.forget.new.pool tell) (c.args.space.root ∷ []) [] (roots c.args.memory.now)
    (subst (λ (d : SpaceData). Frames (over c.args.pool.now tell) (over c.forget.new.pool tell) (d.root ∷ []) []) c.in-Err.ensures.back (c.forget.ensures.frames tell)))
