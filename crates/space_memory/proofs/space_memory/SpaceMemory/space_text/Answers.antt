use Rattle.page_pool.specs.Pool.{Known}
use Rattle.std.proofs.Common.{◌≡◌, Some, sym, subst}
use Rattle.std.specs.Prelude.{IfOk, OnOk, IsSome}
use Rattle.eu_base.specs.Spaces.{IsKept}
use Rattle.space_memory.specs.Below.page_table.specs.Frames.{over, content_at}
use Rattle.text_heap.specs.Texts.{Texts, Holds}
use Rattle.space_memory.specs.Live.{LiveData, the_space}
use Rattle.space_memory.specs.Memories.{MemoryData, LeadToSpaces}
use Rattle.space_memory.proofs.Framed.{live_stand, live_frames, only_space}
use Rattle.space_memory.proofs.Led.{led_with}
use Rattle.space_memory.proofs.space_memory.SpaceMemory.space_text.Goals as goal

pub text-requires-clause-agree : goal.text-requires-clause-agree
text-requires-clause-agree g c = live_stand _ _ c.self.view_is _ 0 c.requires.agree

pub invariant_of-self : goal.invariant_of-self
invariant_of-self g c =
    subst (λ (live : LiveData). LeadToSpaces c.self.inside.names live.spaces) (sym c.text.ensures.others)
    (led_with _ _ c.args.s.0 (the_space c.args.s.0 c.text.new.self.spaces) c.self.invariant)

pub returns-clause-rest : goal.returns-clause-rest
returns-clause-rest g c =
    only_space _ _ c.self.view_is (over c.args.pool.now (g.B.Backing.tells c.args.backing.now)) (over c.text.new.pool (g.B.Backing.tells c.text.new.backing)) c.args.s.0 c.text.new.self c.text.ensures.others c.text.ensures.kind c.text.ensures.frames c.text.ensures.keeps
    c.requires.agree

pub returns-clause-frames : goal.returns-clause-frames
returns-clause-frames g c = live_frames _ _ c.self.view_is (over c.args.pool.now (g.B.Backing.tells c.args.backing.now)) (over c.text.new.pool (g.B.Backing.tells c.text.new.backing)) c.text.new.self.spaces c.text.ensures.frames

pub returns-clause-text : goal.returns-clause-text
returns-clause-text g c =
    subst (λ (u : MemoryData). IfOk c.text.result (λ text. Known (g.B.Backing.tells c.args.backing.now) c.args.pool.now → (texts : Texts) → Holds (content_at (over c.args.pool.now (g.B.Backing.tells c.args.backing.now)) (the_space c.args.s.0 u.spaces).root) texts → IsSome (texts c.args.cell) → texts c.args.cell ≡ Some text))
    c.self.view_is c.text.ensures.text

pub returns-clause-same : goal.returns-clause-same
returns-clause-same g c =
    subst (λ (u : MemoryData). OnOk c.text.result (IsKept (content_at (over c.args.pool.now (g.B.Backing.tells c.args.backing.now)) (the_space c.args.s.0 u.spaces).root) (content_at (over c.text.new.pool (g.B.Backing.tells c.text.new.backing)) (the_space c.args.s.0 c.text.new.self.spaces).root)))
    c.self.view_is c.text.ensures.same
