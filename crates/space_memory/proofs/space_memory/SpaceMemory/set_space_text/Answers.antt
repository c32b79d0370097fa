use Rattle.page_pool.specs.Pool.{Known}
use Rattle.std.proofs.Common.{sym, subst}
use Rattle.std.specs.Prelude.{IfOk, OnOk, IsSome}
use Rattle.space_memory.specs.Below.page_table.specs.Frames.{over, content_at}
use Rattle.text_heap.specs.Texts.{Texts, Holds, Sets, KeepsCells}
use Rattle.space_memory.specs.Live.{LiveData, the_space}
use Rattle.space_memory.specs.Memories.{MemoryData, LeadToSpaces}
use Rattle.space_memory.proofs.Framed.{live_stand, live_frames, only_space}
use Rattle.space_memory.proofs.Led.{led_with}
use Rattle.space_memory.proofs.space_memory.SpaceMemory.set_space_text.Goals as goal

pub set_text-requires-clause-agree : goal.set_text-requires-clause-agree
set_text-requires-clause-agree g c = live_stand _ _ c.self.view_is _ 0 c.requires.agree

pub invariant_of-self : goal.invariant_of-self
invariant_of-self g c =
    subst (λ (live : LiveData). LeadToSpaces c.self.inside.names live.spaces) (sym c.set_text.ensures.others)
    (led_with _ _ c.args.s.0 (the_space c.args.s.0 c.set_text.new.self.spaces) c.self.invariant)

pub returns-clause-rest : goal.returns-clause-rest
returns-clause-rest g c =
    only_space _ _ c.self.view_is (over c.args.pool.now (g.B.Backing.tells c.args.backing.now)) (over c.set_text.new.pool (g.B.Backing.tells c.set_text.new.backing)) c.args.s.0 c.set_text.new.self c.set_text.ensures.others c.set_text.ensures.kind c.set_text.ensures.frames c.set_text.ensures.keeps
    c.requires.agree

pub returns-clause-frames : goal.returns-clause-frames
returns-clause-frames g c = live_frames _ _ c.self.view_is (over c.args.pool.now (g.B.Backing.tells c.args.backing.now)) (over c.set_text.new.pool (g.B.Backing.tells c.set_text.new.backing)) c.set_text.new.self.spaces c.set_text.ensures.frames

pub returns-clause-sets : goal.returns-clause-sets
returns-clause-sets g c =
    subst (λ (u : MemoryData). IfOk c.set_text.result (λ set. Known (g.B.Backing.tells c.args.backing.now) c.args.pool.now → (texts : Texts) → Holds (content_at (over c.args.pool.now (g.B.Backing.tells c.args.backing.now)) (the_space c.args.s.0 u.spaces).root) texts → IsSome (texts c.args.cell) →
    Sets (content_at (over c.args.pool.now (g.B.Backing.tells c.args.backing.now)) (the_space c.args.s.0 u.spaces).root) (content_at (over c.set_text.new.pool (g.B.Backing.tells c.set_text.new.backing)) (the_space c.args.s.0 c.set_text.new.self.spaces).root) texts c.args.cell c.args.t.now set))
    c.self.view_is c.set_text.ensures.sets

pub returns-clause-cells : goal.returns-clause-cells
returns-clause-cells g c =
    subst (λ (u : MemoryData). OnOk c.set_text.result (Known (g.B.Backing.tells c.args.backing.now) c.args.pool.now → KeepsCells (content_at (over c.args.pool.now (g.B.Backing.tells c.args.backing.now)) (the_space c.args.s.0 u.spaces).root) (content_at (over c.set_text.new.pool (g.B.Backing.tells c.set_text.new.backing)) (the_space c.args.s.0 c.set_text.new.self.spaces).root) c.args.cell))
    c.self.view_is c.set_text.ensures.cells
