use Rattle.page_pool.specs.Pool.{Known}
use Rattle.std.proofs.Common.{◌≡◌, sym, subst}
use Rattle.std.specs.Prelude.{IfOk, OnOk}
use Rattle.eu_base.specs.Spaces.{IsKept}
use Rattle.space_memory.specs.Below.page_table.specs.Frames.{over, content_at}
use Rattle.cell_layout.specs.Layout.{cell_in}
use Rattle.space_memory.specs.Live.{LiveData, the_space}
use Rattle.space_memory.specs.Memories.{MemoryData, LeadToSpaces}
use Rattle.space_memory.proofs.Framed.{live_stand, live_frames, only_space}
use Rattle.space_memory.proofs.Led.{led_with}
use Rattle.space_memory.proofs.space_memory.SpaceMemory.space_cell.Goals as goal

pub cell-requires-clause-agree : goal.cell-requires-clause-agree
cell-requires-clause-agree g c = live_stand _ _ c.self.view_is _ 0 c.requires.agree

pub invariant_of-self : goal.invariant_of-self
invariant_of-self g c =
    subst (λ (live : LiveData). LeadToSpaces c.self.inside.names live.spaces) (sym c.cell.ensures.others)
    (led_with _ _ c.args.s.0 (the_space c.args.s.0 c.cell.new.self.spaces) c.self.invariant)

pub returns-clause-rest : goal.returns-clause-rest
returns-clause-rest g c =
    only_space _ _ c.self.view_is (over c.args.pool.now (g.B.Backing.tells c.args.backing.now)) (over c.cell.new.pool (g.B.Backing.tells c.cell.new.backing)) c.args.s.0 c.cell.new.self c.cell.ensures.others c.cell.ensures.kind c.cell.ensures.frames c.cell.ensures.keeps
    c.requires.agree

pub returns-clause-frames : goal.returns-clause-frames
returns-clause-frames g c = live_frames _ _ c.self.view_is (over c.args.pool.now (g.B.Backing.tells c.args.backing.now)) (over c.cell.new.pool (g.B.Backing.tells c.cell.new.backing)) c.cell.new.self.spaces c.cell.ensures.frames

pub returns-clause-number : goal.returns-clause-number
returns-clause-number g c =
    subst (λ (u : MemoryData). IfOk c.cell.result (λ number. Known (g.B.Backing.tells c.args.backing.now) c.args.pool.now → number ≡ cell_in (content_at (over c.args.pool.now (g.B.Backing.tells c.args.backing.now)) (the_space c.args.s.0 u.spaces).root) c.args.cell))
    c.self.view_is c.cell.ensures.number

pub returns-clause-same : goal.returns-clause-same
returns-clause-same g c =
    subst (λ (u : MemoryData). OnOk c.cell.result (IsKept (content_at (over c.args.pool.now (g.B.Backing.tells c.args.backing.now)) (the_space c.args.s.0 u.spaces).root) (content_at (over c.cell.new.pool (g.B.Backing.tells c.cell.new.backing)) (the_space c.args.s.0 c.cell.new.self.spaces).root)))
    c.self.view_is c.cell.ensures.same
