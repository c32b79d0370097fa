use Rattle.page_pool.specs.Pool.{Known}
use Rattle.std.proofs.Common.{sym, subst}
use Rattle.std.specs.Prelude.{OnOk}
use Rattle.space_memory.specs.Below.page_table.specs.Frames.{over, content_at}
use Rattle.cell_layout.specs.Layout.{HoldsIn, IsKeptBut}
use Rattle.space_memory.specs.Live.{LiveData, the_space}
use Rattle.space_memory.specs.Memories.{MemoryData, LeadToSpaces}
use Rattle.space_memory.proofs.Framed.{live_stand, live_frames, only_space}
use Rattle.space_memory.proofs.Led.{led_with}
use Rattle.space_memory.proofs.space_memory.SpaceMemory.set_space_cell.Goals as goal

pub set_cell-requires-clause-agree : goal.set_cell-requires-clause-agree
set_cell-requires-clause-agree g c = live_stand _ _ c.self.view_is _ 0 c.requires.agree

pub invariant_of-self : goal.invariant_of-self
invariant_of-self g c =
    subst (λ (live : LiveData). LeadToSpaces c.self.inside.names live.spaces) (sym c.set_cell.ensures.others)
    (led_with _ _ c.args.s.0 (the_space c.args.s.0 c.set_cell.new.self.spaces) c.self.invariant)

pub returns-clause-rest : goal.returns-clause-rest
returns-clause-rest g c =
    only_space _ _ c.self.view_is (over c.args.pool.now (g.B.Backing.tells c.args.backing.now)) (over c.set_cell.new.pool (g.B.Backing.tells c.set_cell.new.backing)) c.args.s.0 c.set_cell.new.self c.set_cell.ensures.others c.set_cell.ensures.kind c.set_cell.ensures.frames c.set_cell.ensures.keeps
    c.requires.agree

pub returns-clause-frames : goal.returns-clause-frames
returns-clause-frames g c = live_frames _ _ c.self.view_is (over c.args.pool.now (g.B.Backing.tells c.args.backing.now)) (over c.set_cell.new.pool (g.B.Backing.tells c.set_cell.new.backing)) c.set_cell.new.self.spaces c.set_cell.ensures.frames

pub returns-clause-holds : goal.returns-clause-holds
returns-clause-holds g c =
    subst (λ (u : MemoryData). OnOk c.set_cell.result (Known (g.B.Backing.tells c.args.backing.now) c.args.pool.now → HoldsIn (content_at (over c.args.pool.now (g.B.Backing.tells c.args.backing.now)) (the_space c.args.s.0 u.spaces).root) (content_at (over c.set_cell.new.pool (g.B.Backing.tells c.set_cell.new.backing)) (the_space c.args.s.0 c.set_cell.new.self.spaces).root) c.args.cell c.args.number))
    c.self.view_is c.set_cell.ensures.holds

pub returns-clause-kept : goal.returns-clause-kept
returns-clause-kept g c =
    subst (λ (u : MemoryData). Known (g.B.Backing.tells c.args.backing.now) c.args.pool.now → IsKeptBut (content_at (over c.args.pool.now (g.B.Backing.tells c.args.backing.now)) (the_space c.args.s.0 u.spaces).root) (content_at (over c.set_cell.new.pool (g.B.Backing.tells c.set_cell.new.backing)) (the_space c.args.s.0 c.set_cell.new.self.spaces).root) c.args.cell 1)
    c.self.view_is c.set_cell.ensures.kept
