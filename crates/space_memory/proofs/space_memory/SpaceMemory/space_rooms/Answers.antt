use Rattle.page_pool.specs.Pool.{Known}
use Rattle.std.proofs.Common.{◌≡◌, ◌+◌, sym, subst}
use Rattle.std.specs.Prelude.{IfOk, OnOk}
use Rattle.eu_base.specs.Spaces.{IsKept}
use Rattle.space_memory.specs.Below.page_table.specs.Frames.{over, content_at}
use Rattle.text_heap.specs.Texts.{Texts, Holds, blocks_in}
use Rattle.space_memory.specs.Live.{LiveData, the_space}
use Rattle.space_memory.specs.Memories.{MemoryData, LeadToSpaces}
use Rattle.space_memory.proofs.Framed.{live_stand, live_frames, only_space}
use Rattle.space_memory.proofs.Led.{led_with}
use Rattle.space_memory.proofs.space_memory.SpaceMemory.space_rooms.Goals as goal

pub rooms-requires-clause-agree : goal.rooms-requires-clause-agree
rooms-requires-clause-agree g c = live_stand _ _ c.self.view_is _ 0 c.requires.agree

pub invariant_of-self : goal.invariant_of-self
invariant_of-self g c =
    subst (λ (live : LiveData). LeadToSpaces c.self.inside.names live.spaces) (sym c.rooms.ensures.others)
    (led_with _ _ c.args.s.0 (the_space c.args.s.0 c.rooms.new.self.spaces) c.self.invariant)

pub returns-clause-rest : goal.returns-clause-rest
returns-clause-rest g c =
    only_space _ _ c.self.view_is (over c.args.pool.now (g.B.Backing.tells c.args.backing.now)) (over c.rooms.new.pool (g.B.Backing.tells c.rooms.new.backing)) c.args.s.0 c.rooms.new.self c.rooms.ensures.others c.rooms.ensures.kind c.rooms.ensures.frames c.rooms.ensures.keeps
    c.requires.agree

pub returns-clause-frames : goal.returns-clause-frames
returns-clause-frames g c = live_frames _ _ c.self.view_is (over c.args.pool.now (g.B.Backing.tells c.args.backing.now)) (over c.rooms.new.pool (g.B.Backing.tells c.rooms.new.backing)) c.rooms.new.self.spaces c.rooms.ensures.frames

pub returns-clause-rooms : goal.returns-clause-rooms
returns-clause-rooms g c =
    subst (λ (u : MemoryData). IfOk c.rooms.result (λ rooms. Known (g.B.Backing.tells c.args.backing.now) c.args.pool.now → (texts : Texts) → Holds (content_at (over c.args.pool.now (g.B.Backing.tells c.args.backing.now)) (the_space c.args.s.0 u.spaces).root) texts → rooms + blocks_in texts ≡ 4096))
    c.self.view_is c.rooms.ensures.rooms

pub returns-clause-same : goal.returns-clause-same
returns-clause-same g c =
    subst (λ (u : MemoryData). OnOk c.rooms.result (IsKept (content_at (over c.args.pool.now (g.B.Backing.tells c.args.backing.now)) (the_space c.args.s.0 u.spaces).root) (content_at (over c.rooms.new.pool (g.B.Backing.tells c.rooms.new.backing)) (the_space c.args.s.0 c.rooms.new.self.spaces).root)))
    c.self.view_is c.rooms.ensures.same
