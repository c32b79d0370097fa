use Rattle.space_memory.specs.Below.page_table.specs.Frames.{over}
use Rattle.std.proofs.Common.{ap}
use Rattle.space_memory.proofs.Roots.{keeps_none}
use Rattle.space_memory.specs.Memories.{MemoryData}
use Rattle.space_memory.proofs.Framed.{parcel_stands, fewer_stand, son_frames, son_keeps}
use Rattle.space_memory.proofs.space_memory.SpaceMemory.inherit.Goals as goal

pub copy-requires : goal.copy-requires
copy-requires c = record { agree = parcel_stands _ _ c.self.view_is _ 1 (fewer_stand _ _ c.requires.agree) }

pub returns-in_err-packets-clause-keeps : goal.returns-in_err-packets-clause-keeps
returns-in_err-packets-clause-keeps c = λ tell. rw c.in_err-packets.ensures.err (keeps_none _ _)

pub returns-clause-frames : goal.returns-clause-frames
returns-clause-frames c = λ tell.
    let of = ap (λ (m : MemoryData). m.packets) c.self.view_is in
    rw (c.nil.ensures, c.in_ok-packets.ensures.same, c.new.ensures, of)
    (son_frames c.args.self.now (over c.args.pool.now tell) (over c.copy.new.pool tell) (rw of at c.in_ok-packets.ensures.frames tell))

pub returns-clause-keeps : goal.returns-clause-keeps
returns-clause-keeps c = λ tell.
    let of = ap (λ (m : MemoryData). m.packets) c.self.view_is in
    son_keeps c.args.self.now (over c.args.pool.now tell) (over c.copy.new.pool tell) (rw of at c.in_ok-packets.ensures.frames tell) (rw of at c.copy.ensures.shows tell) c.requires.agree
