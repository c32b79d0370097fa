use Rattle.space_memory.specs.Below.page_table.specs.Frames.{over}
use Rattle.space_memory.proofs.Framed.{parcel_stands, parcel_frames, only_packets}
use Rattle.space_memory.proofs.space_memory.SpaceMemory.set_packet_cell.Goals as goal

pub set_number-requires-clause-agree : goal.set_number-requires-clause-agree
set_number-requires-clause-agree g c = parcel_stands _ _ c.self.view_is _ 0 c.requires.agree

pub returns-clause-rest : goal.returns-clause-rest
returns-clause-rest g c = only_packets _ _ c.self.view_is (over c.args.pool.now (g.B.Backing.tells c.args.backing.now)) (over c.set_number.new.pool (g.B.Backing.tells c.set_number.new.backing)) c.set_number.new.space c.set_number.ensures.kind c.set_number.ensures.frames c.requires.agree

pub returns-clause-frames : goal.returns-clause-frames
returns-clause-frames g c = parcel_frames _ _ c.self.view_is (over c.args.pool.now (g.B.Backing.tells c.args.backing.now)) (over c.set_number.new.pool (g.B.Backing.tells c.set_number.new.backing)) c.set_number.new.space c.set_number.ensures.frames
