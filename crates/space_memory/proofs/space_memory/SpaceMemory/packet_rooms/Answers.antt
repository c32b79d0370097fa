use Rattle.space_memory.specs.Below.page_table.specs.Frames.{over}
use Rattle.space_memory.proofs.Framed.{parcel_stands, parcel_frames, only_packets}
use Rattle.space_memory.proofs.space_memory.SpaceMemory.packet_rooms.Goals as goal

pub rooms-requires-clause-agree : goal.rooms-requires-clause-agree
rooms-requires-clause-agree g c = parcel_stands _ _ c.self.view_is _ 0 c.requires.agree

pub returns-clause-rest : goal.returns-clause-rest
returns-clause-rest g c = only_packets _ _ c.self.view_is (over c.args.pool.now (g.B.Backing.tells c.args.backing.now)) (over c.rooms.new.pool (g.B.Backing.tells c.rooms.new.backing)) c.rooms.new.space c.rooms.ensures.kind c.rooms.ensures.frames c.requires.agree

pub returns-clause-frames : goal.returns-clause-frames
returns-clause-frames g c = parcel_frames _ _ c.self.view_is (over c.args.pool.now (g.B.Backing.tells c.args.backing.now)) (over c.rooms.new.pool (g.B.Backing.tells c.rooms.new.backing)) c.rooms.new.space c.rooms.ensures.frames
