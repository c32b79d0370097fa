use Rattle.space_memory.specs.Below.page_table.specs.Frames.{over}
use Rattle.space_memory.proofs.Framed.{command_stands, command_frames, only_run}
use Rattle.space_memory.proofs.space_memory.SpaceMemory.run_rooms.Goals as goal

pub rooms-requires-clause-agree : goal.rooms-requires-clause-agree
rooms-requires-clause-agree g c = command_stands _ _ c.self.view_is _ 0 c.requires.agree

pub returns-clause-rest : goal.returns-clause-rest
returns-clause-rest g c = only_run _ _ c.self.view_is (over c.args.pool.now (g.B.Backing.tells c.args.backing.now)) (over c.rooms.new.pool (g.B.Backing.tells c.rooms.new.backing)) c.rooms.new.space c.rooms.ensures.kind c.rooms.ensures.frames c.requires.agree

pub returns-clause-frames : goal.returns-clause-frames
returns-clause-frames g c = command_frames _ _ c.self.view_is (over c.args.pool.now (g.B.Backing.tells c.args.backing.now)) (over c.rooms.new.pool (g.B.Backing.tells c.rooms.new.backing)) c.rooms.new.space c.rooms.ensures.frames
