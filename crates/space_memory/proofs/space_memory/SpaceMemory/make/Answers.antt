use Rattle.space_memory.specs.Below.page_table.specs.Frames.{over}
use Rattle.space_memory.specs.Below.page_table.proofs.Framing.{frames_none}
use Rattle.space_memory.proofs.Roots.{keeps_none}
use Rattle.space_memory.specs.Memories.{roots}
use Rattle.space_memory.proofs.Framed.{nil_frames}
use Rattle.space_memory.proofs.space_memory.SpaceMemory.make.Goals as goal
use Rattle.space_memory.proofs.space_memory.SpaceMemory.make.Goals.{in-Ok, in-Err}

pub returns-after-give-clause-frames : goal.returns-after-give-clause-frames
returns-after-give-clause-frames c = λ tell. elim c.match-give.branch [
  | in-Ok w ↦ rw (w.in-Ok.ensures.given, c.nil.ensures) (nil_frames (over c.args.pool.now tell) c.args.self.now)
  | in-Err w ↦ rw w.in-Err.ensures.err (frames_none (over c.args.pool.now tell) (roots c.args.self.now))
]

pub returns-after-give-clause-keeps : goal.returns-after-give-clause-keeps
returns-after-give-clause-keeps c = λ tell. keeps_none (over c.args.pool.now tell) _
