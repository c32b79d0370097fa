-- Calls that need room for more spaces than they leave, and one that was refused.
use Rattle.std.specs.Prelude.{ℕ, ◌+◌, ◌≤◌, ◌++◌, length}
use Rattle.page_pool.specs.Pool.{Pages}
use Rattle.task_ends.specs.Below.page_table.specs.Entries.{Names}
use Rattle.task_ends.specs.Below.page_table.specs.Sharing.{most_spaces, Agree}
use Rattle.task_ends.specs.Below.page_table.specs.Frames.{KeepsHomes}
use Rattle.task_ends.specs.Below.task_job.specs.Here.{Knows, Framed}

-- The spaces with the roots before become those with the roots after. Whatever the rest is, where there was room for so many spaces more,
-- pool and spaces agree, and no byte of the rest changed. What is known stays known.
pub record RoomFrames (old new : Pages) (before after : Names) (more : ℕ) : Type 0 where
  pub knows : Knows old → Knows new
  pub homes : KeepsHomes old new
  pub frame : (rest : Names) → Agree old (before ++ rest) → length (before ++ rest) + more ≤ most_spaces → Framed old new after rest

-- Where there was room for so many spaces more, pool and spaces agree as before, and no byte of the rest changed.
abbrev pub Refused : Pages → Pages → Names → ℕ → Type 0
Refused old new mine more = RoomFrames old new mine mine more
