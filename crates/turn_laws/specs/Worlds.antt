-- What a turn of a task depends on.
use Rattle.std.specs.Prelude.{◌≡◌, ℕ, ◌==◌, List, [], ◌∷◌, filter, drop, length, Option, Some, None}
use Rattle.turn_laws.specs.Below.task_numbers.specs.declared.number.TaskNo.{TaskNo}
use Rattle.turn_laws.specs.Below.terminals.specs.Channels.{channel, channel_of}
use Rattle.turn_laws.specs.Below.session_text.specs.declared.display.Piece.{Piece}
use Rattle.turn_laws.specs.Below.session_text.specs.Display.{Display, unfinished_at}
use Rattle.system_meaning.specs.Systems.{Moment}
use Rattle.turn_laws.specs.Own.{own_of}

-- the pieces of a channel
abbrev pub at_channel : ℕ → List Piece → List Piece
at_channel c pieces = filter (λ (p : Piece). p.channel == c) pieces

-- what was shown at it since then
abbrev pub shown_since : Display → ℕ → Display → List Piece
shown_since before c now = at_channel c (drop (length before.shown) now.shown)

-- at this channel the same lines wait, and the same bytes have no line end yet
abbrev pub SameAt : Option ℕ → Moment → Moment → Type 0
SameAt None m n = Unit {0}
SameAt (Some c) m n =
    ((channel c m.system.shared.channels).queue ≡ (channel c n.system.shared.channels).queue) × (unfinished_at c m.display ≡ unfinished_at c n.display)

-- in both moments all that is the task's own is the same, it is coupled to the same channel, and that is the same
pub record SameFor (u : TaskNo) (m n : Moment) : Type 0 where
  pub own : own_of u m.system ≡ own_of u n.system
  pub channel : channel_of u m.system.shared.channels ≡ channel_of u n.system.shared.channels
  pub terminal : SameAt (channel_of u m.system.shared.channels) m n

-- and from two moments to two later ones the same was shown there
abbrev pub SameShown : Option ℕ → Moment → Moment → Moment → Moment → Type 0
SameShown None m n later other = Unit {0}
SameShown (Some c) m n later other = shown_since m.display c later.display ≡ shown_since n.display c other.display

pub record GoesSame (u : TaskNo) (m n later other : Moment) : Type 0 where
  pub same : SameFor u later other
  pub shown : SameShown (channel_of u m.system.shared.channels) m n later other

-- the next turn is the task's
abbrev pub IsNext : TaskNo → List TaskNo → Type 0
IsNext u [] = ⊥
IsNext u (t ∷ ready) = t ≡ u
