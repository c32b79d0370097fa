-- The events of a session, and how it ends.
use Rattle.std.specs.Prelude.{ℕ, ◌+◌, Bool, true, false, nat_lt, if◌then◌else◌, List, [], ◌∷◌, ◌++◌, Option, Some, None}
use Rattle.std.specs.List.{list_any}
use Rattle.session_text.specs.declared.events.Event.{Event}
use Rattle.session_text.specs.declared.events.Event.TheVariants.{Line, Supervisor, Turns, Fixpoint, Shut}
use Rattle.session_text.specs.Lines.{events_of}
use Rattle.session_lines.specs.Lines.{lines_of}
use Rattle.session_lines.specs.declared.ending.Ending.{Ending}
use Rattle.session_lines.specs.declared.ending.Ending.TheVariants.{ByShut, AtEnd, BadLine, Full}
use Rattle.session_lines.specs.declared.ending.TheConstants.{MOST_LINES}

pub record Session : Type 0 where
  pub events : List Event
  pub ending : Ending

-- no event comes
abbrev pub ends : Ending → Session
ends ending = record { events = []; ending = ending }

abbrev pub with_events : List Event → Session → Session
with_events events rest = record { events = events ++ rest.events; ending = rest.ending }

abbrev pub is_shut : Event → Bool
is_shut (Line channel text) = false
is_shut (Supervisor channel) = false
is_shut (Turns number) = false
is_shut Fixpoint = false
is_shut Shut = true

-- these events of a line shut the session
abbrev pub shuts : List Event → Bool
shuts events = list_any is_shut events

-- The session from the line of this number on, where `rest` is what follows it. A line of no form ends it, and so does one that shuts
-- it, after its events.
abbrev pub from_line : Option (List Event) → ℕ → Session → Session
from_line None number rest = ends (BadLine number)
from_line (Some events) number rest = with_events events (if shuts events then ends ByShut else rest)

-- the session of these lines, where so many were before them
abbrev pub session : Bool → ℕ → List (List ℕ) → Session
session plain count [] = ends AtEnd
session plain count (line ∷ lines) =
    if nat_lt count MOST_LINES then from_line (events_of plain line) (count + 1) (session plain (count + 1) lines) else ends Full

-- the session of these bytes, in the plain form or in that with channels
abbrev pub session_of : Bool → List ℕ → Session
session_of plain bytes = session plain 0 (lines_of bytes)
