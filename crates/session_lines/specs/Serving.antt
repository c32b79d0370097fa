-- What some events are of all bytes of a source.
use Rattle.std.specs.Prelude.{◌≡◌, ℕ, Bool, List, ◌++◌, Option}
use Rattle.std.specs.Io.KnownBytes.{Consumes}
use Rattle.edge.specs.Told.{OnTold}
use Rattle.session_text.specs.declared.events.Event.{Event}
use Rattle.session_lines.specs.Lines.{whole_lines}
use Rattle.session_lines.specs.declared.ending.Ending.TheVariants.{AtEnd}
use Rattle.session_lines.specs.Sessions.{with_events, session, session_of}

-- These lines, the first of a session, have these events, and none of them ends it. Whatever lines follow, what they bring stands
-- behind.
abbrev pub HaveEvents : Bool → List (List ℕ) → ℕ → List Event → Type 0
HaveEvents plain lines count events = (more : List (List ℕ)) → session plain 0 (lines ++ more) ≡ with_events events (session plain count more)

-- these events are the first
abbrev pub BeginsWith : List Event → List Event → Type 0
BeginsWith first events = (rest : List Event) × (events ≡ first ++ rest)

-- of all bytes of a source, these are the first events of their session
abbrev pub AreFirst : Option (List ℕ) → Bool → List Event → Type 0
AreFirst first plain events = OnTold first (λ bytes. BeginsWith events (session_of plain bytes).events)

-- they are the events of the lines that have their end, of the bytes that were taken, and none of these lines ends the session
abbrev pub AreTaken : Option (List ℕ) → Option (List ℕ) → Bool → List Event → Type 0
AreTaken first now plain events =
    (taken : List ℕ) × Consumes first now taken × (session plain 0 (whole_lines taken) ≡ record { events = events; ending = AtEnd })
