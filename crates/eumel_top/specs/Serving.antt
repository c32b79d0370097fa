-- How a desk serves a line.
use Rattle.std.specs.Prelude.{◌≡◌, ◌⊎◌, ℕ, ◌+◌, Bool, nat_le, List, [], ◌∷◌, Option, Some, None, Result, Ok, Err}
use Rattle.std.specs.Io.KnownBytes.{Appends}
use Rattle.edge.specs.Piece.{AppendsFront}
use Rattle.eumel_top.specs.Below.elan_scope.specs.declared.env.Env.{Env}
use Rattle.session_text.specs.declared.events.Event.{Event}
use Rattle.session_text.specs.Lines.{events_of}
use Rattle.session_lines.specs.declared.ending.TheConstants.{MOST_LINES}
use Rattle.session_lines.specs.Sessions.{shuts}
use Rattle.session_lines.specs.Serving.{BeginsWith}
use Rattle.eumel_top.specs.Below.system_meaning.specs.Monitor.{Reading}
use Rattle.eumel_top.specs.Below.packet_store.specs.Readings.{IsReading}
use Rattle.eumel_top.specs.Below.system_meaning.specs.Systems.{System}
use Rattle.eumel_top.specs.Below.system_meaning.specs.Events.{after, shown, run, output}
use Rattle.system.specs.Systems.{StandsFor, IsShort}
use Rattle.eumel_top.specs.declared.desk.Desk.{Desk}
use Rattle.eumel_top.specs.declared.fault.LineFault.{LineFault}
use Rattle.eumel_top.specs.declared.fault.LineFault.TheVariants.{BadLine, SinkFault, NoMemory}
use Rattle.eumel_top.specs.Output.{bad_line, PutsLess}

-- taken and taken' are the bytes taken by the sink before and after

-- so many lines were served as a session has at most
abbrev pub is_full : Desk → Bool
is_full desk = nat_le MOST_LINES desk.count

-- a fact of each reading of texts that is right, and of each system that the desk stands for
abbrev pub OnEach : Desk → ((Env → Bool → List ℕ → Reading) → System → Type 0) → Type 0
OnEach desk Fact = (read : Env → Bool → List ℕ → Reading) → IsReading read → (s : System) → StandsFor desk.system s → Fact read s

-- ---- one event

-- the desk stands for the system after the event, and what the event shows was put
abbrev pub ServesEvent : Desk → Desk → Event → (taken taken' : Option (List ℕ)) → Type 0
ServesEvent old new event taken taken' =
    IsShort event → OnEach old (λ read s. StandsFor new.system (after read s event) × Appends taken taken' (shown read old.plain s event))

-- what the event shows was not wholly put
abbrev pub RefusesEvent : Desk → Event → (taken taken' : Option (List ℕ)) → LineFault → Type 0
RefusesEvent old event taken taken' fault = IsShort event → OnEach old (λ read s. PutsLess (shown read old.plain s event) taken taken' fault)

-- ---- events one after another

abbrev pub AreShort : List Event → Type 0
AreShort [] = Unit {0}
AreShort (e ∷ es) = IsShort e × AreShort es

-- the desk stands for what they make of the system, and their output was put
abbrev pub Runs : Desk → Desk → List Event → (taken taken' : Option (List ℕ)) → Type 0
Runs old new events taken taken' = OnEach old (λ read s. StandsFor new.system (run read s events) × Appends taken taken' (output read old.plain s events))

abbrev pub ServesEvents : Desk → Desk → List Event → (taken taken' : Option (List ℕ)) → Type 0
ServesEvents old new events taken taken' = AreShort events → Runs old new events taken taken'

-- the output of some that come first was put
abbrev pub PutsFirst : Desk → List Event → (taken taken' : Option (List ℕ)) → Type 0
PutsFirst old events taken taken' =
    (first : List Event) × BeginsWith first events × OnEach old (λ read s. Appends taken taken' (output read old.plain s first))

-- their output was not wholly put
abbrev pub RefusesEvents : Desk → List Event → (taken taken' : Option (List ℕ)) → LineFault → Type 0
RefusesEvents old events taken taken' (BadLine number) = ⊥
RefusesEvents old events taken taken' SinkFault = AreShort events → OnEach old (λ read s. AppendsFront taken taken' (output read old.plain s events))
RefusesEvents old events taken taken' NoMemory = AreShort events → PutsFirst old events taken taken'

-- ---- a line

-- the line has these events, the desk stands for what they make of the system, and their output was put; the answer is whether they
-- shut the session
pub record Serves (old new : Desk) (line : List ℕ) (taken taken' : Option (List ℕ)) (shut : Bool) : Type 0 where
  pub events : List Event
  pub are : events_of old.plain line ≡ Some events
  pub answer : shut ≡ shuts events
  pub runs : Runs old new events taken taken'

abbrev pub events_in : Option (List Event) → List Event
events_in None = []
events_in (Some events) = events

-- what the line of this number puts: the output of its events, or where it is of no form the line that names it
abbrev pub line_output : (Env → Bool → List ℕ → Reading) → Bool → System → ℕ → Option (List Event) → List ℕ
line_output read plain s number None = bad_line number
line_output read plain s number (Some events) = output read plain s events

abbrev pub Refuses : Desk → List ℕ → (taken taken' : Option (List ℕ)) → LineFault → Type 0
-- the line is of no form, the next has this number, and exactly the line that names it was put
Refuses old line taken taken' (BadLine number) = (events_of old.plain line ≡ None) × (number ≡ old.count + 1) × Appends taken taken' (bad_line number)
-- a front of what the line puts was put
Refuses old line taken taken' SinkFault =
    OnEach old (λ read s. AppendsFront taken taken' (line_output read old.plain s (old.count + 1) (events_of old.plain line)))
-- the output of some of its events that come first was put; nothing, where it is of no form
Refuses old line taken taken' NoMemory = PutsFirst old (events_in (events_of old.plain line)) taken taken'

-- the answer to a line that is served, or of no form
abbrev pub line_answer : ℕ → Option (List Event) → Result Bool LineFault
line_answer number None = Err (BadLine number)
line_answer number (Some events) = Ok (shuts events)

-- it is this, or memory was wanting
abbrev pub Settles : Desk → List ℕ → Result Bool LineFault → Type 0
Settles old line result = (result ≡ Err NoMemory) ⊎ (result ≡ line_answer (old.count + 1) (events_of old.plain line))
