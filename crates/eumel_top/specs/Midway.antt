-- A session between two lines, and how it goes on and ends.
use Rattle.std.specs.Prelude.{◌≡◌, ℕ, Bool, List, ◌∷◌, ◌++◌, Option, Result, Ok, Err}
use Rattle.std.specs.Io.KnownBytes.{Appends}
use Rattle.edge.specs.Piece.{AppendsFront}
use Rattle.eumel_top.specs.Below.elan_scope.specs.declared.env.Env.{Env}
use Rattle.session_text.specs.declared.events.Event.{Event}
use Rattle.session_lines.specs.Reading as reading
use Rattle.session_lines.specs.declared.ending.Ending.{Ending}
use Rattle.session_lines.specs.declared.ending.Ending.TheVariants as ended
use Rattle.session_lines.specs.Sessions.{Session, with_events, session}
use Rattle.session_lines.specs.Serving.{HaveEvents, BeginsWith}
use Rattle.eumel_top.specs.Below.system_meaning.specs.Monitor.{Reading}
use Rattle.eumel_top.specs.Below.packet_store.specs.Readings.{IsReading}
use Rattle.eumel_top.specs.Below.system_meaning.specs.Systems.{System, opening}
use Rattle.eumel_top.specs.Below.system_meaning.specs.Events.{run, output}
use Rattle.system.specs.Systems.{StandsFor}
use Rattle.eumel_top.specs.declared.desk.Desk.{Desk}
use Rattle.eumel_top.specs.declared.error.PlayError.{PlayError}
use Rattle.eumel_top.specs.declared.error.PlayError.TheVariants.{NoMemory, SourceFault, SinkFault}
use Rattle.eumel_top.specs.declared.fault.LineFault.{LineFault}
use Rattle.eumel_top.specs.declared.fault.LineFault.TheVariants as fault
use Rattle.eumel_top.specs.Output.{end_line, PutsEvents}
use Rattle.eumel_top.specs.Serving.{OnEach, Runs}
use Rattle.eumel_top.specs.SessionPlay.{PlayEnds, PlayStops}

-- These lines were read and served, they have these events, the system is what they make of the opening system, and their output
-- was put.
pub record Midway (left_old left_new taken_old taken_new : Option (List ℕ)) (desk : Desk) (lines : reading.Reading) : Type 0 where
  pub read_lines : List (List ℕ)
  pub events : List Event
  pub read : reading.HasRead left_old left_new lines read_lines
  pub have : HaveEvents desk.plain read_lines desk.count events
  pub stands : (read : Env → Bool → List ℕ → Reading) → IsReading read → StandsFor desk.system (run read opening events)
  pub puts : PutsEvents desk.plain events taken_old taken_new

-- ---- a line

-- how a session ends at a line that is not served
abbrev pub end_by : LineFault → Result Ending PlayError
end_by (fault.BadLine number) = Ok (ended.BadLine number)
end_by fault.SinkFault = Err SinkFault
end_by fault.NoMemory = Err NoMemory

-- these are the events of the line, whatever lines follow, and it was served
pub record LineGoes (old new : Desk) (line : List ℕ) (taken taken' : Option (List ℕ)) : Type 0 where
  pub events : List Event
  pub goes : (more : List (List ℕ)) → session old.plain old.count (line ∷ more) ≡ with_events events (session old.plain new.count more)
  pub runs : Runs old new events taken taken'

-- all that a session puts from a system on
abbrev pub output_from : (Env → Bool → List ℕ → Reading) → Bool → System → Session → List ℕ
output_from read plain s session = output read plain s session.events ++ end_line session.ending

-- the session ends with the line, or comes to no end there
abbrev pub LineEnds : Desk → List ℕ → (taken taken' : Option (List ℕ)) → Result Ending PlayError → Type 0
-- whatever lines follow, it has these events and ends so, and its output was put
LineEnds old line taken taken' (Ok ending) =
    (events : List Event)
    × ((more : List (List ℕ)) → session old.plain old.count (line ∷ more) ≡ record { events = events; ending = ending })
    × OnEach old (λ read s. Appends taken taken' (output read old.plain s events ++ end_line ending))
-- the output of some of its first events was put
LineEnds old line taken taken' (Err NoMemory) =
    (first : List Event)
    × ((more : List (List ℕ)) → BeginsWith first (session old.plain old.count (line ∷ more)).events)
    × OnEach old (λ read s. Appends taken taken' (output read old.plain s first))
LineEnds old line taken taken' (Err SourceFault) = ⊥
-- a front of its output was put
LineEnds old line taken taken' (Err SinkFault) =
    (more : List (List ℕ)) → OnEach old (λ read s. AppendsFront taken taken' (output_from read old.plain s (session old.plain old.count (line ∷ more))))

-- ---- a step, which reads the next line and serves it

-- what an answer of `play` says
abbrev pub PlayTells : Bool → (left left' taken taken' : Option (List ℕ)) → Result Ending PlayError → Type 0
PlayTells plain left left' taken taken' (Ok ending) = PlayEnds plain left taken taken' ending
PlayTells plain left left' taken taken' (Err error) = PlayStops plain left left' taken taken' error

-- whatever was read and put before, it is so of one line more
abbrev pub GoesOn : (old new : Desk) (lines lines' : reading.Reading) (left left' taken taken' : Option (List ℕ)) → Type 0
GoesOn old new lines lines' left left' taken taken' =
    (left_old taken_old : Option (List ℕ)) → Midway left_old left taken_old taken old lines → Midway left_old left' taken_old taken' new lines'

-- whatever was read and put before, the session has come to its answer
abbrev pub Concludes : Desk → reading.Reading → (left left' taken taken' : Option (List ℕ)) → Result Ending PlayError → Type 0
Concludes desk lines left left' taken taken' end =
    (left_old taken_old : Option (List ℕ)) → Midway left_old left taken_old taken desk lines → PlayTells desk.plain left_old left' taken_old taken' end
