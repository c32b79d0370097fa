-- What each status of the command `play` says: of the bytes taken and put, and of how its session ends.
use Rattle.std.specs.Prelude.{◌≡◌, ℕ, ◌⊎◌, Bool, List, Option, Result, Ok, Err}
use Rattle.edge.specs.Told.{OnTold}
use Rattle.line_command.specs.declared.status.Status.{Status}
use Rattle.line_command.specs.declared.status.Status.TheVariants.{Done, BadWords, NoMemory, SourceFault, SinkFault, DiskFault, Foreign, BadLine, SessionFull}
use Rattle.session_lines.specs.declared.ending.Ending.{Ending}
use Rattle.session_lines.specs.declared.ending.Ending.TheVariants as ending
use Rattle.session_lines.specs.Sessions.{session_of}
use Rattle.eumel_top.specs.declared.error.PlayError.{PlayError}
use Rattle.eumel_top.specs.declared.error.PlayError.TheVariants as error
use Rattle.eumel_top.specs.SessionPlay.{PlayEnds, PlayStops}

-- left and left' are the bytes left in the source before and after, taken and taken' those taken by the sink
abbrev pub PlayAnswers : Bool → (left left' taken taken' : Option (List ℕ)) → Status → Type 0
-- a line shuts the session, or its input ends, and its output was put
PlayAnswers plain left left' taken taken' Done = PlayEnds plain left taken taken' ending.ByShut ⊎ PlayEnds plain left taken taken' ending.AtEnd
-- this line is of no form, and the output was put, and the line that names it
PlayAnswers plain left left' taken taken' (BadLine n) = PlayEnds plain left taken taken' (ending.BadLine n)
-- a line follows the most that a session has, and the output of those was put
PlayAnswers plain left left' taken taken' SessionFull = PlayEnds plain left taken taken' ending.Full
-- the output was put of the lines that were wholly taken, none of which ends the session
PlayAnswers plain left left' taken taken' SourceFault = PlayStops plain left left' taken taken' error.SourceFault
-- a front of the output was put
PlayAnswers plain left left' taken taken' SinkFault = PlayStops plain left left' taken taken' error.SinkFault
-- the output of some first events was put
PlayAnswers plain left left' taken taken' NoMemory = PlayStops plain left left' taken taken' error.NoMemory
-- no other status comes
PlayAnswers plain left left' taken taken' BadWords = ⊥
PlayAnswers plain left left' taken taken' DiskFault = ⊥
PlayAnswers plain left left' taken taken' Foreign = ⊥

-- the status of a session that ends so
abbrev pub ending_status : Ending → Status
ending_status ending.ByShut = Done
ending_status ending.AtEnd = Done
ending_status (ending.BadLine n) = BadLine n
ending_status ending.Full = SessionFull

-- the command ends as its session does, by the bytes alone, or memory was wanting
abbrev pub PlaySettles : Bool → Option (List ℕ) → Status → Type 0
PlaySettles plain left status = (status ≡ NoMemory) ⊎ OnTold left (λ bytes. status ≡ ending_status (session_of plain bytes).ending)

abbrev pub error_status : PlayError → Status
error_status error.NoMemory = NoMemory
error_status error.SourceFault = SourceFault
error_status error.SinkFault = SinkFault

abbrev pub status_of : Result Ending PlayError → Status
status_of (Ok ending) = ending_status ending
status_of (Err error) = error_status error
