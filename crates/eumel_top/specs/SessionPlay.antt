-- What each answer of the command `play` says of the bytes taken and put.
use Rattle.std.specs.Prelude.{◌≡◌, ℕ, Bool, List, Option, Result, Ok, Err}
use Rattle.edge.specs.Told.{OnTold}
use Rattle.session_text.specs.declared.events.Event.{Event}
use Rattle.session_lines.specs.declared.ending.Ending.{Ending}
use Rattle.session_lines.specs.Sessions.{session_of}
use Rattle.session_lines.specs.Serving.{AreFirst, AreTaken}
use Rattle.eumel_top.specs.declared.error.PlayError.{PlayError}
use Rattle.eumel_top.specs.declared.error.PlayError.TheVariants.{NoMemory, SourceFault, SinkFault}
use Rattle.eumel_top.specs.Output.{PutsOutput, PutsFront, PutsEvents}

-- left and left' are the bytes left in the source before and after, taken and taken' those taken by the sink

-- the session of all bytes of the source ends so, and all of its output was put
abbrev pub PlayEnds : Bool → (left taken taken' : Option (List ℕ)) → Ending → Type 0
PlayEnds plain left taken taken' ending = OnTold left (λ bytes. ((session_of plain bytes).ending ≡ ending) × PutsOutput plain (session_of plain bytes) taken taken')

abbrev pub PlayStops : Bool → (left left' taken taken' : Option (List ℕ)) → PlayError → Type 0
-- the output of some of its first events was put
PlayStops plain left left' taken taken' NoMemory = (events : List Event) × AreFirst left plain events × PutsEvents plain events taken taken'
-- the output was put of the events of the lines that were wholly taken, none of which ends the session
PlayStops plain left left' taken taken' SourceFault =
    (events : List Event) × AreFirst left plain events × AreTaken left left' plain events × PutsEvents plain events taken taken'
-- a front of its output was put
PlayStops plain left left' taken taken' SinkFault = OnTold left (λ bytes. PutsFront plain (session_of plain bytes) taken taken')

-- the answer is how the session ends, or memory was wanting
abbrev pub PlaySettles : Bool → Option (List ℕ) → Result Ending PlayError → Type 0
PlaySettles plain left (Ok ending) = OnTold left (λ bytes. (session_of plain bytes).ending ≡ ending)
PlaySettles plain left (Err error) = error ≡ NoMemory
