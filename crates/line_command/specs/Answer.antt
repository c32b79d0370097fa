-- What each status of the command `line` says: of the bytes taken and put, and of its cause.
use Rattle.std.specs.Prelude.{◌≡◌, ℕ, ◌⊎◌, List, Option, length, nat_le, if◌then◌else◌}
use Rattle.std.specs.Io.KnownBytes.{Keeps, Appends}
use Rattle.edge.specs.Piece.{AppendsFront}
use Rattle.edge.specs.Told.{OnTold}
use Rattle.line_command.specs.declared.status.Status.{Status}
use Rattle.line_command.specs.declared.status.Status.TheVariants.{Done, BadWords, NoMemory, SourceFault, SinkFault, DiskFault, Foreign, BadLine, SessionFull}
use Rattle.line_command.specs.Line.{first_line, longest_line, IsTooLong, LineWrites, too_long_text}
use Rattle.line_command.specs.Streams.{TakesNoLineEnd}

-- the whole output of the line was put
abbrev pub PutsOutput : List ℕ → Option (List ℕ) → Option (List ℕ) → Type 0
PutsOutput bytes taken taken' = (out : List ℕ) × LineWrites bytes out × Appends taken taken' out

-- a front of it was put
abbrev pub PutsFront : List ℕ → Option (List ℕ) → Option (List ℕ) → Type 0
PutsFront bytes taken taken' = (out : List ℕ) × LineWrites bytes out × AppendsFront taken taken' out

-- left and left' are the bytes left in the source before and after, taken and taken' those taken by the sink
abbrev pub LineAnswers : (left left' taken taken' : Option (List ℕ)) → Status → Type 0
-- the line is no longer than it may be, and what it writes was put
LineAnswers left left' taken taken' Done = OnTold left (λ bytes. (IsTooLong bytes → ⊥) × PutsOutput bytes taken taken')
-- the line is too long, and this was put alone
LineAnswers left left' taken taken' (BadLine n) = (n ≡ 1) × OnTold left IsTooLong × Appends taken taken' too_long_text
-- nothing was put, and no line was wholly taken
LineAnswers left left' taken taken' SourceFault = Keeps taken taken' × TakesNoLineEnd left left'
-- a front of the output was put
LineAnswers left left' taken taken' SinkFault = OnTold left (λ bytes. PutsFront bytes taken taken')
-- nothing was put
LineAnswers left left' taken taken' NoMemory = Keeps taken taken'
-- no other status comes
LineAnswers left left' taken taken' BadWords = ⊥
LineAnswers left left' taken taken' DiskFault = ⊥
LineAnswers left left' taken taken' Foreign = ⊥
LineAnswers left left' taken taken' SessionFull = ⊥

-- each status that speaks of a fault comes only where the object's faults rose
abbrev pub HasCause : (source sink disk : Type 0) → Status → Type 0
HasCause source sink disk SourceFault = source
HasCause source sink disk SinkFault = sink
HasCause source sink disk DiskFault = disk
HasCause source sink disk Done = Unit {0}
HasCause source sink disk BadWords = Unit {0}
HasCause source sink disk NoMemory = Unit {0}
HasCause source sink disk Foreign = Unit {0}
HasCause source sink disk (BadLine n) = Unit {0}
HasCause source sink disk SessionFull = Unit {0}

-- how the command ends where nothing failed, by the bytes alone
abbrev pub line_status : List ℕ → Status
line_status bytes = if nat_le (length (first_line bytes)) longest_line then Done else BadLine 1

-- the command ends so, or memory was wanting
abbrev pub LineSettles : Option (List ℕ) → Status → Type 0
LineSettles left status = (status ≡ NoMemory) ⊎ OnTold left (λ bytes. status ≡ line_status bytes)
