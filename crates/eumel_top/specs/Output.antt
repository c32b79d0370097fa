-- What is put in a session of the opening system.
use Rattle.std.specs.Prelude.{◌≡◌, ℕ, Bool, List, [], ◌++◌, Option, codes}
use Rattle.std.specs.Fmt.{decimal}
use Rattle.std.specs.Io.KnownBytes.{Keeps, Appends}
use Rattle.edge.specs.Piece.{AppendsFront}
use Rattle.eumel_top.specs.Below.elan_scope.specs.declared.env.Env.{Env}
use Rattle.session_text.specs.declared.events.Event.{Event}
use Rattle.session_lines.specs.declared.ending.Ending.{Ending}
use Rattle.session_lines.specs.declared.ending.Ending.TheVariants.{ByShut, AtEnd, BadLine, Full}
use Rattle.session_lines.specs.Sessions.{Session}
use Rattle.eumel_top.specs.Below.system_meaning.specs.Monitor.{Reading}
use Rattle.eumel_top.specs.Below.packet_store.specs.Readings.{IsReading}
use Rattle.eumel_top.specs.Below.system_meaning.specs.Systems.{opening}
use Rattle.eumel_top.specs.Below.system_meaning.specs.Events.{output}
use Rattle.eumel_top.specs.declared.fault.LineFault.{LineFault}
use Rattle.eumel_top.specs.declared.fault.LineFault.TheVariants as fault

-- the line that names the line of this number, which is of no form
abbrev pub bad_line : ℕ → List ℕ
bad_line number = codes "! Zeile " ++ (decimal number ++ codes "\n")

-- behind the output of a session that ends so: the line that names a line of no form, and nothing else
abbrev pub end_line : Ending → List ℕ
end_line ByShut = []
end_line AtEnd = []
end_line (BadLine number) = bad_line number
end_line Full = []

-- all that is put in a session of the opening system, where texts are read so
abbrev pub session_output : (Env → Bool → List ℕ → Reading) → Bool → Session → List ℕ
session_output read plain session = output read plain opening session.events ++ end_line session.ending

-- it was put, whatever reads texts as they are meant
abbrev pub PutsOutput : Bool → Session → Option (List ℕ) → Option (List ℕ) → Type 0
PutsOutput plain session taken taken' =
    (read : Env → Bool → List ℕ → Reading) → IsReading read → Appends taken taken' (session_output read plain session)

-- a front of it was put
abbrev pub PutsFront : Bool → Session → Option (List ℕ) → Option (List ℕ) → Type 0
PutsFront plain session taken taken' =
    (read : Env → Bool → List ℕ → Reading) → IsReading read → AppendsFront taken taken' (session_output read plain session)

-- the output of these events was put
abbrev pub PutsEvents : Bool → List Event → Option (List ℕ) → Option (List ℕ) → Type 0
PutsEvents plain events taken taken' =
    (read : Env → Bool → List ℕ → Reading) → IsReading read → Appends taken taken' (output read plain opening events)

-- these bytes were not wholly put: none where memory was wanting, and a front of them where the sink failed
abbrev pub PutsLess : List ℕ → Option (List ℕ) → Option (List ℕ) → LineFault → Type 0
PutsLess bytes taken taken' fault.NoMemory = Keeps taken taken'
PutsLess bytes taken taken' (fault.BadLine number) = ⊥
PutsLess bytes taken taken' fault.SinkFault = AppendsFront taken taken' bytes

-- the line that names one of no form was put, or not wholly put
abbrev pub NamesLine : ℕ → Option (List ℕ) → Option (List ℕ) → LineFault → Type 0
NamesLine number taken taken' fault.NoMemory = Keeps taken taken'
NamesLine number taken taken' (fault.BadLine named) = (named ≡ number) × Appends taken taken' (bad_line named)
NamesLine number taken taken' fault.SinkFault = AppendsFront taken taken' (bad_line number)
