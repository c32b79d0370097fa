-- What a reader of a line takes, and what a writer puts.
use Rattle.std.specs.Prelude.{◌≡◌, ℕ, ◌≤◌, List, ◌++◌, length, take, Option, nat_le, if◌then◌else◌}
use Rattle.std.specs.Io.KnownBytes.{Consumes}
use Rattle.edge.specs.Told.{OnTold}
use Rattle.line_command.specs.Line.{first_line, longest_line, IsTooLong}
use Rattle.line_command.specs.declared.stream.Line.{Line}
use Rattle.line_command.specs.declared.stream.Line.TheVariants as line

-- no byte 10 among these
abbrev pub HasNoLineEnd : List ℕ → Type 0
HasNoLineEnd bytes = first_line bytes ≡ bytes

-- the bytes taken hold no line end
abbrev pub TakesNoLineEnd : Option (List ℕ) → Option (List ℕ) → Type 0
TakesNoLineEnd old new = (taken : List ℕ) × Consumes old new taken × HasNoLineEnd taken

-- the line at the front of the bytes left
abbrev pub IsLine : Option (List ℕ) → Option (List ℕ) → Line → Type 0
IsLine old new (line.Text text) = (length text ≤ longest_line) × OnTold old (λ bytes. first_line bytes ≡ text)
IsLine old new line.TooLong = OnTold old IsTooLong
IsLine old new line.Fault = TakesNoLineEnd old new

-- where in a piece the line ends, whatever follows
abbrev pub EndsLineAt : List ℕ → ℕ → Type 0
EndsLineAt piece n = (n ≤ length piece) × ((more : List ℕ) → first_line (piece ++ more) ≡ take n piece)

abbrev pub OnFault : Line → Type 0 → Type 0
OnFault (line.Text text) P = Unit {0}
OnFault line.TooLong P = Unit {0}
OnFault line.Fault P = P

-- a line that ends, which may be too long
abbrev pub whole_line : List ℕ → Line
whole_line text = if nat_le (length text) longest_line then line.Text text else line.TooLong
