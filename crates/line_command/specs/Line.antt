-- What the command `line` writes.
use Rattle.std.specs.Prelude.{ℕ, ◌≤◌, ◌<◌, List, [], ◌∷◌, length, codes, ◌==◌, if◌then◌else◌}
use Rattle.line_command.specs.Meaning.{TextWrites}

-- the bytes before the first line end, or all
abbrev pub first_line : List ℕ → List ℕ
first_line [] = []
first_line (b ∷ bytes) = if b == 10 then [] else b ∷ first_line bytes

-- the bytes that a line may have at most
abbrev pub longest_line : ℕ
longest_line = 250

-- the line is longer than a line may be
abbrev pub IsTooLong : List ℕ → Type 0
IsTooLong bytes = longest_line < length (first_line bytes)

abbrev pub too_long_text : List ℕ
too_long_text = codes "! Zeile 1\n"

-- what the command writes for these bytes of input, of which it takes one line
pub data LineWrites (bytes : List ℕ) : List ℕ → Type 0 where
  program : {out : List ℕ} → length (first_line bytes) ≤ longest_line → TextWrites (first_line bytes) out → LineWrites bytes out
  too_long : IsTooLong bytes → LineWrites bytes too_long_text
