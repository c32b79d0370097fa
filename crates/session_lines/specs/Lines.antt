-- The lines of bytes. A line ends with byte 10; the last may lack it.
use Rattle.std.specs.Prelude.{◌≡◌, ℕ, Bool, List, [], ◌∷◌, ◌++◌, ◌==◌, if◌then◌else◌}
use Rattle.std.specs.List.{list_any, onto_first}

abbrev pub has_end : List ℕ → Bool
has_end bytes = list_any (λ b. b == 10) bytes

-- the first line, without its end
abbrev pub first_line : List ℕ → List ℕ
first_line [] = []
first_line (b ∷ bytes) = if b == 10 then [] else b ∷ first_line bytes

-- the bytes behind the first line and its end
abbrev pub after_line : List ℕ → List ℕ
after_line [] = []
after_line (b ∷ bytes) = if b == 10 then bytes else after_line bytes

-- all lines: of bytes that are some, the first line and the lines of the bytes behind it (`lines_of-first` of `proofs/Lines.antt`)
abbrev pub lines_of : List ℕ → List (List ℕ)
lines_of [] = []
lines_of (b ∷ bytes) = if b == 10 then [] ∷ lines_of bytes else onto_first b (lines_of bytes)

-- a byte at the front of the first of some lines
abbrev pub at_front : ℕ → List (List ℕ) → List (List ℕ)
at_front b [] = []
at_front b (line ∷ lines) = (b ∷ line) ∷ lines

-- the lines that have their end
abbrev pub whole_lines : List ℕ → List (List ℕ)
whole_lines [] = []
whole_lines (b ∷ bytes) = if b == 10 then [] ∷ whole_lines bytes else at_front b (whole_lines bytes)

-- these lines are the first
abbrev pub BeginsWith : List (List ℕ) → List (List ℕ) → Type 0
BeginsWith first lines = (rest : List (List ℕ)) × (lines ≡ first ++ rest)
