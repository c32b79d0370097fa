-- How lines are read from a source.
use Rattle.std.specs.Prelude.{◌≡◌, ◌≢◌, ◌<◌, ◌≤◌, ℕ, Bool, true, not, ◌&&◌, nat_le, List, [], ◌∷◌, ◌++◌, length, Option, Some, if◌then◌else◌}
use Rattle.std.specs.Io.KnownBytes.{Consumes, IsAtEnd}
use Rattle.edge.specs.Told.{OnTold}
use Rattle.session_lines.specs.declared.reader.Next.{Next}
use Rattle.session_lines.specs.declared.reader.Next.TheVariants.{Line, TooLong, End, Fault}
use Rattle.session_lines.specs.declared.reader.TheConstants.{LONGEST}
use Rattle.session_lines.specs.Lines.{has_end, first_line, after_line, lines_of, whole_lines, BeginsWith}

-- the bytes that were taken and are of no line yet, and whether the source had no more
pub record Reading : Type 0 where
  pub ahead : List ℕ
  pub ended : Bool

abbrev pub line_or_too_long : List ℕ → Next
line_or_too_long text = if nat_le (length text) LONGEST then Line text else TooLong

-- what stands at the front of all bytes that are left
abbrev pub next_line : List ℕ → Next
next_line [] = End
next_line (b ∷ bytes) = line_or_too_long (first_line (b ∷ bytes))

-- the bytes that are left after an answer: a line is taken, with its end, and nothing else is
abbrev pub left_after : Next → List ℕ → List ℕ
left_after (Line text) bytes = after_line bytes
left_after TooLong bytes = bytes
left_after End bytes = bytes
left_after Fault bytes = bytes

-- An answer to bytes, those ahead and those that the source has left, and the bytes after it. A fault leaves them all.
pub record IsExact (bytes rest : List ℕ) (next : Next) : Type 0 where
  pub answer : next ≢ Fault → next ≡ next_line bytes
  pub rest_is : rest ≡ left_after next bytes

-- the same of a source that tells its bytes, and has none where it had no more
abbrev pub ReadsExactly : Option (List ℕ) → Option (List ℕ) → Reading → Reading → Next → Type 0
ReadsExactly old new before after next =
    (left rest : List ℕ) → old ≡ Some left → new ≡ Some rest → (before.ended ≡ true → left ≡ []) → IsExact (before.ahead ++ left) (after.ahead ++ rest) next

-- what stands at the front depends on more bytes: no line end is ahead, and no more than a line can have
abbrev pub is_open : Reading → Bool
is_open r = not r.ended && nat_le (length r.ahead) LONGEST && not (has_end r.ahead)

-- bytes were taken, and are ahead; none where the source had no more
pub record Takes (old new : Option (List ℕ)) (before after : Reading) : Type 0 where
  pub taken : List ℕ
  pub takes : Consumes old new taken
  pub ahead : after.ahead ≡ before.ahead ++ taken
  pub still : before.ended ≡ true → (taken ≡ []) × (after.ended ≡ true)
  pub at_end : (before.ended ≡ true → IsAtEnd old) → after.ended ≡ true → IsAtEnd new

-- From a source, as it was first, these lines were read, and what was taken beyond them is ahead. Whatever follows, they are its
-- first lines.
pub record HasRead (first now : Option (List ℕ)) (reading : Reading) (lines : List (List ℕ)) : Type 0 where
  pub past : List ℕ
  pub takes : Consumes first now (past ++ reading.ahead)
  pub begins : (more : List ℕ) → (reading.ended ≡ true → more ≡ []) → lines_of (past ++ (reading.ahead ++ more)) ≡ lines ++ lines_of (reading.ahead ++ more)
  pub at_end : reading.ended ≡ true → IsAtEnd now

-- the line that an answer is
abbrev pub line_in : Next → List (List ℕ)
line_in (Line text) = text ∷ []
line_in TooLong = []
line_in End = []
line_in Fault = []

-- what an answer shows of all bytes of a source, of which these lines were read before
abbrev pub Shows : Option (List ℕ) → Option (List ℕ) → List (List ℕ) → Next → Type 0
-- a line is the next
Shows first now lines (Line text) = (length text ≤ LONGEST) × OnTold first (λ bytes. BeginsWith (lines ++ text ∷ []) (lines_of bytes))
-- the next is too long
Shows first now lines TooLong = (text : List ℕ) × (LONGEST < length text) × OnTold first (λ bytes. BeginsWith (lines ++ text ∷ []) (lines_of bytes))
-- there is no other
Shows first now lines End = OnTold first (λ bytes. lines_of bytes ≡ lines)
-- of the bytes that were taken they are those with a line end
Shows first now lines Fault = (taken : List ℕ) × Consumes first now taken × (whole_lines taken ≡ lines)

-- an answer goes on with the lines that were read before
abbrev pub GoesOn : Option (List ℕ) → Option (List ℕ) → Reading → Reading → Next → Type 0
GoesOn old new before after next =
    (first : Option (List ℕ)) (lines : List (List ℕ)) → HasRead first old before lines → HasRead first new after (lines ++ line_in next) × Shows first new lines next
