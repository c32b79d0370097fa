-- From what the parts of `line` ensure to what the command answers.
use Rattle.std.proofs.Common.{◌≡◌, ℕ, ◌<◌, ◌≤◌, List, length, Option, arith}
use Rattle.edge.specs.Told.{OnTold}
use Rattle.std.specs.Io.KnownBytes.{Appends}
use Rattle.line_command.specs.Meaning.{TextWrites}
use Rattle.line_command.specs.Line.{first_line, longest_line, IsTooLong, LineWrites, program, too_long, too_long_text}
use Rattle.edge.specs.Piece.{AppendsFront}
use Rattle.line_command.specs.Answer.{PutsOutput, PutsFront}

pub puts_too_long : (left taken taken' : Option (List ℕ)) → OnTold left IsTooLong → AppendsFront taken taken' too_long_text
    → OnTold left (λ bytes. PutsFront bytes taken taken')
puts_too_long left taken taken' long put = (long.0, long.1, (too_long_text, too_long long.2, put))

line_writes : (text out bytes : List ℕ) → length text ≤ longest_line → first_line bytes ≡ text → TextWrites text out → LineWrites bytes out
line_writes text out bytes short is writes = program (rw is short) (rw is writes)

pub puts_line : (left taken taken' : Option (List ℕ)) (text out : List ℕ) → length text ≤ longest_line → OnTold left (λ bytes. first_line bytes ≡ text)
    → TextWrites text out → Appends taken taken' out → OnTold left (λ bytes. (IsTooLong bytes → ⊥) × PutsOutput bytes taken taken')
puts_line left taken taken' text out short is writes put = (
  is.0,
  is.1,
  (
    λ long. let far : longest_line < length text = rw is.2 at long in
        omega (arith, far, short),
    (out, line_writes text out is.0 short is.2 writes, put),
  ),
)

pub puts_front : (left taken taken' : Option (List ℕ)) (text out : List ℕ) → length text ≤ longest_line → OnTold left (λ bytes. first_line bytes ≡ text)
    → TextWrites text out → AppendsFront taken taken' out → OnTold left (λ bytes. PutsFront bytes taken taken')
puts_front left taken taken' text out short is writes put = (is.0, is.1, (out, line_writes text out is.0 short is.2 writes, put))
