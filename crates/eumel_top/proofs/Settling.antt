-- Where no count rose, the status follows from the bytes.
use Rattle.std.proofs.Common.{◌≡◌, ℕ, List, length, Option, Bool, true, false, if◌then◌else◌, nat_le, refl, ap, ◌∙◌, arith}
use Rattle.std.proofs.lemmas.Bool.Decides.{nat_tests}
use mathlib.Core.Logic.{inl, inr}
use Rattle.line_command.specs.declared.status.Status.{Status}
use Rattle.line_command.specs.declared.status.Status.TheVariants.{Done, BadWords, NoMemory, SourceFault, SinkFault, DiskFault, Foreign, BadLine, SessionFull}
use Rattle.line_command.specs.Line.{first_line, longest_line, IsTooLong}
use Rattle.line_command.specs.Answer.{LineAnswers, HasCause, line_status, LineSettles}

-- what the bytes say of the status
short_status : (bytes : List ℕ) → (IsTooLong bytes → ⊥) → Done ≡ line_status bytes
short_status bytes short = go (nat_le (length (first_line bytes)) longest_line) refl
  where
    go : (t : Bool) → nat_le (length (first_line bytes)) longest_line ≡ t → Done ≡ (if t then Done else BadLine 1)
    go true e = refl
    go false e = absurd (short (grind (arith, nat_tests)))

long_status : (bytes : List ℕ) → IsTooLong bytes → BadLine 1 ≡ line_status bytes
long_status bytes long = go (nat_le (length (first_line bytes)) longest_line) refl
  where
    go : (t : Bool) → nat_le (length (first_line bytes)) longest_line ≡ t → BadLine 1 ≡ (if t then Done else BadLine 1)
    go true e = absurd (grind (arith, nat_tests))
    go false e = refl

-- where neither count rose
pub settles : (left left' taken taken' : Option (List ℕ)) (source sink : Type 0) (status : Status) → LineAnswers left left' taken taken' status
    → HasCause source sink ⊥ status → (source → ⊥) → (sink → ⊥) → LineSettles left status
settles left left' taken taken' source sink Done answer risen no_source no_sink = inr (answer.0, answer.1, short_status answer.0 answer.2.0)
settles left left' taken taken' source sink (BadLine n) answer risen no_source no_sink =
    inr (answer.1.0, answer.1.1, ap BadLine answer.0 ∙ long_status answer.1.0 answer.1.2)
settles left left' taken taken' source sink NoMemory answer risen no_source no_sink = inl refl
settles left left' taken taken' source sink SourceFault answer risen no_source no_sink = absurd (no_source risen)
settles left left' taken taken' source sink SinkFault answer risen no_source no_sink = absurd (no_sink risen)
settles left left' taken taken' source sink BadWords answer risen no_source no_sink = absurd answer
settles left left' taken taken' source sink DiskFault answer risen no_source no_sink = absurd answer
settles left left' taken taken' source sink Foreign answer risen no_source no_sink = absurd answer
settles left left' taken taken' source sink SessionFull answer risen no_source no_sink = absurd answer
