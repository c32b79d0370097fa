-- Each line has an output.
use Rattle.std.proofs.Common.{ℕ, false, List, length, refl, ⊎_elim}
use Rattle.std.proofs.lemmas.Bool.{cases_lt}
use Rattle.line_command.specs.Below.units.specs.Packets.{nothing}
use Rattle.packet_store.specs.Meaning.{HasOutcome, meaning, refusal}
use Rattle.line_command.specs.Meaning.{TextWrites, runs, refused}
use Rattle.line_command.specs.Line.{first_line, longest_line, LineWrites, program, too_long}

module _ (outcome : (text : List ℕ) → HasOutcome nothing false text) where
  by_outcome : (text : List ℕ) → HasOutcome nothing false text → (out : List ℕ) × TextWrites text out
  by_outcome text (meaning core m) = (_, runs m refl)
  by_outcome text (refusal r f) = (_, refused f)

  pub an_output : (bytes : List ℕ) → (out : List ℕ) × LineWrites bytes out
  an_output bytes =
      ⊎_elim
      (λ long. (_, too_long long))
      (λ short. let w = by_outcome (first_line bytes) (outcome (first_line bytes)) in (w.0, program short w.1))
      (cases_lt longest_line (length (first_line bytes)))
