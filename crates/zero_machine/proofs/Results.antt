-- A result has the room that it had in the frame that is left.
use Rattle.std.proofs.Common.{◌≡◌, ℕ, ◌≤◌, true, List, ◌++◌, ap, arith}
use Rattle.eu_base.specs.Room.{bytes_fit}
use Rattle.code_form.specs.declared.operand.Operand.{Operand}
use Rattle.code_form.specs.Machine.{bytes_on, bytes_of}
use Rattle.zero_state.specs.Stacked.{Stacked}
use Rattle.zero_state.proofs.Counts.{bytes_append, bytes_upon}
use Rattle.zero_state.proofs.Room.{less_fits}

pub result_fits : (s : Stacked) (result rest ops : List Operand) (held : ℕ) → s.ops ≡ result ++ rest → bytes_on ops held ≤ bytes_of s.frames
    → bytes_fit (bytes_on s.ops (bytes_of s.frames)) ≡ true → bytes_fit (bytes_on (result ++ ops) held) ≡ true
result_fits s result rest ops held is le =
    less_fits (bytes_on (result ++ ops) held) (bytes_on s.ops (bytes_of s.frames))
    (omega (
      arith,
      le,
      bytes_append result ops held,
      bytes_upon result (bytes_on ops held),
      ap (λ l. bytes_on l (bytes_of s.frames)) is,
      bytes_append result rest (bytes_of s.frames),
      bytes_upon result (bytes_on rest (bytes_of s.frames)),
      bytes_upon rest (bytes_of s.frames),
    ))
