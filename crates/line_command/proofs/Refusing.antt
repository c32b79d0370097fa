-- A text that is refused writes the line that says so.
use Rattle.std.proofs.Common.{◌≡◌, ℕ, List, Result, Ok, Err, subst, sym}
use Rattle.std.specs.Prelude.{IfOk}
use Rattle.line_command.specs.Below.containers.specs.declared.no_memory.NoMemory.{NoMemory}
use Rattle.line_command.specs.Below.units.specs.declared.error.Refusal.{Refusal}
use Rattle.line_command.specs.Meaning.{IsRefused, TextWrites, refused, refusal_line}

pub refused_line : (text : List ℕ) (r : Refusal) (q : Result (List ℕ) NoMemory) → IsRefused text r → IfOk q (λ line. line ≡ refusal_line r text)
    → IfOk q (TextWrites text)
refused_line text r (Ok line) h is = subst (TextWrites text) (sym is) (refused h)
refused_line text r (Err e) h is = tt
