-- Values that are put on top.
use Rattle.std.proofs.Common.{◌≡◌, ℕ, ◌≤◌, true, List, [], ◌∷◌, ◌++◌, sym, ap, ◌∙◌, arith}
use Rattle.std.specs.Prelude.{reverse}
use Rattle.std.proofs.lemmas.List.{reverse-append}
use Rattle.eu_base.specs.declared.value.Value.{Value}
use Rattle.eu_base.specs.declared.value.Value.TheVariants.{Int, Truth, Text, Task, Space}
use Rattle.eu_base.specs.Room.{value_bytes, bytes_fit}
use Rattle.code_form.specs.declared.operand.Operand.{Operand}
use Rattle.code_form.specs.declared.operand.Operand.TheVariants.{Value as Of}
use Rattle.code_form.specs.Machine.{bytes_on, bytes_of}
use Rattle.zero_state.specs.Stacked.{Stacked}
use Rattle.zero_state.proofs.Room.{less_fits}
use Rattle.zero_steps.specs.Giving.{put_on}

-- each value takes room
pub at_least : (v : Value) → 8 ≤ value_bytes v
at_least (Int z) = omega arith
at_least (Truth b) = omega arith
at_least (Text t) = omega arith
at_least (Task n) = omega arith
at_least (Space s) = omega arith

-- no fewer bytes are pending then
more_bytes : (vs : List Value) (ops : List Operand) (held : ℕ) → bytes_on ops held ≤ bytes_on (put_on vs ops) held
more_bytes [] ops held = omega arith
more_bytes (v ∷ vs) ops held = omega (arith, more_bytes vs (Of v ∷ ops) held)

-- so the first of them has room where all have
pub first_fits : (v : Value) (vs : List Value) (ops : List Operand) (held : ℕ) → bytes_fit (bytes_on (put_on (v ∷ vs) ops) held) ≡ true
    → bytes_fit (bytes_on (Of v ∷ ops) held) ≡ true
first_fits v vs ops held e = less_fits _ _ (more_bytes vs (Of v ∷ ops) held) e

-- and what was below has room
pub rest_fits : (vs : List Value) (s t : Stacked) → s ≡ record t { ops = put_on vs t.ops } → bytes_fit (bytes_on s.ops (bytes_of s.frames)) ≡ true
    → bytes_fit (bytes_on t.ops (bytes_of t.frames)) ≡ true
rest_fits vs s t back e =
    less_fits _ _ (more_bytes vs t.ops (bytes_of t.frames)) (ap (λ (s : Stacked). bytes_fit (bytes_on s.ops (bytes_of s.frames))) (sym back) ∙ e)

-- the last of a list that was turned is the first
pub last_first : (values rest : List Value) (v : Value) → values ≡ rest ++ v ∷ [] → reverse values ≡ v ∷ reverse rest
last_first values rest v e = ap reverse e ∙ reverse-append rest (v ∷ [])
