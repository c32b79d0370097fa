-- Values with "" in the place of each text are like them, and take no blocks.
use Rattle.std.proofs.Common.{◌≡◌, ◌≤◌, List, [], ◌∷◌, map, refl, ap, ◌∙◌, arith}
use Rattle.eu_base.specs.declared.value.Value.{Value}
use Rattle.eu_base.specs.declared.value.Value.TheVariants.{Int, Truth, Text, Task, Space}
use Rattle.eu_base.specs.Values.{kind_of}
use Rattle.eu_base.specs.Room.{values_bytes, values_blocks}
use Rattle.eu_base.specs.Cells.{held_of, cell_blocks}
use Rattle.code_form.specs.declared.operand.Operand.{Operand}
use Rattle.code_form.specs.declared.operand.Operand.TheVariants.{Value as Of, Place as At, Aggregate}
use Rattle.zero_state.specs.Emptied.{emptied, emptied_operand}
use Rattle.zero_state.specs.Stepping.{IsLike}

pub emptied_like : (v : Value) → IsLike (Of v) (Of (emptied v))
emptied_like (Int z) = (refl, omega arith)
emptied_like (Truth b) = (refl, omega arith)
emptied_like (Text t) = (refl, omega arith)
emptied_like (Task n) = (refl, omega arith)
emptied_like (Space s) = (refl, omega arith)

pub emptied_bare : (v : Value) → cell_blocks (held_of (emptied v)) ≡ 0
emptied_bare (Int z) = refl
emptied_bare (Truth b) = refl
emptied_bare (Text t) = refl
emptied_bare (Task n) = refl
emptied_bare (Space s) = refl

pub emptied_kinds : (vs : List Value) → map kind_of vs ≡ map kind_of (map emptied vs)
emptied_kinds [] = refl
emptied_kinds (v ∷ vs) = ap (λ k. k ∷ map kind_of vs) (emptied_like v).0 ∙ ap (λ ks. kind_of (emptied v) ∷ ks) (emptied_kinds vs)

emptied_bytes : (vs : List Value) → values_bytes (map emptied vs) ≤ values_bytes vs
emptied_bytes [] = omega arith
emptied_bytes (v ∷ vs) = let rest = emptied_bytes vs in let here = (emptied_like v).1 in omega (arith, rest, here)

pub emptied_operand_like : (o : Operand) → IsLike o (emptied_operand o)
emptied_operand_like (Of v) = emptied_like v
emptied_operand_like (At a) = λ cell. cell
emptied_operand_like (Aggregate vs) = (emptied_kinds vs, emptied_bytes vs)

emptied_none : (v : Value) → values_blocks (emptied v ∷ []) ≡ 0
emptied_none (Int z) = refl
emptied_none (Truth b) = refl
emptied_none (Text t) = refl
emptied_none (Task n) = refl
emptied_none (Space s) = refl

pub emptied_blocks : (vs : List Value) → values_blocks (map emptied vs) ≡ 0
emptied_blocks [] = refl
emptied_blocks (v ∷ vs) = let rest = emptied_blocks vs in let here = emptied_none v in omega (arith, rest, here)
