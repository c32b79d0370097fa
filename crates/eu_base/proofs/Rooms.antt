-- The room that values take.
use Rattle.std.proofs.Common.{◌≡◌, ℕ, zero, suc, ◌+◌, ◌*◌, ◌<◌, ◌≤◌, List, [], ◌∷◌, ◌++◌, length, take, ap, ◌∙◌, arith}
use Rattle.std.specs.Prelude.{get_or}
use Rattle.std.proofs.lemmas.List.{take_more}
use Rattle.eu_base.specs.declared.value.Value.{Value}
use Rattle.eu_base.specs.declared.value.Value.TheVariants.{Int, Truth, Text, Task, Space}
use Rattle.eu_base.specs.Room.{value_bytes, values_bytes, value_blocks, values_blocks}
use Rattle.eu_base.specs.Cells.{held_of, cell_blocks}
use Rattle.std.proofs.Common.{refl}

bytes_append : (vs ws : List Value) → values_bytes (vs ++ ws) ≡ values_bytes vs + values_bytes ws
bytes_append [] ws = omega arith
bytes_append (v ∷ vs) ws = omega (arith, bytes_append vs ws)

-- of one value more
pub bytes_next : (vs : List Value) (i : ℕ) (v d : Value) → i < length vs → v ≡ get_or vs i d
    → values_bytes (take (i + 1) vs) ≡ values_bytes (take i vs) + value_bytes v
bytes_next vs i v d lt is =
    let e = bytes_append (take i vs) (get_or vs i d ∷ []) in
    let f = ap value_bytes is in
    ap values_bytes (take_more vs i d lt) ∙ omega (arith, e, f)

blocks_append : (vs ws : List Value) → values_blocks (vs ++ ws) ≡ values_blocks vs + values_blocks ws
blocks_append [] ws = omega arith
blocks_append (v ∷ vs) ws = omega (arith, blocks_append vs ws)

pub blocks_next : (vs : List Value) (i : ℕ) (v d : Value) → i < length vs → v ≡ get_or vs i d
    → values_blocks (take (i + 1) vs) ≡ values_blocks (take i vs) + value_blocks v
blocks_next vs i v d lt is =
    let e = blocks_append (take i vs) (get_or vs i d ∷ []) in
    let f = ap value_blocks is in
    ap values_blocks (take_more vs i d lt) ∙ omega (arith, e, f)

-- each cell takes bytes
least_one : (v : Value) → 8 ≤ value_bytes v
least_one (Int z) = omega arith
least_one (Truth b) = omega arith
least_one (Text t) = omega arith
least_one (Task n) = omega arith
least_one (Space s) = omega arith

pub least_all : (vs : List Value) → 8 * length vs ≤ values_bytes vs
least_all [] = omega arith
least_all (v ∷ vs) = let rest = least_all vs in let here = least_one v in omega (arith, rest, here)

-- the blocks of a value are those of the cell that holds it
pub held_blocks : (v : Value) → cell_blocks (held_of v) ≡ value_blocks v
held_blocks (Int z) = refl
held_blocks (Truth b) = refl
held_blocks (Text t) = refl
held_blocks (Task n) = refl
held_blocks (Space s) = refl

-- the texts among values take fewer blocks than the values bytes
small_one : (v : Value) → value_blocks v ≤ value_bytes v
small_one (Int z) = omega arith
small_one (Truth b) = omega arith
small_one (Text t) = omega arith
small_one (Task n) = omega arith
small_one (Space s) = omega arith

pub blocks_small : (vs : List Value) → values_blocks vs ≤ values_bytes vs
blocks_small [] = omega arith
blocks_small (v ∷ vs) = let rest = blocks_small vs in let here = small_one v in omega (arith, rest, here)

-- and those among the first values no more than all
pub blocks_first : (vs : List Value) (n : ℕ) → values_blocks (take n vs) ≤ values_blocks vs
blocks_first [] zero = omega arith
blocks_first [] (suc n) = omega arith
blocks_first (v ∷ vs) zero = omega arith
blocks_first (v ∷ vs) (suc n) = let rest = blocks_first vs n in omega (arith, rest)
