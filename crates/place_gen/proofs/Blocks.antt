-- The texts of a store take as many blocks as those that the cells hold.
use Rattle.std.proofs.Common.{◌≡◌, ℕ, zero, suc, ◌+◌, ◌<◌, ◌≤◌, List, [], ◌∷◌, length, refl, sym, ap, ◌∙◌, arith, ⊎_elim}
use Rattle.std.specs.Prelude.{slice_index_or}
use Rattle.std.proofs.lemmas.List.{get_or_past}
use Rattle.std.proofs.lemmas.Bool.{cases_lt}
use Rattle.std.proofs.lemmas.Option.{slice_get-get_or}
use Rattle.eu_base.specs.declared.address.TheConstants.{CELLS}
use Rattle.eu_base.specs.declared.value.Value.{Value}
use Rattle.eu_base.specs.declared.value.Value.TheVariants.{Int, Truth, Text, Task, Space}
use Rattle.eu_base.specs.Room.{value_blocks, total}
use Rattle.eu_base.specs.declared.address.Area.{Area}
use Rattle.eu_base.specs.declared.value.Kind.{Kind}
use Rattle.eu_base.specs.Cells.{Cell, Cells, held_of, area_cell, cell_blocks, area_blocks}
use Rattle.eu_base.specs.DataSpaces.{heads_of}
use Rattle.code_form.specs.Machine.{Mem, content_blocks}
use Rattle.elan_types.specs.Eval.{Slot, Taken, World, slots_in, slot_at, slot_blocks, store_blocks}
use Rattle.place_gen.proofs.Cells.{Use, OfValue, OfPlace, OfLimit, OfNothing, Uses, Kept, KeepsIn, Keeps, kept_in, uses_in, room_in, AllKept}

total_front : (f : ℕ → ℕ) (n : ℕ) → total f (suc n) ≡ f 0 + total (λ k. f (suc k)) n
unfolding total
total_front f zero = omega arith
total_front f (suc n) = let rest = total_front f n in omega (arith, rest)

total_same : (f g : ℕ → ℕ) (n : ℕ) → ((k : ℕ) → k < n → f k ≡ g k) → total f n ≡ total g n
unfolding total
total_same f g zero same = refl
total_same f g (suc n) same = let rest = total_same f g n (λ k low. same k (omega (arith, low))) in let last = same n (omega arith) in omega (arith, rest, last)

total_none : (n : ℕ) → total (λ k. 0) n ≡ 0
unfolding total
total_none zero = refl
total_none (suc n) = let rest = total_none n in omega (arith, rest)

store_is : (store : List Slot) (n : ℕ) → length store ≤ n → store_blocks store ≡ total (λ x. slot_blocks (slot_at store x)) n
store_is [] n le = sym (total_none n)
store_is (s ∷ store) zero le = absurd (omega arith)
store_is (s ∷ store) (suc n) le =
    let rest = store_is store n (omega (arith, le)) in
    let front = total_front (λ x. slot_blocks (slot_at (s ∷ store) x)) n in
    omega (arith, rest, front)

-- a cell has the blocks of the value that it holds
pub held_blocks : (v : Value) → cell_blocks (held_of v) ≡ value_blocks v
held_blocks (Int z) = refl
held_blocks (Truth b) = refl
held_blocks (Text t) = refl
held_blocks (Task n) = refl
held_blocks (Space s) = refl

kept_blocks : (P : List Kind) (L : Uses) (at : ℕ) (k : Use) (s : Slot) (n : Cell) → Kept P L at k s n → cell_blocks n ≡ slot_blocks s
kept_blocks P L at (OfValue k) s n g = ap cell_blocks g.3 ∙ held_blocks g.0 ∙ ap slot_blocks (sym g.1)
kept_blocks P L at (OfPlace ks) s n g = ap cell_blocks g.4 ∙ ap slot_blocks (sym g.1)
kept_blocks P L at (OfLimit l) s n g = ap cell_blocks g.2 ∙ ap slot_blocks (sym g.0)
kept_blocks P L at OfNothing s n g = ap cell_blocks g.1 ∙ sym g.2

-- the store, and the cells that keep it
same_in : (area : Area) (P : List Kind) (L : Uses) (store : List Slot) (cells : Cells) → length L ≤ CELLS → KeepsIn area P L store cells
    → store_blocks store ≡ area_blocks area cells
same_in area P L store cells room h =
    store_is store CELLS (omega (arith, room, h.as_many))
    ∙ total_same (λ x. slot_blocks (slot_at store x)) (λ x. cell_blocks (cells (area_cell area x))) CELLS (λ x lt. ⊎_elim
    (λ in_use.
    let k = slice_index_or L x OfNothing in
    sym (kept_blocks P L x k (slot_at store x) (cells (area_cell area x)) (h.each x k (slice_get-get_or L x OfNothing in_use))))
    (λ past.
    let a : slot_at store x ≡ Taken = get_or_past store x Taken (omega (arith, past, h.as_many)) in
    ap slot_blocks a ∙ sym (ap cell_blocks (h.beyond x past)))
    (cases_lt x (length L)))

pub same_blocks : (area : Area) (P : List Kind) (L : Uses) (w : World) (m : Mem) → length P ≤ CELLS → length L ≤ CELLS → Keeps P L w m
    → store_blocks (slots_in area w) ≡ area_blocks area m.cells
same_blocks area P L w m few room h =
    same_in area P (uses_in P L (heads_of w.spaces) area) (slots_in area w) m.cells (room_in area P L w m few room h) (kept_in area P L w m h)

-- more slots, and what is put into cells for them
pub more_blocks : (P : List Kind) (L : Uses) (at : ℕ) (M : Uses) (more : List Slot) (contents : List Cell) → AllKept P L at M more contents
    → store_blocks more ≡ content_blocks contents
more_blocks P L at [] [] [] g = refl
more_blocks P L at [] (s ∷ more) contents g = absurd g
more_blocks P L at [] [] (n ∷ contents) g = absurd g
more_blocks P L at (k ∷ M) [] contents g = absurd g
more_blocks P L at (k ∷ M) (s ∷ more) [] g = absurd g
more_blocks P L at (k ∷ M) (s ∷ more) (n ∷ contents) g =
    let first = kept_blocks P L at k s n g.0 in
    let rest = more_blocks P L (suc at) M more contents g.1 in
    omega (arith, first, rest)
