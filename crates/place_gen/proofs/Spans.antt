-- Values of several cells in the cells of the machine: how they are read and written, and their parts.
use Rattle.std.proofs.Common.{◌≡◌, ℕ, zero, suc, ◌+◌, ◌*◌, ◌<◌, ◌≤◌, ◌%◌, List, [], ◌∷◌, ◌++◌, map, length, take, drop, Some, Bool, true, false, cond}
use Rattle.std.proofs.Common.{◌&&◌, ◌-◌, replicate, None, nat_le, refl, sym, ap, ◌∙◌, subst, arith}
use Rattle.std.specs.Prelude.{◌==◌, slice_get, option_map, ℤ, pos, negsuc}
use Rattle.std.proofs.lemmas.Bool.{le-leb}
use Rattle.std.proofs.lemmas.Bool.Decides.{nat_tests}
use Rattle.std.proofs.lemmas.List.Concat.{flat_map-cons}
use Rattle.std.proofs.lemmas.List.{get_or_append_left, length-map}
use Rattle.eu_base.specs.Shapes.{joined}
use Rattle.eu_base.specs.Operations.{in_row}
use Rattle.elan_types.specs.Typing.{Held, OfKind, OfPlace, values_held, begins}
use Rattle.elan_types.proofs.Shapes.{kind_is}
use Rattle.place_gen.proofs.Homes.{both, use_of}
use Rattle.std.proofs.lemmas.Option.{slice_get_within, slice_get-map}
use Rattle.place_gen.proofs.PlaceKinds.{first_behind, copies_length}
use Rattle.eu_base.specs.declared.address.TheConstants.{CELLS}
use Rattle.eu_base.specs.declared.value.Kind.{Kind}
use Rattle.eu_base.specs.declared.value.Value.{Value}
use Rattle.eu_base.specs.declared.value.Value.TheVariants.{Int, Truth, Text, Task, Space}
use Rattle.eu_base.specs.Values.{IsOf}
use Rattle.eu_base.specs.DataSpaces.{Heads, heads_of}
use Rattle.eu_base.specs.SpacePlaces.{kinds_of, begin_with, is_in, lies_in}
use Rattle.eu_base.specs.Room.{value_bytes, values_bytes, cells_fit}
use Rattle.eu_base.specs.declared.address.Area.{Area}
use Rattle.eu_base.specs.declared.address.Area.TheVariants.{Run, Packets}
use Rattle.eu_base.specs.declared.address.Area.TheVariants as areas
use Rattle.eu_base.specs.Cells.{Cells, held_of, area_cell, same_area, written}
use Rattle.code_form.specs.Machine.{Mem, Move, on_cell, on_cells, takes_all, written_all, next}
use Rattle.elan_types.specs.Eval.{Place, Slot, Taken, World, slots_in, is_there, fetch, fetch_all, beyond, stored_from, value_of, slot_at}
use Rattle.place_gen.specs.Correct.{addr_of}
use Rattle.place_gen.proofs.Cells.{Uses, OfValue, AtKinds, StandsIn, AtPlace, uses_in, KeepsIn, Keeps, kept_in, room_in, reads, writes, takes_value}

-- values of these kinds, one each
abbrev pub AreOf : List Kind → List Value → Type 0
AreOf [] [] = Unit {0}
AreOf (k ∷ ks) (v ∷ vs) = IsOf k v × AreOf ks vs
AreOf _ _ = ⊥

pub AreOf-length : (ks : List Kind) (vs : List Value) → AreOf ks vs → length vs ≡ length ks
AreOf-length [] [] h = refl
AreOf-length [] (v ∷ vs) h = absurd h
AreOf-length (k ∷ ks) [] h = absurd h
AreOf-length (k ∷ ks) (v ∷ vs) h = ap suc (AreOf-length ks vs h.1)

-- cells for values of these kinds stand from one on; of none of them, nothing is said
abbrev pub AreIn : List Kind → Uses → ℕ → Type 0
AreIn [] L x = Unit {0}
AreIn (k ∷ ks) L x = (slice_get L x ≡ Some (OfValue k)) × AreIn ks L (x + 1)

pub kinds_in : (ks : List Kind) (L : Uses) (x : ℕ) → AtKinds ks L x → AreIn ks L x
kinds_in [] L x h = tt
kinds_in (k ∷ ks) L x h = (h.0, kinds_in ks L (x + 1) h.1)

-- so it is where a test of the kinds of a data space says so
drop_more : {A : Type 0} (x : ℕ) (xs : List A) (y : A) (ys : List A) → drop x xs ≡ y ∷ ys → drop (suc x) xs ≡ ys
drop_more zero [] y ys e = let f : ⊥ = cc in absurd f
drop_more zero (a ∷ xs) y ys e = let f : xs ≡ ys = cc in f
drop_more (suc x) [] y ys e = let f : ⊥ = cc in absurd f
drop_more (suc x) (a ∷ xs) y ys e = drop_more x xs y ys e

pub tested_in : (ks all : List Kind) (x : ℕ) → begin_with ks (drop x all) ≡ true → AreIn ks (map OfValue all) x
tested_in [] all x e = tt
tested_in (k ∷ ks) all x e = by (drop x all) refl e (tested_in ks all (x + 1))
  where
    by : (js : List Kind) → drop x all ≡ js → begin_with (k ∷ ks) js ≡ true
        → (begin_with ks (drop (x + 1) all) ≡ true → AreIn ks (map OfValue all) (x + 1)) → AreIn (k ∷ ks) (map OfValue all) x
    by [] is e more = let f : ⊥ = cc in absurd f
    by (j ∷ js) is e more =
        let b = both _ _ e in
        let next : x + 1 ≡ suc x = omega arith in
        let here : slice_get all x ≡ Some k = first_behind x all j js is ∙ ap (λ (k : Kind). Some k) (sym (kind_is k j b.0)) in
        let rest : drop (x + 1) all ≡ js = ap (λ n. drop n all) next ∙ drop_more x all j js is in (
          slice_get-map OfValue all x ∙ ap (option_map OfValue) here,
          more (subst (λ l. begin_with ks l ≡ true) (sym rest) b.1),
        )

-- values of these kinds stand at a place, where a look at it found them
abbrev pub IsFound : List Kind → List Kind → Uses → World → Place → Type 0
IsFound P ks L w x = AreIn ks (uses_in P L (heads_of w.spaces) x.area) x.variable

pub found : (P ks : List Kind) (L : Uses) (w : World) (x : Place) → AtPlace P ks L x → is_there ks x w ≡ true → IsFound P ks L w x
found P ks L w x at_x there = by x.area x.variable at_x.0 there
  where
    by : (area : Area) (n : ℕ) → StandsIn P ks L area n → is_in ks area n (heads_of w.spaces) ≡ true
        → AreIn ks (uses_in P L (heads_of w.spaces) area) n
    by Run n at_n e = kinds_in ks L n at_n
    by Packets n at_n e = kinds_in ks (map OfValue P) n at_n
    by (areas.Space s) n at_n e = tested_in ks (kinds_of s (heads_of w.spaces)) n (both _ _ e).1

-- the cell behind one is the next, where there are more
next_is : (area : Area) (ks : List Kind) (L : Uses) (x : ℕ) (cells : Cells) (go : List Value → Move) → length L ≤ CELLS → AreIn ks L (x + 1)
    → on_cells ks (next (area_cell area x)) cells go ≡ on_cells ks (area_cell area (x + 1)) cells go
next_is area [] L x cells go room h = refl
next_is area (k ∷ ks) L x cells go room h =
    let small : (x + 1) % CELLS ≡ x + 1 = omega (arith, slice_get_within L (x + 1) (OfValue k) h.0, room) in
    ap (λ n. on_cells (k ∷ ks) (area_cell area n) cells go) small

-- the values in cells of an area
abbrev fetched : List Kind → ℕ → List Slot → List Value
fetched [] x slots = []
fetched (k ∷ ks) x slots = value_of (slot_at slots x) ∷ fetched ks (x + 1) slots

fetched_is : (ks : List Kind) (x : Place) (w : World) → fetched ks x.variable (slots_in x.area w) ≡ fetch_all ks x w
fetched_is [] x w = refl
fetched_is (k ∷ ks) x w = ap (λ vs. fetch x w ∷ vs) (fetched_is ks (beyond x 1) w)

reads_there : (area : Area) (P : List Kind) (ks : List Kind) (L : Uses) (slots : List Slot) (cells : Cells) (x : ℕ) (go : List Value → Move) → length L ≤ CELLS
    → KeepsIn area P L slots cells → AreIn ks L x
    → AreOf ks (fetched ks x slots) × (on_cells ks (area_cell area x) cells go ≡ go (fetched ks x slots))
reads_there area P [] L slots cells x go room h at = (tt, refl)
reads_there area P (k ∷ ks) L slots cells x go room h at =
    let more = λ (v : Value). on_cells ks (next (area_cell area x)) cells (λ vs. go (v ∷ vs)) in
    let one = reads area P L slots cells x k more h at.0 in
    let go' = λ (vs : List Value). go (value_of (slot_at slots x) ∷ vs) in
    let rest = reads_there area P ks L slots cells (x + 1) go' room h at.1 in
    ((one.0, rest.0), one.1 ∙ next_is area ks L x cells go' room at.1 ∙ rest.1)

-- the value at a place is read out of its cells
pub reads_all : (P : List Kind) (ks : List Kind) (L : Uses) (w : World) (m : Mem) (x : Place) (go : List Value → Move) → length P ≤ CELLS
    → length L ≤ CELLS → Keeps P L w m → IsFound P ks L w x
    → AreOf ks (fetch_all ks x w) × (on_cells ks (addr_of x) m.cells go ≡ go (fetch_all ks x w))
reads_all P ks L w m x go few room h at =
    subst (λ vs. AreOf ks vs × (on_cells ks (addr_of x) m.cells go ≡ go vs)) (fetched_is ks x w)
    (reads_there x.area P ks (uses_in P L (heads_of w.spaces) x.area) (slots_in x.area w) m.cells x.variable go (room_in x.area P L w m few room h)
    (kept_in x.area P L w m h) at)

-- the value of one cell
pub reads_one : (P : List Kind) (L : Uses) (w : World) (m : Mem) (x : Place) (k : Kind) (go : Value → Move) → Keeps P L w m
    → IsFound P (k ∷ []) L w x → IsOf k (fetch x w) × (on_cell k (m.cells (addr_of x)) go ≡ go (fetch x w))
reads_one P L w m x k go h is =
    reads x.area P (uses_in P L (heads_of w.spaces) x.area) (slots_in x.area w) m.cells x.variable k go (kept_in x.area P L w m h) is.0

-- the same with what is written and taken
written_next : (area : Area) (ks : List Kind) (vs : List Value) (L : Uses) (x : ℕ) (cells : Cells) → length L ≤ CELLS → AreIn ks L (x + 1) → AreOf ks vs
    → written_all cells (next (area_cell area x)) vs ≡ written_all cells (area_cell area (x + 1)) vs
written_next area [] [] L x cells room h ok = refl
written_next area [] (v ∷ vs) L x cells room h ok = absurd ok
written_next area (k ∷ ks) vs L x cells room h ok =
    let small : (x + 1) % CELLS ≡ x + 1 = omega (arith, slice_get_within L (x + 1) (OfValue k) h.0, room) in
    ap (λ n. written_all cells (area_cell area n) vs) small

takes_next : (area : Area) (ks : List Kind) (vs : List Value) (L : Uses) (x : ℕ) (cells : Cells) → length L ≤ CELLS → AreIn ks L (x + 1) → AreOf ks vs
    → takes_all vs (next (area_cell area x)) cells ≡ takes_all vs (area_cell area (x + 1)) cells
takes_next area [] [] L x cells room h ok = refl
takes_next area [] (v ∷ vs) L x cells room h ok = absurd ok
takes_next area (k ∷ ks) vs L x cells room h ok =
    let small : (x + 1) % CELLS ≡ x + 1 = omega (arith, slice_get_within L (x + 1) (OfValue k) h.0, room) in
    ap (λ n. takes_all vs (area_cell area n) cells) small

pub writes_there : (area : Area) (P : List Kind) (ks : List Kind) (vs : List Value) (L : Uses) (slots : List Slot) (cells : Cells) (x : ℕ) → length L ≤ CELLS
    → KeepsIn area P L slots cells → AreIn ks L x → AreOf ks vs → KeepsIn area P L (stored_from x vs slots) (written_all cells (area_cell area x) vs)
writes_there area P [] [] L slots cells x room h at ok = h
writes_there area P [] (v ∷ vs) L slots cells x room h at ok = absurd ok
writes_there area P (k ∷ ks) [] L slots cells x room h at ok = absurd ok
writes_there area P (k ∷ ks) (v ∷ vs) L slots cells x room h at ok =
    let one = writes area P L slots cells x k v h at.0 ok.0 in
    subst (λ cells. KeepsIn area P L (stored_from x (v ∷ vs) slots) cells)
    (sym (written_next area ks vs L x (written cells (area_cell area x) (held_of v)) room at.1 ok.1))
    (writes_there area P ks vs L _ _ (x + 1) room one at.1 ok.1)

-- what is written in one area changes nothing of another
pub beside_area : (a b : Area) (vs : List Value) (x y : ℕ) (cells : Cells) → same_area b a ≡ false
    → written_all cells (area_cell a x) vs (area_cell b y) ≡ cells (area_cell b y)
beside_area a b [] x y cells apart = refl
beside_area a b (v ∷ vs) x y cells apart =
    beside_area a b vs ((x + 1) % CELLS) y (written cells (area_cell a x) (held_of v)) apart
    ∙ ap (λ (t : Bool). cond (t && (y == x)) (held_of v) (cells (area_cell b y))) apart

takes_there : (area : Area) (P : List Kind) (ks : List Kind) (vs : List Value) (L : Uses) (slots : List Slot) (cells : Cells) (x : ℕ) → length L ≤ CELLS
    → KeepsIn area P L slots cells → AreIn ks L x → AreOf ks vs → takes_all vs (area_cell area x) cells ≡ true
takes_there area P [] [] L slots cells x room h at ok = refl
takes_there area P [] (v ∷ vs) L slots cells x room h at ok = absurd ok
takes_there area P (k ∷ ks) [] L slots cells x room h at ok = absurd ok
takes_there area P (k ∷ ks) (v ∷ vs) L slots cells x room h at ok =
    ap (λ t. t && takes_all vs (next (area_cell area x)) cells) (takes_value area P L slots cells x k v h at.0 ok.0)
    ∙ takes_next area ks vs L x cells room at.1 ok.1 ∙ takes_there area P ks vs L slots cells (x + 1) room h at.1 ok.1

-- its cells take each value of these kinds
pub takes_values : (P : List Kind) (ks : List Kind) (vs : List Value) (L : Uses) (w : World) (m : Mem) (x : Place) → length P ≤ CELLS
    → length L ≤ CELLS → Keeps P L w m → IsFound P ks L w x → AreOf ks vs → takes_all vs (addr_of x) m.cells ≡ true
takes_values P ks vs L w m x few room h at ok =
    takes_there x.area P ks vs (uses_in P L (heads_of w.spaces) x.area) (slots_in x.area w) m.cells x.variable (room_in x.area P L w m few room h)
    (kept_in x.area P L w m h) at ok

-- a value of these kinds takes at least eight bytes a cell
one_bytes : (v : Value) → 8 ≤ value_bytes v
one_bytes (Int z) = omega arith
one_bytes (Truth b) = omega arith
one_bytes (Text t) = omega arith
one_bytes (Task n) = omega arith
one_bytes (Space s) = omega arith

pub most_cells : (ks : List Kind) (vs : List Value) → AreOf ks vs → 8 * length ks ≤ values_bytes vs
most_cells [] [] h = omega arith
most_cells [] (v ∷ vs) h = absurd h
most_cells (k ∷ ks) [] h = absurd h
most_cells (k ∷ ks) (v ∷ vs) h = let one = one_bytes v in let rest = most_cells ks vs h.1 in omega (arith, one, rest)

-- a part of a value
pub are_part : (n m : ℕ) (ks : List Kind) (vs : List Value) → AreOf ks vs → AreOf (take m (drop n ks)) (take m (drop n vs))
are_part zero zero ks vs h = tt
are_part zero (suc m) [] [] h = tt
are_part zero (suc m) [] (v ∷ vs) h = absurd h
are_part zero (suc m) (k ∷ ks) [] h = absurd h
are_part zero (suc m) (k ∷ ks) (v ∷ vs) h = (h.0, are_part zero m ks vs h.1)
are_part (suc n) m [] [] h = are_nothing m
  where
    are_nothing : (m : ℕ) → AreOf (take m []) (take m [])
    are_nothing zero = tt
    are_nothing (suc m) = tt
are_part (suc n) m [] (v ∷ vs) h = absurd h
are_part (suc n) m (k ∷ ks) [] h = absurd h
are_part (suc n) m (k ∷ ks) (v ∷ vs) h = are_part n m ks vs h.1

-- cells of these kinds stand where variables of them do, and where cells of a frame hold values
pub get_dropped : {A : Type 0} (x y : ℕ) (xs : List A) → slice_get (drop x xs) y ≡ slice_get xs (x + y)
get_dropped zero y xs = let e : 0 + y ≡ y = omega arith in ap (slice_get xs) (sym e)
get_dropped (suc x) y [] = let e : suc x + y ≡ suc (x + y) = omega arith in ap (slice_get []) (sym e)
get_dropped (suc x) y (a ∷ xs) = let e : suc x + y ≡ suc (x + y) = omega arith in get_dropped x y xs ∙ ap (slice_get (a ∷ xs)) (sym e)

pub variables_at : (ks : List Kind) (L : Uses) (b : ℕ) → b ≤ length L → ((y : ℕ) (k : Kind) → slice_get ks y ≡ Some k → slice_get L (b + y) ≡ Some (OfValue k)) → AtKinds ks L b
variables_at [] L b le is = le
variables_at (k ∷ ks) L b le is =
    let first : b + 0 ≡ b = omega arith in
    let here = ap (slice_get L) (sym first) ∙ is 0 k refl in (
      here,
      variables_at ks L (b + 1) (omega (arith, slice_get_within L b (OfValue k) here)) (λ y j e.
          let more : b + suc y ≡ b + 1 + y = omega arith in ap (slice_get L) (sym more) ∙ is (suc y) j e),
    )

pub held_at : (hs : List Held) (L : Uses) (b : ℕ) → b ≤ length L → ((y : ℕ) (h : Held) → slice_get hs y ≡ Some h → slice_get L (b + y) ≡ Some (use_of h))
    → AtKinds (values_held hs) L b
held_at [] L b le is = le
held_at (OfKind k ∷ hs) L b le is =
    let first : b + 0 ≡ b = omega arith in
    let here = ap (slice_get L) (sym first) ∙ is 0 (OfKind k) refl in (
      here,
      held_at hs L (b + 1) (omega (arith, slice_get_within L b (OfValue k) here)) (λ y j e.
          let more : b + suc y ≡ b + 1 + y = omega arith in ap (slice_get L) (sym more) ∙ is (suc y) j e),
    )
held_at (OfPlace ks ∷ hs) L b le is = le

-- all of them are in use
pub at_within : (ks : List Kind) (L : Uses) (x : ℕ) → AtKinds ks L x → x + length ks ≤ length L
at_within [] L x h = omega (arith, h)
at_within (k ∷ ks) L x h = let rest = at_within ks L (x + 1) h.1 in omega (arith, rest)

pub at_this : (k : Kind) (L : Uses) (x : ℕ) → slice_get L x ≡ Some (OfValue k) → AtKinds (k ∷ []) L x
at_this k L x e = (e, omega (arith, slice_get_within L x (OfValue k) e))

-- of the cells that stand at a place, the first, those behind some, and those of an item
pub at_begins : (ks js : List Kind) (L : Uses) (x : ℕ) → begins ks js ≡ true → AtKinds js L x → AtKinds ks L x
at_begins [] js L x e h = omega (arith, at_within js L x h)
at_begins (k ∷ ks) [] L x e h = let f : ⊥ = cc in absurd f
at_begins (k ∷ ks) (j ∷ js) L x e h =
    let b = both _ _ e in
    (subst (λ k. slice_get L x ≡ Some (OfValue k)) (sym (kind_is k j b.0)) h.0, at_begins ks js L (x + 1) b.1 h.1)

at_behind : (ks js : List Kind) (L : Uses) (x : ℕ) → AtKinds (ks ++ js) L x → AtKinds ks L x × AtKinds js L (x + length ks)
at_behind [] js L x h = let e : x + 0 ≡ x = omega arith in (omega (arith, at_within js L x h), subst (AtKinds js L) (sym e) h)
at_behind (k ∷ ks) js L x h =
    let r = at_behind ks js L (x + 1) h.1 in
    let e : x + 1 + length ks ≡ x + suc (length ks) = omega arith in
    ((h.0, r.0), subst (AtKinds js L) e r.1)

pub at_dropped : (n : ℕ) (ks : List Kind) (k : Kind) (js : List Kind) (L : Uses) (x : ℕ) → drop n ks ≡ k ∷ js → AtKinds ks L x → AtKinds (k ∷ js) L (x + n)
at_dropped zero ks k js L x e h = let f : x + 0 ≡ x = omega arith in subst (AtKinds (k ∷ js) L) (sym f) (subst (λ l. AtKinds l L x) e h)
at_dropped (suc n) [] k js L x e h = let f : ⊥ = cc in absurd f
at_dropped (suc n) (i ∷ ks) k js L x e h =
    let f : x + 1 + n ≡ x + suc n = omega arith in subst (AtKinds (k ∷ js) L) f (at_dropped n ks k js L (x + 1) e h.1)

at_copy : (count i : ℕ) (js : List Kind) (L : Uses) (x : ℕ) → i < count → AtKinds (joined (replicate count js)) L x → AtKinds js L (x + i * length js)
at_copy zero i js L x lt h = absurd (omega (arith, lt))
at_copy (suc count) zero js L x lt h =
    let e : x + 0 * length js ≡ x = omega arith in
    subst (AtKinds js L) (sym e) (at_behind js (joined (replicate count js)) L x (subst (λ l. AtKinds l L x) (flat_map-cons (λ l. l) js (replicate count js)) h)).0
at_copy (suc count) (suc i) js L x lt h =
    let e : x + length js + i * length js ≡ x + suc i * length js = omega arith in
    subst (AtKinds js L) e (at_copy count i js L (x + length js) (omega (arith, lt))
    (at_behind js (joined (replicate count js)) L x (subst (λ l. AtKinds l L x) (flat_map-cons (λ l. l) js (replicate count js)) h)).1)

pub at_item : (ks : List Kind) (count cells i : ℕ) (k : Kind) (js : List Kind) (L : Uses) (x : ℕ) → length (k ∷ js) ≡ cells
    → begins (joined (replicate count (k ∷ js))) ks ≡ true → i < count → AtKinds ks L x → AtKinds (k ∷ js) L (x + i * cells)
at_item ks count cells i k js L x size fits lt h =
    subst (λ n. AtKinds (k ∷ js) L (x + i * n)) size (at_copy count i (k ∷ js) L x lt (at_begins (joined (replicate count (k ∷ js))) ks L x fits h))

-- an item of a row is one of those that there are
pub in_row_low : (n : ℕ) (z : ℤ) (i : ℕ) → in_row n z ≡ Some i → i < n
in_row_low n (pos m) i e = by (nat_le 1 m) (nat_le m n) refl refl e
  where
    by : (s t : Bool) → nat_le 1 m ≡ s → nat_le m n ≡ t → cond (s && t) (Some (m - 1)) None ≡ Some i → i < n
    by true true a b e = let f : m - 1 ≡ i = cc in grind (arith, nat_tests, a, b, f)
    by true false a b e = let f : ⊥ = cc in absurd f
    by false t a b e = let f : ⊥ = cc in absurd f
in_row_low n (negsuc m) i e = let f : ⊥ = cc in absurd f

-- the same of what stands in an area; of a data space, that it can have such cells
pub begins_length : (ks js : List Kind) → begins ks js ≡ true → length ks ≤ length js
begins_length [] js e = omega arith
begins_length (k ∷ ks) [] e = let f : ⊥ = cc in absurd f
begins_length (k ∷ ks) (j ∷ js) e = let rest = begins_length ks js (both _ _ e).1 in omega (arith, rest)

dropped_length : (n : ℕ) (ks js : List Kind) (k : Kind) → drop n ks ≡ k ∷ js → n + length (k ∷ js) ≤ length ks
dropped_length zero ks js k e = let f = ap length e in omega (arith, f)
dropped_length (suc n) [] js k e = let f : ⊥ = cc in absurd f
dropped_length (suc n) (i ∷ ks) js k e = let rest = dropped_length n ks js k e in omega (arith, rest)

item_below : (i count n all : ℕ) → i < count → count * n ≤ all → i * n + n ≤ all
item_below i zero n all lt le = absurd (omega (arith, lt))
item_below zero (suc count) n all lt le = omega (arith, le)
item_below (suc i) (suc count) n all lt le =
    let e : suc count * n ≡ count * n + n = omega arith in
    let rest = item_below i count n (count * n) (omega (arith, lt)) (omega arith) in
    omega (arith, rest, le, e)

pub stands_begins : (P ks js : List Kind) (L : Uses) (area : Area) (x : ℕ) → begins ks js ≡ true → StandsIn P js L area x → StandsIn P ks L area x
stands_begins P ks js L Run x e h = at_begins ks js L x e h
stands_begins P ks js L Packets x e h = at_begins ks js (map OfValue P) x e h
stands_begins P ks js L (areas.Space s) x e h = let le = begins_length ks js e in omega (arith, le, h)

pub stands_dropped : (P : List Kind) (n : ℕ) (ks : List Kind) (k : Kind) (js : List Kind) (L : Uses) (area : Area) (x : ℕ) → drop n ks ≡ k ∷ js
    → StandsIn P ks L area x → StandsIn P (k ∷ js) L area (x + n)
stands_dropped P n ks k js L Run x e h = at_dropped n ks k js L x e h
stands_dropped P n ks k js L Packets x e h = at_dropped n ks k js (map OfValue P) x e h
stands_dropped P n ks k js L (areas.Space s) x e h = let le = dropped_length n ks js k e in omega (arith, le, h)

pub stands_item : (P ks : List Kind) (count cells i : ℕ) (k : Kind) (js : List Kind) (L : Uses) (area : Area) (x : ℕ) → length (k ∷ js) ≡ cells
    → begins (joined (replicate count (k ∷ js))) ks ≡ true → i < count → StandsIn P ks L area x → StandsIn P (k ∷ js) L area (x + i * cells)
stands_item P ks count cells i k js L Run x size fits lt h = at_item ks count cells i k js L x size fits lt h
stands_item P ks count cells i k js L Packets x size fits lt h = at_item ks count cells i k js (map OfValue P) x size fits lt h
stands_item P ks count cells i k js L (areas.Space s) x size fits lt h =
    let all = begins_length (joined (replicate count (k ∷ js))) ks fits in
    let long = copies_length count (k ∷ js) ∙ ap (λ n. count * n) size in
    let low = item_below i count cells (length ks) lt (omega (arith, all, long)) in
    omega (arith, low, h, size)

-- the number of its first cell is one of a cell
pub stands_low : (P : List Kind) (k : Kind) (js : List Kind) (L : Uses) (area : Area) (x : ℕ) → length P ≤ CELLS → length L ≤ CELLS
    → StandsIn P (k ∷ js) L area x → x < CELLS
stands_low P k js L Run x few room h = omega (arith, slice_get_within L x (OfValue k) h.0, room)
stands_low P k js L Packets x few room h = omega (arith, slice_get_within (map OfValue P) x (OfValue k) h.0, few, length-map P OfValue)
stands_low P k js L (areas.Space s) x few room h = omega (arith, h)

-- its cells are among those of the area
kinds_within : (ks : List Kind) (L : Uses) (x : ℕ) → AtKinds ks L x → x + length ks ≤ length L
kinds_within [] L x h = omega (arith, h)
kinds_within (k ∷ ks) L x h = omega (arith, kinds_within ks L (x + 1) h.1)

stands_within : (P ks : List Kind) (L : Uses) (area : Area) (x : ℕ) → length P ≤ CELLS → length L ≤ CELLS → StandsIn P ks L area x → x + length ks ≤ CELLS
stands_within P ks L Run x few room h = omega (arith, kinds_within ks L x h, room)
stands_within P ks L Packets x few room h = omega (arith, kinds_within ks (map OfValue P) x h, few, length-map P OfValue)
stands_within P ks L (areas.Space s) x few room h = h

pub place_fits : (P ks : List Kind) (L : Uses) (x : Place) → length P ≤ CELLS → length L ≤ CELLS → AtPlace P ks L x → cells_fit (x.variable + length ks) ≡ true
place_fits P ks L x few room at_x = le-leb (x.variable + length ks) CELLS (stands_within P ks L x.area x.variable few room at_x.0)

-- the machine finds there what evaluation finds
pub looks_same : (ks : List Kind) (x : Place) (w : World) (heads : Heads) → heads ≡ heads_of w.spaces → cells_fit (x.variable + length ks) ≡ true
    → lies_in ks x.area x.variable heads ≡ is_there ks x w
looks_same ks x w heads same fits = ap (λ t. t && is_in ks x.area x.variable heads) fits ∙ ap (is_in ks x.area x.variable) same

-- a value stands where it stood, with more slots behind
pub fetch_wider : (P : List Kind) (L : Uses) (w : World) (m : Mem) (x : Place) (k : Kind) (more : List Slot) → Keeps P L w m
    → IsFound P (k ∷ []) L w x → fetch x (record w { store = w.store ++ more }) ≡ fetch x w
fetch_wider P L w m x k more h is = by x.area x.variable is.0
  where
    by : (area : Area) (n : ℕ) → slice_get (uses_in P L (heads_of w.spaces) area) n ≡ Some (OfValue k)
        → fetch (record { area = area; variable = n }) (record w { store = w.store ++ more }) ≡ fetch (record { area = area; variable = n }) w
    by Run n e =
        let within : n < length w.store = omega (arith, slice_get_within L n (OfValue k) e, h.command.as_many) in
        ap value_of (get_or_append_left w.store more Taken n within)
    by Packets n e = refl
    by (areas.Space s) n e = refl
