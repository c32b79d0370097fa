-- What the cells in use hold, and how it changes when a variable is written and when cells are taken and given back.
use Rattle.std.proofs.Common.{◌≡◌, ℕ, zero, suc, ◌+◌, ◌<◌, ◌≤◌, ◌%◌, List, [], ◌∷◌, ◌++◌, map, length, take, Option, Some, Bool, true, false, cond}
use Rattle.std.proofs.Common.{nat_eq, nat_le, nat_lt, ◌&&◌, refl, sym, ap, ◌∙◌, subst, arith, append_assoc, get_or-set_other, get_or-set_same}
use Rattle.std.proofs.Common.{length-set, length-append, ⊎_elim}
use Rattle.std.specs.Prelude.{◌==◌, slice_get, slice_set, slice_index_or, option_map, ℤ}
use Rattle.std.proofs.lemmas.List.{append-nil, length-map, length-take-le, get_or-take, get_or_append_left}
use Rattle.std.proofs.lemmas.Bool.{cases_lt}
use Rattle.std.proofs.Math.Seq.{get_or-append_seam}
use Rattle.std.proofs.lemmas.Option.{slice_get_within, slice_get-get_or, slice_get-map}
use Rattle.std.proofs.lemmas.Int.{ints, to_z-of_z}
use Rattle.std.proofs.lemmas.Bool.Decides.{eqb_tells, nat_tests}
use Rattle.std.specs.Int.{cast_signed, cast_unsigned, w16}
use Rattle.std.specs.Int.RustNames.{FitsSigned}
use Rattle.eu_base.specs.declared.address.TheConstants.{CELLS}
use Rattle.eu_base.specs.declared.address.Addr.{Addr}
use Rattle.eu_base.specs.declared.address.Area.{Area}
use Rattle.eu_base.specs.declared.address.Area.TheVariants.{Run, Packets}
use Rattle.eu_base.specs.declared.address.Area.TheVariants as areas
use Rattle.eu_base.specs.declared.value.Kind.{Kind}
use Rattle.eu_base.specs.declared.value.Kind.TheVariants as kinds
use Rattle.eu_base.specs.declared.value.Value.{Value}
use Rattle.eu_base.specs.declared.value.Value.TheVariants.{Int, Truth, Text, Task, Space}
use Rattle.eu_base.specs.Values.{SpaceNo, IsOf, number_in}
use Rattle.eu_base.specs.DataSpaces.{Head, Heads, Spaces, heads_of, no_head}
use Rattle.std.specs.List.{AllByRecursion}
use Rattle.std.specs.Map.{lookup}
use Rattle.std.specs.Option.{unwrap_or}
use Rattle.eu_base.specs.SoundSpaces.{AreSpaces, AllCanCome}
use Rattle.eu_base.specs.Requests.{Answer}
use Rattle.eu_base.specs.SpacePlaces.{kinds_of, values_of, shaped_kinds}
use Rattle.eu_base.specs.Cells.{Cell, Free, Word, Cells, held_of, IsArea, IsCell, area_cell, run_cell, packet_cell, space_cell, written, forgotten, is_between}
use Rattle.eu_base.specs.Cells.{place_number, place_in}
use Rattle.eu_base.proofs.Places.{place_back, same_there}
use Rattle.eu_base.proofs.Results.{task_back, space_back}
use Rattle.code_form.specs.Machine.{Mem, Move, with_cells, on_word, on_number, on_cell, takes, written_from, is_free, are_free}
use Rattle.elan_types.specs.Eval.{Place, Slot, Holds, Refers, Taken, World, slot_blocks, slots_in, slot_at, value_of, place_of}
use Rattle.place_gen.specs.Correct.{addr_of, StandsFor, Image, HasVariables, AreGiven, HasSpaces}

bits : (z : ℤ) → FitsSigned w16 z → cast_unsigned w16 z < 65536
bits z f = omega (arith, ints)

-- a number comes back out of its cell, and a value of each kind
number_back : (z : ℤ) → FitsSigned w16 z → number_in (cast_unsigned w16 z) ≡ z
number_back z f =
    let small = bits z f in
    let e : cast_unsigned w16 z % 65536 ≡ cast_unsigned w16 z = omega arith in
    ap (cast_signed w16) e ∙ to_z-of_z w16 z f

value_back : (k : Kind) (v : Value) (go : Value → Move) → IsOf k v → on_cell k (held_of v) go ≡ go v
value_back kinds.Int (Int z) go f = ap (λ z. go (Int z)) (number_back z f)
value_back kinds.Int (Truth b) go f = absurd f
value_back kinds.Int (Text t) go f = absurd f
value_back kinds.Int (Task n) go f = absurd f
value_back kinds.Int (Space s) go f = absurd f
value_back kinds.Truth (Int z) go f = absurd f
value_back kinds.Truth (Truth true) go f = refl
value_back kinds.Truth (Truth false) go f = refl
value_back kinds.Truth (Text t) go f = absurd f
value_back kinds.Truth (Task n) go f = absurd f
value_back kinds.Truth (Space s) go f = absurd f
value_back kinds.Text (Int z) go f = absurd f
value_back kinds.Text (Truth b) go f = absurd f
value_back kinds.Text (Text t) go f = refl
value_back kinds.Text (Task n) go f = absurd f
value_back kinds.Text (Space s) go f = absurd f
value_back kinds.Task (Int z) go f = absurd f
value_back kinds.Task (Truth b) go f = absurd f
value_back kinds.Task (Text t) go f = absurd f
value_back kinds.Task (Task n) go f = ap (λ n. go (Task n)) (task_back n f)
value_back kinds.Task (Space s) go f = absurd f
value_back kinds.Space (Int z) go f = absurd f
value_back kinds.Space (Truth b) go f = absurd f
value_back kinds.Space (Text t) go f = absurd f
value_back kinds.Space (Task n) go f = absurd f
value_back kinds.Space (Space s) go f = ap (λ (s : Option SpaceNo). go (Space s)) (space_back s f)

-- a cell that holds a value of a kind takes each of that kind
takes_held : (k : Kind) (v old : Value) → IsOf k v → IsOf k old → takes (held_of v) (held_of old) ≡ true
takes_held kinds.Int (Int z) (Int y) f g = refl
takes_held kinds.Truth (Truth b) (Truth a) f g = refl
takes_held kinds.Text (Text t) (Text u) f g = refl
takes_held kinds.Task (Task n) (Task m) f g = refl
takes_held kinds.Space (Space s) (Space r) f g = refl
takes_held kinds.Int v (Truth a) f g = absurd g
takes_held kinds.Int v (Text u) f g = absurd g
takes_held kinds.Int v (Task m) f g = absurd g
takes_held kinds.Int v (Space r) f g = absurd g
takes_held kinds.Truth v (Int y) f g = absurd g
takes_held kinds.Truth v (Text u) f g = absurd g
takes_held kinds.Truth v (Task m) f g = absurd g
takes_held kinds.Truth v (Space r) f g = absurd g
takes_held kinds.Text v (Int y) f g = absurd g
takes_held kinds.Text v (Truth a) f g = absurd g
takes_held kinds.Text v (Task m) f g = absurd g
takes_held kinds.Text v (Space r) f g = absurd g
takes_held kinds.Task v (Int y) f g = absurd g
takes_held kinds.Task v (Truth a) f g = absurd g
takes_held kinds.Task v (Text u) f g = absurd g
takes_held kinds.Task v (Space r) f g = absurd g
takes_held kinds.Space v (Int y) f g = absurd g
takes_held kinds.Space v (Truth a) f g = absurd g
takes_held kinds.Space v (Text u) f g = absurd g
takes_held kinds.Space v (Task m) f g = absurd g
takes_held kinds.Int (Truth b) old f g = absurd f
takes_held kinds.Int (Text t) old f g = absurd f
takes_held kinds.Int (Task n) old f g = absurd f
takes_held kinds.Int (Space s) old f g = absurd f
takes_held kinds.Truth (Int z) old f g = absurd f
takes_held kinds.Truth (Text t) old f g = absurd f
takes_held kinds.Truth (Task n) old f g = absurd f
takes_held kinds.Truth (Space s) old f g = absurd f
takes_held kinds.Text (Int z) old f g = absurd f
takes_held kinds.Text (Truth b) old f g = absurd f
takes_held kinds.Text (Task n) old f g = absurd f
takes_held kinds.Text (Space s) old f g = absurd f
takes_held kinds.Task (Int z) old f g = absurd f
takes_held kinds.Task (Truth b) old f g = absurd f
takes_held kinds.Task (Text t) old f g = absurd f
takes_held kinds.Task (Space s) old f g = absurd f
takes_held kinds.Space (Int z) old f g = absurd f
takes_held kinds.Space (Truth b) old f g = absurd f
takes_held kinds.Space (Text t) old f g = absurd f
takes_held kinds.Space (Task n) old f g = absurd f

-- what a cell in use holds: a value of a kind, the place where values of these kinds stand, a limit, or nothing
pub data Use : Type 0 where
  OfValue : Kind → Use
  OfPlace : List Kind → Use
  OfLimit : ℤ → Use
  OfNothing : Use

abbrev pub Uses : Type 0
Uses = List Use

-- a use that only counts, and uses that do
abbrev pub IsCount : Use → Type 0
IsCount (OfValue k) = ⊥
IsCount (OfPlace ks) = ⊥
IsCount (OfLimit l) = Unit {0}
IsCount OfNothing = Unit {0}

abbrev pub AreCounts : Uses → Type 0
AreCounts [] = Unit {0}
AreCounts (k ∷ M) = IsCount k × AreCounts M

pub counts_append : (M N : Uses) → AreCounts M → AreCounts N → AreCounts (M ++ N)
counts_append [] N h g = g
counts_append (k ∷ M) N h g = (h.0, counts_append M N h.1 g)

-- values of these kinds stand in the cells from one on
abbrev pub AtKinds : List Kind → Uses → ℕ → Type 0
AtKinds [] L x = x ≤ length L
AtKinds (k ∷ ks) L x = (slice_get L x ≡ Some (OfValue k)) × AtKinds ks L (x + 1)

-- the cells in use of an area: these of the command, those of packets, which hold values of these kinds, and those of data spaces
abbrev pub uses_in : List Kind → Uses → Heads → Area → Uses
uses_in P L heads Run = L
uses_in P L heads Packets = map OfValue P
uses_in P L heads (areas.Space s) = map OfValue (kinds_of s heads)

-- values of these kinds stand in the cells of an area from one on. Of a data space only that it can have such cells: each access looks whether it
-- has them
abbrev pub StandsIn : List Kind → List Kind → Uses → Area → ℕ → Type 0
StandsIn P ks L Run x = AtKinds ks L x
StandsIn P ks L Packets x = AtKinds ks (map OfValue P) x
StandsIn P ks L (areas.Space s) x = x + length ks ≤ CELLS

-- they do so from a place on
abbrev pub AtPlace : List Kind → List Kind → Uses → Place → Type 0
AtPlace P ks L x = StandsIn P ks L x.area x.variable × IsCell (addr_of x) × IsArea x.area

-- what ends with a cell of an area stands before one of the command
abbrev pub StandsBefore : ℕ → Area → ℕ → Type 0
StandsBefore at Run end = end ≤ at
StandsBefore at Packets end = Unit {0}
StandsBefore at (areas.Space s) end = Unit {0}

-- a slot with this number, and what its cell holds. A VAR parameter refers to a variable before it, or to one of a packet
abbrev pub Kept : List Kind → Uses → ℕ → Use → Slot → Cell → Type 0
Kept P L at (OfValue k) s n = (v : Value) × (s ≡ Holds v) × IsOf k v × (n ≡ held_of v)
Kept P L at (OfPlace ks) s n =
    (x : Place) × (s ≡ Refers x) × StandsBefore at x.area (x.variable + length ks) × AtPlace P ks L x × (n ≡ Word (place_number (addr_of x)))
Kept P L at (OfLimit l) s n = (s ≡ Taken) × FitsSigned w16 l × (n ≡ held_of (Int l))
Kept P L at OfNothing s n = (m : ℕ) × (n ≡ Word m) × (slot_blocks s ≡ 0) × StandsFor n s

-- slots have what the cells in use of an area are for, the cells hold it, and nothing is known of the others
pub record KeepsIn (area : Area) (P : List Kind) (L : Uses) (slots : List Slot) (cells : Cells) : Type 0 where
  pub as_many : length slots ≡ length L
  pub each : (x : ℕ) (k : Use) → slice_get L x ≡ Some k → Kept P L x k (slot_at slots x) (cells (area_cell area x))
  pub beyond : (x : ℕ) → length L ≤ x → cells (area_cell area x) ≡ Free

-- so it is with each data space
pub record KeepsSpaces (P : List Kind) (spaces : Spaces) (m : Mem) : Type 0 where
  pub heads : m.heads ≡ heads_of spaces
  pub sound : AreSpaces spaces
  pub given : AreGiven (heads_of spaces)
  pub each : (s : SpaceNo) → KeepsIn (areas.Space s) P (map OfValue (kinds_of s (heads_of spaces))) (map Holds (values_of s spaces)) m.cells

-- and in all areas
pub record KeepsAll (P : List Kind) (L : Uses) (store others : List Slot) (all : Spaces) (left : List Answer) (m : Mem) : Type 0 where
  pub command : KeepsIn Run P L store m.cells
  pub packets : KeepsIn Packets P (map OfValue P) others m.cells
  pub spaces : KeepsSpaces P all m
  -- what comes with the answers that are left can come
  pub answers : AllCanCome left

abbrev pub Keeps : List Kind → Uses → World → Mem → Type 0
Keeps P L w m = KeepsAll P L w.store w.packets w.spaces w.replies m

pub kept_in : (area : Area) (P : List Kind) (L : Uses) (w : World) (m : Mem) → Keeps P L w m
    → KeepsIn area P (uses_in P L (heads_of w.spaces) area) (slots_in area w) m.cells
kept_in Run P L w m h = h.command
kept_in Packets P L w m h = h.packets
kept_in (areas.Space s) P L w m h = h.spaces.each s

-- the cells of a data space have numbers of cells
pub fit_at : (s : SpaceNo) (heads : Heads) → AreGiven heads → length (kinds_of s heads) ≤ CELLS
fit_at s heads given = by heads.live given.fit
  where
    by : (live : List (ℕ × Head)) → AllByRecursion (λ e. length (shaped_kinds e.1.shape) ≤ CELLS) live
        → length (shaped_kinds (unwrap_or (lookup (nat_eq s.0) live) no_head).shape) ≤ CELLS
    by [] all = omega arith
    by (e ∷ live) all = this (nat_eq s.0 e.0) (by live all.1)
      where
        this : (b : Bool) → length (shaped_kinds (unwrap_or (lookup (nat_eq s.0) live) no_head).shape) ≤ CELLS
            → length (shaped_kinds (unwrap_or (cond b (Some e.1) (lookup (nat_eq s.0) live)) no_head).shape) ≤ CELLS
        this true rest = all.0
        this false rest = rest

-- all areas have room
pub room_in : (area : Area) (P : List Kind) (L : Uses) (w : World) (m : Mem) → length P ≤ CELLS → length L ≤ CELLS → Keeps P L w m
    → length (uses_in P L (heads_of w.spaces) area) ≤ CELLS
room_in Run P L w m few room h = room
room_in Packets P L w m few room h = omega (arith, few, length-map P OfValue)
room_in (areas.Space s) P L w m few room h =
    let fit = fit_at s (heads_of w.spaces) h.spaces.given in omega (arith, fit, length-map (kinds_of s (heads_of w.spaces)) OfValue)

pub get_left : {A : Type 0} (xs ys : List A) (i : ℕ) (x : A) → slice_get xs i ≡ Some x → slice_get (xs ++ ys) i ≡ Some x
get_left [] ys i x e = let f : ⊥ = cc in absurd f
get_left (y ∷ xs) ys zero x e = e
get_left (y ∷ xs) ys (suc i) x e = get_left xs ys i x e

pub get_back : {A : Type 0} (xs ys : List A) (i : ℕ) → i < length xs → slice_get (xs ++ ys) i ≡ slice_get xs i
get_back [] ys i lt = absurd (omega arith)
get_back (y ∷ xs) ys zero lt = refl
get_back (y ∷ xs) ys (suc i) lt = get_back xs ys i (omega arith)

pub get_right : {A : Type 0} (xs ys : List A) (j : ℕ) → slice_get (xs ++ ys) (length xs + j) ≡ slice_get ys j
get_right [] ys j = let e : 0 + j ≡ j = omega arith in ap (slice_get ys) e
get_right (x ∷ xs) ys j = let e : length (x ∷ xs) + j ≡ suc (length xs + j) = omega arith in ap (slice_get (x ∷ (xs ++ ys))) e ∙ get_right xs ys j

some_is : {A : Type 0} (a b : A) → Some a ≡ Some b → a ≡ b
some_is a b e = cc

-- with more cells behind, and without them
pub at_wider : (ks : List Kind) (L M : Uses) (x : ℕ) → AtKinds ks L x → AtKinds ks (L ++ M) x
at_wider [] L M x h = omega (arith, h, length-append L M)
at_wider (k ∷ ks) L M x h = (get_left L M x (OfValue k) h.0, at_wider ks L M (x + 1) h.1)

pub at_front : (ks : List Kind) (L M : Uses) (x : ℕ) → x + length ks ≤ length L → AtKinds ks (L ++ M) x → AtKinds ks L x
at_front [] L M x le h = omega (arith, le)
at_front (k ∷ ks) L M x le h = (sym (get_back L M x (omega (arith, le))) ∙ h.0, at_front ks L M (x + 1) (omega (arith, le)) h.1)

-- so the cells hold the slots
pub image : (area : Area) (P : List Kind) (L : Uses) (slots : List Slot) (cells : Cells) → KeepsIn area P L slots cells → Image area slots cells
image area P L slots cells h room x s e =
    let within : x < length L = omega (arith, slice_get_within slots x s e, h.as_many) in
    let k = slice_index_or L x OfNothing in
    let same : slot_at slots x ≡ s = some_is _ s (sym (slice_get-get_or slots x Taken (slice_get_within slots x s e)) ∙ e) in
    by k (subst (λ s. Kept P L x k s (cells (area_cell area x))) same (h.each x k (slice_get-get_or L x OfNothing within)))
  where
    by : (k : Use) → Kept P L x k s (cells (area_cell area x)) → StandsFor (cells (area_cell area x)) s
    by (OfValue k) g = subst (StandsFor (cells (area_cell area x))) (sym g.1) g.3
    by (OfPlace ks) g = subst (StandsFor (cells (area_cell area x))) (sym g.1) g.4
    by (OfLimit l) g = subst (StandsFor (cells (area_cell area x))) (sym g.0) tt
    by OfNothing g = g.3

-- where they are variables alone, each has a value of its kind
pub all_variables : (area : Area) (P kinds : List Kind) (slots : List Slot) (cells : Cells) → KeepsIn area P (map OfValue kinds) slots cells
    → HasVariables area kinds slots cells
all_variables area P kinds slots cells h = record {
  as_many = h.as_many ∙ length-map kinds OfValue;
  each = λ x k e.
      let g = h.each x (OfValue k) (slice_get-map OfValue kinds x ∙ ap (option_map OfValue) e) in
      let within : x < length slots = omega (arith, slice_get_within kinds x k e, h.as_many, length-map kinds OfValue) in
      (g.0, slice_get-get_or slots x Taken within ∙ ap Some g.1, g.2);
  image = image area P (map OfValue kinds) slots cells h;
  beyond = λ x past. h.beyond x (omega (arith, past, length-map kinds OfValue));
}

-- so the memory has the data spaces
pub has_spaces : (P : List Kind) (spaces : Spaces) (m : Mem) → KeepsSpaces P spaces m → HasSpaces spaces m
has_spaces P spaces m h = record {
  heads = h.heads;
  sound = h.sound;
  given = h.given;
  each = λ s. all_variables (areas.Space s) P (kinds_of s (heads_of spaces)) (map Holds (values_of s spaces)) m.cells (h.each s);
}

-- what a variable holds is read out of its cell
pub reads : (area : Area) (P : List Kind) (L : Uses) (slots : List Slot) (cells : Cells) (x : ℕ) (k : Kind) (go : Value → Move) → KeepsIn area P L slots cells
    → slice_get L x ≡ Some (OfValue k)
    → IsOf k (value_of (slot_at slots x)) × (on_cell k (cells (area_cell area x)) go ≡ go (value_of (slot_at slots x)))
reads area P L slots cells x k go h e =
    let g = h.each x (OfValue k) e in
    let same : value_of (slot_at slots x) ≡ g.0 = ap value_of g.1 in
    (subst (IsOf k) (sym same) g.2, ap (λ c. on_cell k c go) g.3 ∙ value_back k g.0 go g.2 ∙ ap go (sym same))

-- and the place that a VAR parameter holds
pub refers : (P : List Kind) (L : Uses) (store : List Slot) (cells : Cells) (x : ℕ) (ks : List Kind) (go : Addr → Move) → KeepsIn Run P L store cells
    → slice_get L x ≡ Some (OfPlace ks) → AtPlace P ks L (place_of (slot_at store x))
    × (on_word (cells (run_cell x)) (λ n. go (place_in n)) ≡ go (addr_of (place_of (slot_at store x))))
refers P L store cells x ks go h e =
    let g = h.each x (OfPlace ks) e in
    let y = place_of (slot_at store x) in
    let same : y ≡ g.0 = ap place_of g.1 in
    let is : AtPlace P ks L y = subst (AtPlace P ks L) (sym same) g.3 in
    let n : cells (run_cell x) ≡ Word (place_number (addr_of y)) = g.4 ∙ ap (λ (y : Place). Word (place_number (addr_of y))) (sym same) in
    (is, ap (λ c. on_word c (λ n. go (place_in n))) n ∙ ap go (place_back (addr_of y) is.2 is.1))

-- and a limit
pub reads_limit : (P : List Kind) (L : Uses) (store : List Slot) (cells : Cells) (x : ℕ) (l : ℤ) (go : ℤ → Move) → KeepsIn Run P L store cells
    → slice_get L x ≡ Some (OfLimit l) → on_number (cells (run_cell x)) go ≡ go l
reads_limit P L store cells x l go h e =
    let g = h.each x (OfLimit l) e in
    ap (λ c. on_number c go) g.2 ∙ ap go (number_back l g.1)

-- the cells behind those in use are free
pub free_beyond : (ns : List Cell) (at : ℕ) (cells : Cells) → ((x : ℕ) → at ≤ x → cells (run_cell x) ≡ Free) → are_free at ns cells ≡ true
free_beyond [] at cells h = refl
free_beyond (n ∷ ns) at cells h =
    ap (λ c. is_free c && are_free (suc at) ns cells) (h at (omega arith)) ∙ free_beyond ns (suc at) cells (λ x le. h x (omega (arith, le)))

-- a value of its kind is written to a variable
pub writes : (area : Area) (P : List Kind) (L : Uses) (slots : List Slot) (cells : Cells) (x : ℕ) (k : Kind) (v : Value) → KeepsIn area P L slots cells
    → slice_get L x ≡ Some (OfValue k) → IsOf k v → KeepsIn area P L (slice_set slots x (Holds v)) (written cells (area_cell area x) (held_of v))
writes area P L slots cells x k v h e ok =
    let within : x < length slots = omega (arith, slice_get_within L x (OfValue k) e, h.as_many) in
    let now = written cells (area_cell area x) (held_of v) in
    let tell : (y : ℕ) → now (area_cell area y) ≡ cond (y == x) (held_of v) (cells (area_cell area y)) =
    λ y. ap (λ b. cond b (held_of v) (cells (area_cell area y))) (same_there area y x) in
    record {
      as_many = length-set slots x (Holds v) ∙ h.as_many;
      each = λ y k' e'. ⊎_elim
          (λ t.
          let used_for : OfValue k ≡ k' = some_is (OfValue k) k' (sym e ∙ ap (slice_get L) (sym t.1) ∙ e') in
          let slot : slot_at (slice_set slots x (Holds v)) y ≡ Holds v =
          ap (slot_at (slice_set slots x (Holds v))) t.1 ∙ get_or-set_same slots x (Holds v) Taken within in
          let number : now (area_cell area y) ≡ held_of v = tell y ∙ ap (λ b. cond b (held_of v) (cells (area_cell area y))) t.0 in
          subst (λ k'. Kept P L y k' (slot_at (slice_set slots x (Holds v)) y) (now (area_cell area y))) used_for (v, slot, ok, number))
          (λ t.
          let slot : slot_at (slice_set slots x (Holds v)) y ≡ slot_at slots y = get_or-set_other slots x y (Holds v) Taken t.1 in
          let number : now (area_cell area y) ≡ cells (area_cell area y) = tell y ∙ ap (λ b. cond b (held_of v) (cells (area_cell area y))) t.0 in
          subst (λ n. Kept P L y k' (slot_at (slice_set slots x (Holds v)) y) n) (sym number)
          (subst (λ s. Kept P L y k' s (cells (area_cell area y))) (sym slot) (h.each y k' e')))
          (eqb_tells y x);
      beyond = λ y past. ⊎_elim (λ t. absurd (omega (arith, past, within, h.as_many, t.1)))
          (λ t. tell y ∙ ap (λ b. cond b (held_of v) (cells (area_cell area y))) t.0 ∙ h.beyond y past) (eqb_tells y x);
    }

-- a variable's cell takes each value of its kind
pub takes_value : (area : Area) (P : List Kind) (L : Uses) (slots : List Slot) (cells : Cells) (x : ℕ) (k : Kind) (v : Value) → KeepsIn area P L slots cells
    → slice_get L x ≡ Some (OfValue k) → IsOf k v → takes (held_of v) (cells (area_cell area x)) ≡ true
takes_value area P L slots cells x k v h e ok = let g = h.each x (OfValue k) e in ap (takes (held_of v)) g.3 ∙ takes_held k v g.0 ok g.2

-- what is known of the cells of an area, where they are as before
pub area_stays : (area : Area) (P : List Kind) (L : Uses) (slots : List Slot) (cells now : Cells)
    → ((x : ℕ) → now (area_cell area x) ≡ cells (area_cell area x)) → KeepsIn area P L slots cells → KeepsIn area P L slots now
area_stays area P L slots cells now same h = record {
  as_many = h.as_many;
  each = λ x k e. subst (Kept P L x k (slot_at slots x)) (sym (same x)) (h.each x k e);
  beyond = λ x past. same x ∙ h.beyond x past;
}

-- of the cells of data spaces
pub spaces_stay : (P : List Kind) (spaces : Spaces) (m : Mem) (now : Cells) → ((s : SpaceNo) (x : ℕ) → now (space_cell s x) ≡ m.cells (space_cell s x))
    → KeepsSpaces P spaces m → KeepsSpaces P spaces (with_cells now m)
spaces_stay P spaces m now same h = record {
  heads = h.heads;
  sound = h.sound;
  given = h.given;
  each = λ s.
      area_stays (areas.Space s) P (map OfValue (kinds_of s (heads_of spaces))) (map Holds (values_of s spaces)) m.cells now (same s) (h.each s);
}

-- of the cells of packets
pub packets_stay : (P : List Kind) (L : Uses) (slots : List Slot) (cells now : Cells) → ((x : ℕ) → now (packet_cell x) ≡ cells (packet_cell x))
    → KeepsIn Packets P L slots cells → KeepsIn Packets P L slots now
packets_stay P L slots cells now same h = record {
  as_many = h.as_many;
  each = λ x k e. subst (Kept P L x k (slot_at slots x)) (sym (same x)) (h.each x k e);
  beyond = λ x past. same x ∙ h.beyond x past;
}

-- and of the command
pub command_stays : (P : List Kind) (L : Uses) (slots : List Slot) (cells now : Cells) → ((x : ℕ) → now (run_cell x) ≡ cells (run_cell x))
    → KeepsIn Run P L slots cells → KeepsIn Run P L slots now
command_stays P L slots cells now same h = record {
  as_many = h.as_many;
  each = λ x k e. subst (Kept P L x k (slot_at slots x)) (sym (same x)) (h.each x k e);
  beyond = λ x past. same x ∙ h.beyond x past;
}

-- the cells from one up to another, after they were given back
abbrev pub emptied : (Cell → Cell) → ℕ → ℕ → Cells → Cells
emptied gone from until cells = λ a. cond (is_between from until a) (gone (cells a)) (cells a)

-- the cells behind some are given back, where nothing is known then of what was kept in them
cuts_command : (gone : Cell → Cell) (P : List Kind) (L M : Uses) (store : List Slot) (cells : Cells) (n from used : ℕ) → n ≡ length L → from ≡ length L → used ≡ length (L ++ M)
    → ((x : ℕ) (k : Use) (s : Slot) (c : Cell) → length L ≤ x → slice_get (L ++ M) x ≡ Some k → Kept P (L ++ M) x k s c → gone c ≡ Free)
    → KeepsIn Run P (L ++ M) store cells → KeepsIn Run P L (take n store) (emptied gone from used cells)
cuts_command gone P L M store cells n from used is from_is used_is lost h =
    let long : length L ≤ length store = omega (arith, h.as_many, length-append L M) in
    record {
      as_many = length-take-le n store (omega arith) ∙ is;
      each = λ x k e.
          let within = slice_get_within L x k e in
          let slot : slot_at (take n store) x ≡ slot_at store x = get_or-take n store x Taken (omega arith) in
          let low : nat_le from x ≡ false = grind (arith, nat_tests) in
          let same : emptied gone from used cells (run_cell x) ≡ cells (run_cell x) =
          ap (λ b. cond (b && nat_lt x used) (gone (cells (run_cell x))) (cells (run_cell x))) low in
          subst (Kept P L x k (slot_at (take n store) x)) (sym same)
          (subst (λ s. Kept P L x k s (cells (run_cell x))) (sym slot) (by x k within (h.each x k (get_left L M x k e))));
      beyond = λ x past.
          let high : nat_le from x ≡ true = grind (arith, nat_tests) in
          ap (λ b. cond (b && nat_lt x used) (gone (cells (run_cell x))) (cells (run_cell x))) high ∙ behind x past (nat_lt x used) refl;
    }
  where
    front : (ks : List Kind) (area : Area) (x y : ℕ) → x < length L → StandsBefore x area (y + length ks) → StandsIn P ks (L ++ M) area y → StandsIn P ks L area y
    front ks Run x y lt low at_y = at_front ks L M y (omega (arith, low, lt)) at_y
    front ks Packets x y lt low at_y = at_y
    front ks (areas.Space s) x y lt low at_y = at_y

    by : (x : ℕ) (k : Use) → x < length L → Kept P (L ++ M) x k (slot_at store x) (cells (run_cell x)) → Kept P L x k (slot_at store x) (cells (run_cell x))
    by x (OfValue k) lt g = g
    by x (OfPlace ks) lt g = (g.0, g.1, g.2, (front ks g.0.area x g.0.variable lt g.2 g.3.0, g.3.1, g.3.2), g.4)
    by x (OfLimit l) lt g = g
    by x OfNothing lt g = g

    behind : (x : ℕ) → length L ≤ x → (b : Bool) → nat_lt x used ≡ b → cond b (gone (cells (run_cell x))) (cells (run_cell x)) ≡ Free
    behind x past true e =
        let within : x < length (L ++ M) = grind (arith, nat_tests, e, used_is) in
        let k = slice_index_or (L ++ M) x OfNothing in
        let is_for = slice_get-get_or (L ++ M) x OfNothing within in
        lost x k (slot_at store x) (cells (run_cell x)) past is_for (h.each x k is_for)
    behind x past false e = let after : used ≤ x = grind (arith, nat_tests, e) in h.beyond x (omega (arith, after, used_is))

pub cuts : (gone : Cell → Cell) (P : List Kind) (L M : Uses) (w : World) (m : Mem) (n from used : ℕ) → n ≡ length L → from ≡ length L
    → used ≡ length (L ++ M)
    → ((x : ℕ) (k : Use) (s : Slot) (c : Cell) → length L ≤ x → slice_get (L ++ M) x ≡ Some k → Kept P (L ++ M) x k s c → gone c ≡ Free)
    → Keeps P (L ++ M) w m → Keeps P L (record w { store = take n w.store }) (with_cells (emptied gone from used m.cells) m)
cuts gone P L M w m n from used is from_is used_is lost h = record {
  command = cuts_command gone P L M w.store m.cells n from used is from_is used_is lost h.command;
  packets = packets_stay P (map OfValue P) w.packets m.cells (emptied gone from used m.cells) (λ x. refl) h.packets;
  spaces = spaces_stay P w.spaces m (emptied gone from used m.cells) (λ s x. refl) h.spaces;
  answers = h.answers;
}

-- a limit is a number, which can be forgotten
pub limit_forgotten : (P : List Kind) (L : Uses) (l : ℤ) (x : ℕ) (k : Use) (s : Slot) (c : Cell) → length L ≤ x → slice_get (L ++ OfLimit l ∷ []) x ≡ Some k
    → Kept P (L ++ OfLimit l ∷ []) x k s c → forgotten c ≡ Free
limit_forgotten P L l x k s c past e g =
    let U = L ++ OfLimit l ∷ [] in
    let n : x ≡ length L + 0 = omega (arith, slice_get_within U x k e, past, length-append L (OfLimit l ∷ [])) in
    let is : OfLimit l ≡ k = some_is (OfLimit l) k (sym (get_right L (OfLimit l ∷ []) 0) ∙ ap (slice_get U) (sym n) ∙ e) in
    let kept : Kept P U x (OfLimit l) s c = subst (λ k. Kept P U x k s c) (sym is) g in
    ap forgotten kept.2

-- more cells are taken, and hold what is for them
abbrev pub AllKept : List Kind → Uses → ℕ → Uses → List Slot → List Cell → Type 0
AllKept P L at [] [] [] = Unit {0}
AllKept P L at (k ∷ M) (s ∷ more) (n ∷ numbers) = Kept P L at k s n × AllKept P L (suc at) M more numbers
AllKept P L at _ _ _ = ⊥

wider_in : (ks : List Kind) (P : List Kind) (L M : Uses) (area : Area) (x : ℕ) → StandsIn P ks L area x → StandsIn P ks (L ++ M) area x
wider_in ks P L M Run x h = at_wider ks L M x h
wider_in ks P L M Packets x h = h
wider_in ks P L M (areas.Space s) x h = h

pub place_wider : (ks : List Kind) (P : List Kind) (L M : Uses) (x : Place) → AtPlace P ks L x → AtPlace P ks (L ++ M) x
place_wider ks P L M x h = (wider_in ks P L M x.area x.variable h.0, h.1, h.2)

kept_wider : (P : List Kind) (L M : Uses) (at : ℕ) (k : Use) (s : Slot) (n : Cell) → Kept P L at k s n → Kept P (L ++ M) at k s n
kept_wider P L M at (OfValue k) s n g = g
kept_wider P L M at (OfPlace ks) s n g = (g.0, g.1, g.2, place_wider ks P L M g.0 g.3, g.4)
kept_wider P L M at (OfLimit l) s n g = g
kept_wider P L M at OfNothing s n g = g

extends_command : (P : List Kind) (L : Uses) (store : List Slot) (cells : Cells) (k : Use) (s : Slot) (n : Cell) → KeepsIn Run P L store cells
    → Kept P L (length L) k s n → KeepsIn Run P (L ++ k ∷ []) (store ++ s ∷ []) (written cells (run_cell (length L)) n)
extends_command P L store cells k s n h g = record {
  as_many = omega (arith, h.as_many, length-append store (s ∷ []), length-append L (k ∷ []));
  each = λ x k' e. ⊎_elim
      (λ t.
      let used_for : k ≡ k' = some_is k k' (sym (ap (slice_get (L ++ k ∷ [])) t.1 ∙ last L k) ∙ e) in
      let slot : slot_at (store ++ s ∷ []) x ≡ s = ap (slot_at (store ++ s ∷ [])) (t.1 ∙ sym h.as_many) ∙ get_or-append_seam store s [] Taken in
      let number : written cells (run_cell (length L)) n (run_cell x) ≡ n = ap (λ b. cond b n (cells (run_cell x))) t.0 in
      let kept = kept_wider P L (k ∷ []) (length L) k s n g in
      subst (λ k'. Kept P (L ++ k ∷ []) x k' (slot_at (store ++ s ∷ []) x) (written cells (run_cell (length L)) n (run_cell x))) used_for
      (subst (λ m. Kept P (L ++ k ∷ []) x k (slot_at (store ++ s ∷ []) x) m) (sym number)
      (subst (λ s'. Kept P (L ++ k ∷ []) x k s' n) (sym slot) (subst (λ at. Kept P (L ++ k ∷ []) at k s n) (sym t.1) kept))))
      (λ t.
      let most : x < length L + 1 = omega (arith, slice_get_within (L ++ k ∷ []) x k' e, length-append L (k ∷ [])) in
      let within : x < length L = less x (length L) t.1 most in
      let old : slice_get L x ≡ Some k' = sym (get_back L (k ∷ []) x within) ∙ e in
      let slot : slot_at (store ++ s ∷ []) x ≡ slot_at store x = get_or_append_left store (s ∷ []) Taken x (omega (arith, within, h.as_many)) in
      let number : written cells (run_cell (length L)) n (run_cell x) ≡ cells (run_cell x) = ap (λ b. cond b n (cells (run_cell x))) t.0 in
      subst (λ m. Kept P (L ++ k ∷ []) x k' (slot_at (store ++ s ∷ []) x) m) (sym number)
      (subst (λ s'. Kept P (L ++ k ∷ []) x k' s' (cells (run_cell x))) (sym slot)
      (kept_wider P L (k ∷ []) x k' (slot_at store x) (cells (run_cell x)) (h.each x k' old))))
      (eqb_tells x (length L));
  beyond = λ x past. ⊎_elim (λ t. absurd (omega (arith, past, length-append L (k ∷ []), t.1)))
      (λ t. ap (λ b. cond b n (cells (run_cell x))) t.0 ∙ h.beyond x (omega (arith, past, length-append L (k ∷ [])))) (eqb_tells x (length L));
}
  where
    last : (L : Uses) (k : Use) → slice_get (L ++ k ∷ []) (length L) ≡ Some k
    last L k = let e : length L ≡ length L + 0 = omega arith in ap (slice_get (L ++ k ∷ [])) e ∙ get_right L (k ∷ []) 0

    less : (a b : ℕ) → (a ≡ b → ⊥) → a < b + 1 → a < b
    less a b ne lt = ⊎_elim (λ l. l) (λ le. let e : a ≡ b = omega (arith, lt, le) in absurd (ne e)) (cases_lt a b)

extends_all : (P : List Kind) (M : Uses) (L : Uses) (store more : List Slot) (cells : Cells) (numbers : List Cell) → KeepsIn Run P L store cells
    → AllKept P L (length L) M more numbers → KeepsIn Run P (L ++ M) (store ++ more) (written_from (length L) numbers cells)
extends_all P [] L store [] cells [] h g =
    subst (λ U. KeepsIn Run P U (store ++ []) cells) (sym (append-nil L)) (subst (λ t. KeepsIn Run P L t cells) (sym (append-nil store)) h)
extends_all P [] L store (s ∷ more) cells ns h g = absurd g
extends_all P [] L store [] cells (n ∷ ns) h g = absurd g
extends_all P (k ∷ M) L store [] cells ns h g = absurd g
extends_all P (k ∷ M) L store (s ∷ more) cells [] h g = absurd g
extends_all P (k ∷ M) L store (s ∷ more) cells (n ∷ ns) h g =
    let one = extends_command P L store cells k s n h g.0 in
    let size : length (L ++ k ∷ []) ≡ suc (length L) = omega (arith, length-append L (k ∷ [])) in
    let rest =
    extends_all P M (L ++ k ∷ []) (store ++ s ∷ []) more (written cells (run_cell (length L)) n) ns one
    (subst (λ at. AllKept P (L ++ k ∷ []) at M more ns) (sym size) (wider M (suc (length L)) more ns g.1)) in
    let rest' = subst (λ at. KeepsIn Run P ((L ++ k ∷ []) ++ M) ((store ++ s ∷ []) ++ more) (written_from at ns (written cells (run_cell (length L)) n))) size rest in
    subst (λ U. KeepsIn Run P U (store ++ s ∷ more) (written_from (suc (length L)) ns (written cells (run_cell (length L)) n))) (append_assoc L (k ∷ []) M)
    (subst (λ t. KeepsIn Run P ((L ++ k ∷ []) ++ M) t (written_from (suc (length L)) ns (written cells (run_cell (length L)) n))) (append_assoc store (s ∷ []) more)
    rest')
  where
    wider : (M : Uses) (at : ℕ) (more : List Slot) (ns : List Cell) → AllKept P L at M more ns → AllKept P (L ++ k ∷ []) at M more ns
    wider [] at [] [] g = tt
    wider [] at (s ∷ more) ns g = absurd g
    wider [] at [] (n ∷ ns) g = absurd g
    wider (j ∷ M) at [] ns g = absurd g
    wider (j ∷ M) at (s ∷ more) [] g = absurd g
    wider (j ∷ M) at (s ∷ more) (n ∷ ns) g = (kept_wider P L (k ∷ []) at j s n g.0, wider M (suc at) more ns g.1)

-- what is put into cells of the command changes no cell of packets
beside_frame : (ns : List Cell) (at x : ℕ) (cells : Cells) → written_from at ns cells (packet_cell x) ≡ cells (packet_cell x)
beside_frame [] at x cells = refl
beside_frame (n ∷ ns) at x cells = beside_frame ns (suc at) x (written cells (run_cell at) n)

beside_spaces : (ns : List Cell) (at : ℕ) (s : SpaceNo) (x : ℕ) (cells : Cells) → written_from at ns cells (space_cell s x) ≡ cells (space_cell s x)
beside_spaces [] at s x cells = refl
beside_spaces (n ∷ ns) at s x cells = beside_spaces ns (suc at) s x (written cells (run_cell at) n)

pub extends_one : (P : List Kind) (L : Uses) (w : World) (m : Mem) (k : Use) (s : Slot) (n : Cell) → Keeps P L w m → Kept P L (length L) k s n
    → Keeps P (L ++ k ∷ []) (record w { store = w.store ++ s ∷ [] }) (with_cells (written m.cells (run_cell (length L)) n) m)
extends_one P L w m k s n h g =
    let now = written m.cells (run_cell (length L)) n in record {
      command = extends_command P L w.store m.cells k s n h.command g;
      packets = packets_stay P (map OfValue P) w.packets m.cells now (λ x. refl) h.packets;
      spaces = spaces_stay P w.spaces m now (λ s x. refl) h.spaces;
      answers = h.answers;
    }

pub extends : (P : List Kind) (M : Uses) (L : Uses) (w : World) (more : List Slot) (m : Mem) (numbers : List Cell) → Keeps P L w m
    → AllKept P L (length L) M more numbers
    → Keeps P (L ++ M) (record w { store = w.store ++ more }) (with_cells (written_from (length L) numbers m.cells) m)
extends P M L w more m numbers h g =
    let now = written_from (length L) numbers m.cells in record {
      command = extends_all P M L w.store more m.cells numbers h.command g;
      packets = packets_stay P (map OfValue P) w.packets m.cells now (λ x. beside_frame numbers (length L) x m.cells) h.packets;
      spaces = spaces_stay P w.spaces m now (λ s x. beside_spaces numbers (length L) s x m.cells) h.spaces;
      answers = h.answers;
    }
