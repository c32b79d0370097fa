-- Cells of shapes are found where they stand.
use Rattle.std.proofs.Common.{◌≡◌, ℕ, zero, suc, ◌+◌, ◌-◌, ◌*◌, ◌/◌, ◌%◌, ◌<◌, ◌≤◌, Bool, true, false, List, [], ◌∷◌, ◌++◌, map, length, take, drop, replicate, refl, sym, ap, ◌∙◌}
use Rattle.std.proofs.Common.{arith, length-append, subst, nat_eq, nat_le}
use Rattle.std.proofs.lemmas.Bool.{ne_eqb, lt-leb}
use Rattle.std.proofs.lemmas.Bool.Decides.{nat_tests}
use Rattle.std.proofs.lemmas.Nat.{div-add-mod', mod_below, mul-le}
use Rattle.std.proofs.lemmas.List.{map_more, take-map}
use Rattle.std.specs.Prelude.{◌&&◌, get_or, Result, Ok, Err}
use Rattle.eu_base.specs.declared.value.Kind.{Kind}
use Rattle.eu_base.specs.declared.shape.Shape.{Shape}
use Rattle.eu_base.specs.Shapes.{cell_kinds, joined}
use Rattle.eu_base.specs.declared.address.TheConstants.{CELLS}
use Rattle.eu_base.specs.Room.{cells_fit}
use Rattle.eu_base.specs.SpacePlaces.{begin_with}
use Rattle.eu_base.proofs.Shapes.{joined_more}
use Rattle.space_calls.specs.Kinds.{found_in, found_in_row, kind_is}

-- behind cells come others
abbrev or_in : List Kind → Result Kind ℕ → Result Kind ℕ
or_in ys (Ok k) = Ok k
or_in ys (Err n) = found_in ys n

found_append : (xs ys : List Kind) (n : ℕ) → found_in (xs ++ ys) n ≡ or_in ys (found_in xs n)
found_append [] ys n = refl
found_append (x ∷ xs) ys zero = refl
found_append (x ∷ xs) ys (suc n) = found_append xs ys n

-- what is not found is behind all cells
pub found_behind : (xs : List Kind) (n m : ℕ) → found_in xs n ≡ Err m → n ≡ m + length xs
found_behind [] n m e = let f : n ≡ m = cc in omega (arith, f)
found_behind (x ∷ xs) zero m e = let f : ⊥ = cc in absurd f
found_behind (x ∷ xs) (suc n) m e = let f = found_behind xs n m e in omega (arith, f)

-- whether an area has as many cells as these from a place on is told by where the cell behind its last one is found
found_among : (xs : List Kind) (n : ℕ) (k : Kind) → found_in xs n ≡ Ok k → n < length xs
found_among [] n k e = let f : ⊥ = cc in absurd f
found_among (x ∷ xs) zero k e = omega arith
found_among (x ∷ xs) (suc n) k e = let f = found_among xs n k e in omega (arith, f)

pub too_many : (xs : List Kind) (from : ℕ) (k : Kind) → Ok k ≡ found_in xs CELLS → false ≡ cells_fit (from + length xs)
too_many xs from k e = let f = found_among xs CELLS k (sym e) in sym (lt-leb (from + length xs) CELLS (omega (arith, f)))

pub so_many : (xs : List Kind) (from same left : ℕ) → same ≡ from → Err left ≡ found_in xs CELLS → nat_le same left ≡ cells_fit (from + length xs)
so_many xs from same left is e =
    let f = found_behind xs CELLS left (sym e) in
    grind (arith, nat_tests, f, is)

behind_all : (xs : List Kind) (m : ℕ) → found_in xs (length xs + m) ≡ Err m
behind_all [] m = let e : 0 + m ≡ m = omega arith in ap (λ (n : ℕ). found_in [] n) e
behind_all (x ∷ xs) m = let e : suc (length xs) + m ≡ suc (length xs + m) = omega arith in ap (found_in (x ∷ xs)) e ∙ behind_all xs m

within : (xs ys : List Kind) (n : ℕ) → n < length xs → or_in ys (found_in xs n) ≡ found_in xs n
within xs ys n lt = by (found_in xs n) refl
  where
    by : (r : Result Kind ℕ) → found_in xs n ≡ r → or_in ys r ≡ r
    by (Ok k) e = refl
    by (Err m) e = let f = found_behind xs n m e in absurd (omega (arith, f, lt))

-- ---- kinds from a place on

pub next_kinds : (k : Kind) (ks all : List Kind) (n : ℕ)
    → begin_with (k ∷ ks) (drop n all) ≡ (kind_is k (found_in all n) && begin_with ks (drop (n + 1) all))
next_kinds k ks [] zero = refl
next_kinds k ks [] (suc n) = refl
next_kinds k ks (j ∷ js) zero = refl
next_kinds k ks (j ∷ js) (suc n) =
    let e : suc (n + 1) ≡ suc n + 1 = omega arith in
    next_kinds k ks js n ∙ ap (λ (m : ℕ). kind_is k (found_in js n) && begin_with ks (drop m (j ∷ js))) e

drop_next : (xs : List Kind) (i : ℕ) (d : Kind) → i < length xs → drop i xs ≡ get_or xs i d ∷ drop (i + 1) xs
drop_next [] i d lt = absurd (omega (arith, lt))
drop_next (x ∷ xs) zero d lt = refl
drop_next (x ∷ xs) (suc i) d lt =
    let e : suc (i + 1) ≡ suc i + 1 = omega arith in
    drop_next xs i d (omega (arith, lt)) ∙ ap (λ (m : ℕ). get_or xs i d ∷ drop m (x ∷ xs)) e

module _ (kinds all : List Kind) (i place : ℕ) (k d : Kind) (lt : i < length kinds) (is : k ≡ get_or kinds i d) where
  one_more : begin_with (drop i kinds) (drop place all) ≡ (kind_is k (found_in all place) && begin_with (drop (i + 1) kinds) (drop (place + 1) all))
  one_more =
      ap (λ (ks : List Kind). begin_with ks (drop place all)) (drop_next kinds i d lt ∙ ap (λ (k : Kind). k ∷ drop (i + 1) kinds) (sym is))
      ∙ next_kinds k (drop (i + 1) kinds) all place

  module _ (f : Result Kind ℕ) (b : Bool) (found_is : f ≡ found_in all place) (b_is : b ≡ kind_is k f) where
    tested : kind_is k (found_in all place) ≡ b
    tested = ap (kind_is k) (sym found_is) ∙ sym b_is

    pub kinds_go_on : b ≡ true → begin_with (drop i kinds) (drop place all) ≡ begin_with (drop (i + 1) kinds) (drop (place + 1) all)
    kinds_go_on e = one_more ∙ ap (λ (b : Bool). b && begin_with (drop (i + 1) kinds) (drop (place + 1) all)) (tested ∙ e)

    pub kinds_end : b ≡ false → begin_with (drop i kinds) (drop place all) ≡ false
    kinds_end e = one_more ∙ ap (λ (b : Bool). b && begin_with (drop (i + 1) kinds) (drop (place + 1) all)) (tested ∙ e)

-- where nothing stands, only no kinds do
pub none_begin : (ks : List Kind) (n : ℕ) → begin_with ks (drop n []) ≡ nat_eq (length ks) 0
none_begin [] zero = refl
none_begin [] (suc n) = refl
none_begin (k ∷ ks) zero = sym (ne_eqb (suc (length ks)) 0 (λ e. omega (arith, e)))
none_begin (k ∷ ks) (suc n) = sym (ne_eqb (suc (length ks)) 0 (λ e. omega (arith, e)))

-- ---- rows

row_cells : (count : ℕ) (item : List Kind) → length (joined (replicate count item)) ≡ count * length item
row_cells zero item = omega arith
row_cells (suc n) item =
    let rest = row_cells n item in
    let e = length-append item (joined (replicate n item)) in
    omega (arith, rest, e)

pub row_first : (count : ℕ) (item : List Kind) (n : ℕ) (k : Kind) → 0 < count → found_in item n ≡ Ok k → found_in_row count item n ≡ Ok k
row_first zero item n k lt e = absurd (omega (arith, lt))
row_first (suc c) item n k lt e = found_append item (joined (replicate c item)) n ∙ ap (or_in (joined (replicate c item))) e

pub row_item : (item : List Kind) (count q r : ℕ) → r < length item → q < count → found_in_row count item (q * length item + r) ≡ found_in item r
row_item item zero q r lt few = absurd (omega (arith, few))
row_item item (suc c) zero r lt few =
    let e : 0 * length item + r ≡ r = omega arith in
    ap (found_in_row (suc c) item) e ∙ found_append item (joined (replicate c item)) r ∙ within item (joined (replicate c item)) r lt
row_item item (suc c) (suc q) r lt few =
    let e : suc q * length item + r ≡ length item + (q * length item + r) = omega arith in
    ap (found_in_row (suc c) item) e ∙ found_append item (joined (replicate c item)) (length item + (q * length item + r))
    ∙ ap (or_in (joined (replicate c item))) (behind_all item (q * length item + r)) ∙ row_item item c q r lt (omega (arith, few))

pub row_behind : (count : ℕ) (item : List Kind) (n : ℕ) → count * length item ≤ n → found_in_row count item n ≡ Err (n - count * length item)
row_behind count item n le =
    let m = n - count * length item in
    let e : n ≡ length (joined (replicate count item)) + m = omega (arith, le, row_cells count item) in
    ap (found_in_row count item) e ∙ behind_all (joined (replicate count item)) m

-- ---- parts

pub part_found : (before here : List Kind) (n left : ℕ) → found_in before n ≡ Err left → found_in (before ++ here) n ≡ found_in here left
part_found before here n left e = found_append before here n ∙ ap (or_in here) e

pub part_stays : (before more : List Kind) (n : ℕ) (k : Kind) → found_in before n ≡ Ok k → found_in (before ++ more) n ≡ Ok k
part_stays before more n k e = found_append before more n ∙ ap (or_in more) e

-- an item is as long as a cell that is not found in it is nearer then
module _ (count : ℕ) (item : List Kind) (n b : ℕ) (e : found_in item n ≡ Err b) where
  long : n - b ≡ length item
  long = let f = found_behind item n b e in omega (arith, f)

  pub nearer : b ≤ n
  nearer = let f = found_behind item n b e in omega (arith, f)

  pub row_none : n - b ≡ 0 → found_in_row count item n ≡ Err n
  row_none none =
      let z : count * length item ≡ 0 = ap (λ (m : ℕ). count * m) (sym long ∙ none) ∙ omega arith in
      row_behind count item n (omega (arith, z)) ∙ ap (λ (m : ℕ). Err m) (omega (arith, z))

  pub row_within : 0 < n - b → n / (n - b) < count → found_in_row count item n ≡ found_in item (n % (n - b))
  row_within some lt =
      let pos : 0 < length item = omega (arith, some, long) in
      subst (λ (m : ℕ). n / m < count → found_in_row count item n ≡ found_in item (n % m)) (sym long)
      (λ lt. ap (found_in_row count item) (sym (div-add-mod' n (length item)))
      ∙ row_item item count (n / length item) (n % length item) (mod_below n (length item) pos) lt) lt

  pub row_past : count ≤ n / (n - b) → found_in_row count item n ≡ Err (n - count * (n - b))
  row_past le =
      subst (λ (m : ℕ). count ≤ n / m → found_in_row count item n ≡ Err (n - count * m)) (sym long)
      (λ le. let small = mul-le count (length item) (n / length item) (length item) le (omega arith) in
      row_behind count item n (omega (arith, small, div-add-mod' n (length item)))) le

-- the parts of a structure
or_still : (xs ys : List Kind) (k : Kind) → ((b : ℕ) → found_in xs b ≡ Ok k → found_in ys b ≡ Ok k) → (r : Result Kind ℕ) → or_in xs r ≡ Ok k
    → or_in ys r ≡ Ok k
or_still xs ys k more (Ok j) e = e
or_still xs ys k more (Err b) e = more b e

still : (ls : List (List Kind)) (m n : ℕ) (k : Kind) → found_in (joined (take m ls)) n ≡ Ok k → found_in (joined ls) n ≡ Ok k
still [] zero n k e = e
still [] (suc m) n k e = e
still (l ∷ ls) zero n k e = let f : ⊥ = cc in absurd f
still (l ∷ ls) (suc m) n k e =
    found_append l (joined ls) n
    ∙ or_still (joined (take m ls)) (joined ls) k (λ b. still ls m b k) (found_in l n) (sym (found_append l (joined (take m ls)) n) ∙ e)

module _ (parts : List Shape) (i : ℕ) (p d : Shape) (lt : i < length parts) (is : p ≡ get_or parts i d) (n left : ℕ)
    (behind : found_in (joined (map cell_kinds (take i parts))) n ≡ Err left) where
  one_part : joined (map cell_kinds (take (i + 1) parts)) ≡ joined (map cell_kinds (take i parts)) ++ cell_kinds p
  one_part =
      ap joined (map_more cell_kinds parts i d lt) ∙ joined_more (map cell_kinds (take i parts)) (cell_kinds (get_or parts i d))
      ∙ ap (λ (q : Shape). joined (map cell_kinds (take i parts)) ++ cell_kinds q) (sym is)

  pub parts_go_on : found_in (joined (map cell_kinds (take (i + 1) parts))) n ≡ found_in (cell_kinds p) left
  parts_go_on =
      ap (λ (l : List Kind). found_in l n) one_part ∙ part_found (joined (map cell_kinds (take i parts))) (cell_kinds p) n left behind

  pub parts_found : (k : Kind) → Ok k ≡ found_in (cell_kinds p) left → Ok k ≡ found_in (joined (map cell_kinds parts)) n
  parts_found k e =
      let here : found_in (joined (map cell_kinds (take (i + 1) parts))) n ≡ Ok k = parts_go_on ∙ sym e in
      sym (still (map cell_kinds parts) (i + 1) n k
      (ap (λ (ls : List (List Kind)). found_in (joined ls) n) (take-map cell_kinds (i + 1) parts) ∙ here))
