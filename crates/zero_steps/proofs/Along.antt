-- Cells one after another from a place on.
use Rattle.std.proofs.Common.{◌≡◌, ℕ, zero, suc, ◌+◌, ◌%◌, ◌<◌, ◌≤◌, Bool, true, false, cond, List, [], ◌∷◌, map, length, take, Some, refl, sym, ap, ◌∙◌, arith}
use Rattle.std.specs.Prelude.{slice_get, ◌&&◌}
use Rattle.eu_base.specs.declared.address.Addr.{Addr}
use Rattle.eu_base.specs.declared.address.TheConstants.{CELLS}
use Rattle.eu_base.specs.declared.value.Value.{Value}
use Rattle.eu_base.specs.Room.{values_blocks}
use Rattle.eu_base.specs.Cells.{Cell, Cells, held_of, IsCell, same_cell, written, cell_blocks, area_blocks}
use Rattle.eu_base.proofs.Rooms.{held_blocks}
use Rattle.code_form.specs.Machine.{next, takes, takes_all, written_all}
use Rattle.zero_state.proofs.Blocks.{same_place, same_self, written_here, blocks_put}
use Rattle.zero_steps.specs.Reading.{blocks_from}

-- the place so many cells further on
abbrev pub steps_on : ℕ → Addr → Addr
steps_on zero a = a
steps_on (suc n) a = steps_on n (next a)

pub steps_cell : (n : ℕ) (a : Addr) → IsCell a → IsCell (steps_on n a)
steps_cell zero a low = low
steps_cell (suc n) a low = steps_cell n (next a) (omega arith)

pub step_more : (n : ℕ) (a : Addr) → next (steps_on n a) ≡ steps_on (suc n) a
step_more zero a = refl
step_more (suc n) a = step_more n (next a)

-- the place after a place
pub step_on : (n : ℕ) (a p q : Addr) → p ≡ steps_on n a → q ≡ next p → q ≡ steps_on (n + 1) a
step_on n a p q is on =
    let e : suc n ≡ n + 1 = omega arith in
    on ∙ ap next is ∙ step_more n a ∙ ap (λ n. steps_on n a) e

-- it lies in the same area
pub area_on : (n : ℕ) (a : Addr) → (steps_on n a).area ≡ a.area
area_on zero a = refl
area_on (suc n) a = area_on n (next a)

number_on : (n : ℕ) (a : Addr) → IsCell a → (steps_on n a).cell ≡ (a.cell + n) % 16384
number_on zero a low = omega (arith, low)
number_on (suc n) a low =
    let e : (steps_on n (next a)).cell ≡ ((a.cell + 1) % 16384 + n) % 16384 = number_on n (next a) (omega arith) in
    let f : ((a.cell + 1) % 16384 + n) % 16384 ≡ (a.cell + suc n) % 16384 = omega arith in
    e ∙ f

-- it comes back to the first cell only after all others
apart : (n : ℕ) (a : Addr) → IsCell a → suc n < CELLS → same_cell (steps_on n (next a)) a ≡ false
apart n a low lt = by (same_cell (steps_on n (next a)) a) refl
  where
    by : (b : Bool) → same_cell (steps_on n (next a)) a ≡ b → b ≡ false
    by true e =
        let f : (steps_on n (next a)).cell ≡ a.cell = ap (λ (a : Addr). a.cell) (same_place (steps_on n (next a)) a e) in
        let g = number_on (suc n) a low in
        absurd (omega (arith, f, g, low, lt))
    by false e = refl

-- so what is put into it stays beside what is put into those
other_cell : (cells : Cells) (a : Addr) (x : Cell) (n : ℕ) → IsCell a → suc n < CELLS → written cells a x (steps_on n (next a)) ≡ cells (steps_on n (next a))
other_cell cells a x n low lt = ap (λ b. cond b x (cells (steps_on n (next a)))) (apart n a low lt)

this_cell : (cells : Cells) (a : Addr) (x : Cell) (n : ℕ) → IsCell a → suc n < CELLS → written cells (steps_on n (next a)) x a ≡ cells a
this_cell cells a x n low lt = by (same_cell a (steps_on n (next a))) refl
  where
    by : (b : Bool) → same_cell a (steps_on n (next a)) ≡ b → cond b x (cells a) ≡ cells a
    by true e =
        let f : same_cell (steps_on n (next a)) a ≡ true =
        ap (λ b. same_cell b a) (sym (same_place a (steps_on n (next a)) e)) ∙ same_self a in
        absurd (cc (sym f ∙ apart n a low lt))
    by false e = refl

blocks_other : (vs : List Value) (n : ℕ) (a : Addr) (cells : Cells) (x : Cell) → IsCell a → n + length vs < CELLS
    → blocks_from (written cells a x) (steps_on n (next a)) vs ≡ blocks_from cells (steps_on n (next a)) vs
blocks_other [] n a cells x low lt = refl
blocks_other (v ∷ vs) n a cells x low lt =
    let b = steps_on n (next a) in
    let now = written cells a x in
    let here : cell_blocks (now b) ≡ cell_blocks (cells b) = ap cell_blocks (other_cell cells a x n low (omega (arith, lt))) in
    let rest : blocks_from now (next b) vs ≡ blocks_from cells (next b) vs =
    ap (λ b. blocks_from now b vs) (step_more n (next a)) ∙ blocks_other vs (suc n) a cells x low (omega (arith, lt))
    ∙ ap (λ b. blocks_from cells b vs) (sym (step_more n (next a))) in
    omega (arith, here, rest)

-- the blocks of all texts of the area after values were put there
pub blocks_all : (vs : List Value) (a : Addr) (cells : Cells) → IsCell a → length vs ≤ CELLS
    → area_blocks a.area (written_all cells a vs) + blocks_from cells a vs ≡ area_blocks a.area cells + values_blocks vs
blocks_all [] a cells low few = omega arith
blocks_all (v ∷ vs) a cells low few =
    let one = blocks_put cells a (held_of v) low in
    let rest = blocks_all vs (next a) (written cells a (held_of v)) (steps_cell 1 a low) (omega (arith, few)) in
    let same = blocks_other vs 0 a cells (held_of v) low (omega (arith, few)) in
    let held = held_blocks v in
    omega (arith, one, rest, same, held)

-- what is put into cells, one after another
abbrev pub put_cells : Cells → Addr → List Cell → Cells
put_cells cells a [] = cells
put_cells cells a (x ∷ xs) = put_cells (written cells a x) (next a) xs

pub written_put : (vs : List Value) (a : Addr) (cells : Cells) → written_all cells a vs ≡ put_cells cells a (map held_of vs)
written_put [] a cells = refl
written_put (v ∷ vs) a cells = written_put vs (next a) (written cells a (held_of v))

put_before : (xs : List Cell) (n : ℕ) (a : Addr) (cells : Cells) → IsCell a → n + length xs < CELLS → put_cells cells (steps_on n (next a)) xs a ≡ cells a
put_before [] n a cells low lt = refl
put_before (x ∷ xs) n a cells low lt =
    let b = steps_on n (next a) in
    ap (λ c. put_cells (written cells b x) c xs a) (step_more n (next a)) ∙ put_before xs (suc n) a (written cells b x) low (omega (arith, lt))
    ∙ this_cell cells a x n low (omega (arith, lt))

pub put_there : (xs : List Cell) (a : Addr) (cells : Cells) (k : ℕ) (x : Cell) → IsCell a → length xs ≤ CELLS → slice_get xs k ≡ Some x
    → put_cells cells a xs (steps_on k a) ≡ x
put_there [] a cells k x low few e = absurd (cc e)
put_there (y ∷ xs) a cells zero x low few e =
    put_before xs 0 a (written cells a y) low (omega (arith, few)) ∙ written_here cells a y ∙ cc e
put_there (y ∷ xs) a cells (suc k) x low few e = put_there xs (next a) (written cells a y) k x (steps_cell 1 a low) (omega (arith, few)) e

-- behind them nothing changed
pub put_behind : (xs : List Cell) (a : Addr) (cells : Cells) (n : ℕ) → IsCell a → length xs ≤ n → n < CELLS
    → put_cells cells a xs (steps_on n a) ≡ cells (steps_on n a)
put_behind [] a cells n low le lt = refl
put_behind (x ∷ xs) a cells zero low le lt = absurd (omega (arith, le))
put_behind (x ∷ xs) a cells (suc n) low le lt =
    put_behind xs (next a) (written cells a x) n (steps_cell 1 a low) (omega (arith, le)) (omega (arith, lt)) ∙ other_cell cells a x n low lt

-- what was put there last counts
swapped : (cells : Cells) (a b : Addr) (x y : Cell) → same_cell b a ≡ false → written (written cells b y) a x ≡ written (written cells a x) b y
swapped cells a b x y ne i c = each c i
  where
    each : (c : Addr) → written (written cells b y) a x c ≡ written (written cells a x) b y c
    each c = by (same_cell c a) (same_cell c b) refl refl
      where
        by : (s t : Bool) → same_cell c a ≡ s → same_cell c b ≡ t → cond s x (cond t y (cells c)) ≡ cond t y (cond s x (cells c))
        by true true e f =
            let g : same_cell b a ≡ true = ap (λ b. same_cell b a) (sym (same_place c b f)) ∙ e in absurd (cc (sym g ∙ ne))
        by true false e f = refl
        by false true e f = refl
        by false false e f = refl

last_counts : (cells : Cells) (a : Addr) (x y : Cell) → written (written cells a x) a y ≡ written cells a y
last_counts cells a x y i c = by (same_cell c a) i
  where
    by : (b : Bool) → cond b y (cond b x (cells c)) ≡ cond b y (cells c)
    by true = refl
    by false = refl

commuted : (ws : List Value) (n : ℕ) (a : Addr) (cells : Cells) (x : Cell) → IsCell a → n + length ws < CELLS
    → written (written_all cells (steps_on n (next a)) ws) a x ≡ written_all (written cells a x) (steps_on n (next a)) ws
commuted [] n a cells x low lt = refl
commuted (w ∷ ws) n a cells x low lt =
    let b = steps_on n (next a) in
    let on = step_more n (next a) in
    ap (λ c. written (written_all (written cells b (held_of w)) c ws) a x) on
    ∙ commuted ws (suc n) a (written cells b (held_of w)) x low (omega (arith, lt))
    ∙ ap (λ cells. written_all cells (steps_on (suc n) (next a)) ws) (swapped cells a b x (held_of w) (apart n a low (omega (arith, lt))))
    ∙ ap (λ c. written_all (written (written cells a x) b (held_of w)) c ws) (sym on)

pub written_again : (ws vs : List Value) (a : Addr) (cells : Cells) → length ws ≡ length vs → IsCell a → length vs ≤ CELLS
    → written_all (written_all cells a ws) a vs ≡ written_all cells a vs
written_again [] [] a cells same low few = refl
written_again [] (v ∷ vs) a cells same low few = absurd (omega (arith, same))
written_again (w ∷ ws) [] a cells same low few = absurd (omega (arith, same))
written_again (w ∷ ws) (v ∷ vs) a cells same low few =
    ap (λ cells. written_all cells (next a) vs)
    (commuted ws 0 a (written cells a (held_of w)) (held_of v) low (omega (arith, same, few)))
    ∙ written_again ws vs (next a) (written (written cells a (held_of w)) a (held_of v)) (omega (arith, same)) (steps_cell 1 a low) (omega (arith, few))
    ∙ ap (λ cells. written_all cells (next a) vs) (last_counts cells a (held_of w) (held_of v))

-- of one value more
pub written_next : (vs : List Value) (a : Addr) (cells : Cells) (k : ℕ) (v : Value) → slice_get vs k ≡ Some v
    → written (written_all cells a (take k vs)) (steps_on k a) (held_of v) ≡ written_all cells a (take (suc k) vs)
written_next [] a cells k v e = absurd (cc e)
written_next (w ∷ vs) a cells zero v e = let same : v ≡ w = cc e in ap (λ v. written cells a (held_of v)) same
written_next (w ∷ vs) a cells (suc k) v e = written_next vs (next a) (written cells a (held_of w)) k v e

pub blocks_more : (vs : List Value) (a : Addr) (cells : Cells) (k : ℕ) (v : Value) → slice_get vs k ≡ Some v
    → blocks_from cells a (take (suc k) vs) ≡ blocks_from cells a (take k vs) + cell_blocks (cells (steps_on k a))
blocks_more [] a cells k v e = absurd (cc e)
blocks_more (w ∷ vs) a cells zero v e = omega arith
blocks_more (w ∷ vs) a cells (suc k) v e = let rest = blocks_more vs (next a) cells k v e in omega (arith, rest)

pub blocks_none : (vs : List Value) (a : Addr) (cells : Cells) → ((k : ℕ) (v : Value) → slice_get vs k ≡ Some v → cell_blocks (cells (steps_on k a)) ≡ 0)
    → blocks_from cells a vs ≡ 0
blocks_none [] a cells none = refl
blocks_none (v ∷ vs) a cells none =
    let here = none zero v refl in
    let rest = blocks_none vs (next a) cells (λ k w e. none (suc k) w e) in
    omega (arith, here, rest)

-- cells take values where each takes its own
first : (b d : Bool) → b && d ≡ true → b ≡ true
first true d e = refl
first false d e = absurd (cc e)

second : (b d : Bool) → b && d ≡ true → d ≡ true
second true d e = e
second false d e = absurd (cc e)

pub takes_each : (vs : List Value) (a : Addr) (cells : Cells)
    → ((k : ℕ) (v : Value) → slice_get vs k ≡ Some v → takes (held_of v) (cells (steps_on k a)) ≡ true) → takes_all vs a cells ≡ true
takes_each [] a cells each = refl
takes_each (v ∷ vs) a cells each =
    ap (λ b. b && takes_all vs (next a) cells) (each zero v refl) ∙ takes_each vs (next a) cells (λ k w e. each (suc k) w e)

pub takes_at : (vs : List Value) (a : Addr) (cells : Cells) (k : ℕ) (v : Value) → takes_all vs a cells ≡ true → slice_get vs k ≡ Some v
    → takes (held_of v) (cells (steps_on k a)) ≡ true
takes_at [] a cells k v all e = absurd (cc e)
takes_at (w ∷ vs) a cells zero v all e =
    let same : v ≡ w = cc e in
    ap (λ v. takes (held_of v) (cells a)) same ∙ first (takes (held_of w) (cells a)) (takes_all vs (next a) cells) all
takes_at (w ∷ vs) a cells (suc k) v all e = takes_at vs (next a) cells k v (second (takes (held_of w) (cells a)) (takes_all vs (next a) cells) all) e
