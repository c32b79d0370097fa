-- The blocks of the texts that cells hold.
use Rattle.std.proofs.Common.{◌≡◌, ℕ, zero, suc, ◌+◌, ◌<◌, ◌≤◌, Bool, true, false, cond, refl, ap, ◌∙◌, arith, ⊎_elim}
use Rattle.std.specs.Prelude.{◌&&◌, ◌==◌}
use Rattle.std.proofs.lemmas.Bool.{le-leb, lt-leb, eqb-true, eq-eqb, cases_eq}
use Rattle.eu_base.specs.declared.address.Addr.{Addr}
use Rattle.eu_base.specs.declared.address.Area.{Area}
use Rattle.eu_base.specs.declared.address.Area.TheVariants.{Run, Packets, Space}
use Rattle.eu_base.specs.Values.{SpaceNo}
use Rattle.eu_base.specs.declared.address.TheConstants.{CELLS}
use Rattle.eu_base.specs.Room.{most_blocks, texts_fit, total}
use Rattle.eu_base.specs.Cells.{Cell, Free, Word, Letters, Cells, same_area, same_cell, area_cell, run_cell, written, cell_blocks, area_blocks, IsCell, HasText}
use Rattle.code_form.specs.Machine.{takes_number, is_text}

total_most : (f g : ℕ → ℕ) (n : ℕ) → ((k : ℕ) → f k ≤ g k) → total f n ≤ total g n
unfolding total
total_most f g zero le = omega arith
total_most f g (suc n) le = let rest = total_most f g n le in let last = le n in omega (arith, rest, last)

-- cells with no more blocks in each have no more in all
pub fewer_blocks : (area : Area) (cells more : Cells) → ((a : Addr) → cell_blocks (cells a) ≤ cell_blocks (more a))
    → area_blocks area cells ≤ area_blocks area more
fewer_blocks area cells more le =
    total_most (λ k. cell_blocks (cells (area_cell area k))) (λ k. cell_blocks (more (area_cell area k))) CELLS (λ k. le (area_cell area k))

-- a cell that has no blocks adds none
pub blocks_without : (area : Area) (cells : Cells) (at : Addr) (x : Cell) → cell_blocks x ≡ 0 → area_blocks area (written cells at x) ≤ area_blocks area cells
blocks_without area cells at x none = fewer_blocks area (written cells at x) cells (λ a. by a (same_cell a at))
  where
    by : (a : Addr) (b : Bool) → cell_blocks (cond b x (cells a)) ≤ cell_blocks (cells a)
    by a true = omega (arith, none)
    by a false = omega arith

both_true : (a b : Bool) → (a && b) ≡ true → (a ≡ true) × (b ≡ true)
both_true true b e = (refl, e)
both_true false b e = absurd (cc e)

-- one cell is another
pub same_place : (a b : Addr) → same_cell a b ≡ true → a ≡ b
same_place a b e = by a.area b.area a.cell b.cell e
  where
    by : (x y : Area) (j k : ℕ) → same_area x y && j == k ≡ true → area_cell x j ≡ area_cell y k
    by Run Run j k e = ap (area_cell Run) (eqb-true j k e)
    by Packets Packets j k e = ap (area_cell Packets) (eqb-true j k e)
    by Run Packets j k e = absurd (cc e)
    by Packets Run j k e = absurd (cc e)
    by Run (Space s) j k e = absurd (cc e)
    by Packets (Space s) j k e = absurd (cc e)
    by (Space s) Run j k e = absurd (cc e)
    by (Space s) Packets j k e = absurd (cc e)
    by (Space s) (Space t) j k e =
        let h = both_true (s.0 == t.0) (j == k) e in
        ap (λ (n : ℕ). area_cell (Space (record { 0 = n })) j) (eqb-true s.0 t.0 h.0) ∙ ap (area_cell (Space t)) (eqb-true j k h.1)

-- one that had none takes none away
pub blocks_with : (area : Area) (cells : Cells) (at : Addr) (x : Cell) → cell_blocks (cells at) ≡ 0
    → area_blocks area cells ≤ area_blocks area (written cells at x)
blocks_with area cells at x none = fewer_blocks area cells (written cells at x) (λ a. by a (same_cell a at) refl)
  where
    by : (a : Addr) (b : Bool) → same_cell a at ≡ b → cell_blocks (cells a) ≤ cell_blocks (cond b x (cells a))
    by a true e = let f = ap (λ a. cell_blocks (cells a)) (same_place a at e) in omega (arith, f, none)
    by a false e = omega arith

-- where one of the summands is another, the sum differs by as much
total_else : (f g : ℕ → ℕ) (n k : ℕ) → n ≤ k → ((j : ℕ) → (j ≡ k → ⊥) → g j ≡ f j) → total g n ≡ total f n
unfolding total
total_else f g zero k le same = refl
total_else f g (suc n) k le same =
    let rest = total_else f g n k (omega (arith, le)) same in
    let last = same n (λ e. omega (arith, e, le)) in omega (arith, rest, last)

total_at : (f g : ℕ → ℕ) (n k : ℕ) → k < n → ((j : ℕ) → (j ≡ k → ⊥) → g j ≡ f j) → total g n + f k ≡ total f n + g k
unfolding total
total_at f g zero k lt same = absurd (omega (arith, lt))
total_at f g (suc n) k lt same = ⊎_elim
    (λ is.
    let rest = total_else f g n k (omega (arith, is)) same in
    let a : f n ≡ f k = ap f is in
    let b : g n ≡ g k = ap g is in
    omega (arith, rest, a, b))
    (λ ne. let rest = total_at f g n k (grind (arith, lt, ne)) same in let last = same n ne in omega (arith, rest, last)) (cases_eq n k)

-- a cell of the command is the one of its number
pub is_run : (a : Addr) → same_area a.area Run ≡ true → a ≡ run_cell a.cell
is_run a e = by a.area a.cell e
  where
    by : (x : Area) (k : ℕ) → same_area x Run ≡ true → area_cell x k ≡ run_cell k
    by Run k e = refl
    by Packets k e = absurd (cc e)
    by (Space s) k e = absurd (cc e)

pub same_self : (a : Addr) → same_cell a a ≡ true
same_self a = by a.area a.cell
  where
    by : (x : Area) (k : ℕ) → same_cell (area_cell x k) (area_cell x k) ≡ true
    by Run k = eq-eqb k k refl
    by Packets k = eq-eqb k k refl
    by (Space s) k = ap (λ (b : Bool). b && k == k) (eq-eqb s.0 s.0 refl) ∙ eq-eqb k k refl

-- what is put into a cell stands there
pub written_here : (cells : Cells) (at : Addr) (x : Cell) → written cells at x at ≡ x
written_here cells at x = ap (λ b. cond b x (cells at)) (same_self at)

-- so the blocks of a cell count in its area as those of what is put into it
pub blocks_put : (cells : Cells) (at : Addr) (x : Cell) → IsCell at
    → area_blocks at.area (written cells at x) + cell_blocks (cells at) ≡ area_blocks at.area cells + cell_blocks x
blocks_put cells at x low =
    let f : ℕ → ℕ = λ k. cell_blocks (cells (area_cell at.area k)) in
    let g : ℕ → ℕ = λ k. cell_blocks (written cells at x (area_cell at.area k)) in
    let e = total_at f g CELLS at.cell low (λ j ne. by j (same_cell (area_cell at.area j) at) refl ne) in
    let there : g at.cell ≡ cell_blocks x = ap cell_blocks (written_here cells at x) in
    omega (arith, e, there)
  where
    by : (j : ℕ) (b : Bool) → same_cell (area_cell at.area j) at ≡ b → (j ≡ at.cell → ⊥)
        → cell_blocks (cond b x (cells (area_cell at.area j))) ≡ cell_blocks (cells (area_cell at.area j))
    by j true e ne = absurd (ne (ap (λ (a : Addr). a.cell) (same_place (area_cell at.area j) at e)))
    by j false e ne = refl

-- texts have room where all of them have few enough blocks, and what takes none has room
pub has_room : (n used : ℕ) → used ≤ most_blocks → texts_fit n used ≡ true
has_room zero used le = refl
has_room (suc n) used le = le-leb used most_blocks le

pub has_none : (n used : ℕ) → most_blocks < used → (n ≡ 0 → used ≤ most_blocks) → texts_fit n used ≡ false
has_none zero used lt none = absurd (omega (arith, lt, none refl))
has_none (suc n) used lt none = lt-leb used most_blocks lt

-- a cell that takes a text has one, and one that takes a number has no blocks
pub has_text : (x : Cell) → is_text x ≡ true → HasText x
has_text Free e = absurd (cc e)
has_text (Word n) e = absurd (cc e)
has_text (Letters t) e = record { text = t; is = refl }

pub number_bare : (x : Cell) → takes_number x ≡ true → cell_blocks x ≡ 0
number_bare Free e = refl
number_bare (Word n) e = refl
number_bare (Letters t) e = absurd (cc e)
