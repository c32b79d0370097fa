-- Places, and the numbers that stand for them in cells.
use Rattle.std.proofs.Common.{◌≡◌, ℕ, suc, ◌+◌, ◌*◌, ◌/◌, ◌%◌, ◌<◌, ap, ◌∙◌, arith, refl, eq-eqb, eqb-true}
use Rattle.eu_base.specs.declared.address.Area.{Area}
use Rattle.eu_base.specs.declared.address.Area.TheVariants.{Run, Packets, Space}
use Rattle.eu_base.specs.declared.address.Addr.{Addr}
use Rattle.eu_base.specs.Values.{SpaceNo, numbers_of_spaces}
use Rattle.eu_base.specs.declared.address.TheConstants.{CELLS}
use Rattle.std.specs.Prelude.{◌==◌, ◌&&◌, Bool, true}
use Rattle.eu_base.specs.Cells.{same_area, same_cell, IsArea, IsCell, area_cell, run_cell, area_in, place_number, place_in}

-- the number of a cell is that of its place in the command
pub run_place : (k : ℕ) → k < CELLS → place_in k ≡ run_cell k
run_place k low =
    let first : k / CELLS ≡ 0 = omega (arith, low) in
    let same : k % CELLS ≡ k = omega (arith, low) in
    ap (λ n. area_cell (area_in n) (k % CELLS)) first ∙ ap run_cell same

packet_place : (k : ℕ) → k < CELLS → place_in (CELLS + k) ≡ area_cell Packets k
packet_place k low =
    let second : (CELLS + k) / CELLS ≡ 1 = omega (arith, low) in
    let same : (CELLS + k) % CELLS ≡ k = omega (arith, low) in
    ap (λ n. area_cell (area_in n) ((CELLS + k) % CELLS)) second ∙ ap (area_cell Packets) same

space_place : (s : SpaceNo) (k : ℕ) → s.0 < numbers_of_spaces → k < CELLS → place_in ((s.0 + 2) * CELLS + k) ≡ area_cell (Space s) k
space_place s k few low =
    let there : ((s.0 + 2) * CELLS + k) / CELLS ≡ suc (suc s.0) = omega (arith, low) in
    let same : ((s.0 + 2) * CELLS + k) % CELLS ≡ k = omega (arith, low) in
    let own : s.0 % numbers_of_spaces ≡ s.0 = omega (arith, few) in
    ap (λ n. area_cell (area_in n) (((s.0 + 2) * CELLS + k) % CELLS)) there
    ∙ (ap (λ (n : ℕ). area_cell (Space (record { 0 = n })) (((s.0 + 2) * CELLS + k) % CELLS)) own ∙ ap (area_cell (Space s)) same)

-- the number of a place stands for it
pub place_back : (a : Addr) → IsArea a.area → IsCell a → place_in (place_number a) ≡ a
place_back a there low = by a.area a.cell there low
  where
    by : (x : Area) (k : ℕ) → IsArea x → k < CELLS → place_in (place_number (area_cell x k)) ≡ area_cell x k
    by Run k there low = run_place k low
    by Packets k there low = packet_place k low
    by (Space s) k there low = space_place s k there low

eq_self : (n : ℕ) → (n == n) ≡ true
eq_self n = eq-eqb n n refl

-- of two cells of an area
pub same_there : (area : Area) (y x : ℕ) → same_cell (area_cell area y) (area_cell area x) ≡ (y == x)
same_there Run y x = refl
same_there Packets y x = refl
same_there (Space s) y x = ap (λ (b : Bool). b && (y == x)) (eq_self s.0)

-- an area is the one that it is told to be
pub same_area_is : (a b : Area) → same_area a b ≡ true → a ≡ b
same_area_is Run Run e = refl
same_area_is Run Packets e = absurd cc
same_area_is Run (Space t) e = absurd cc
same_area_is Packets Run e = absurd cc
same_area_is Packets Packets e = refl
same_area_is Packets (Space t) e = absurd cc
same_area_is (Space s) Run e = absurd cc
same_area_is (Space s) Packets e = absurd cc
same_area_is (Space s) (Space t) e = ap (λ (n : ℕ). Space (record { 0 = n })) (eqb-true s.0 t.0 e)

pub same_area_self : (a : Area) → same_area a a ≡ true
same_area_self Run = refl
same_area_self Packets = refl
same_area_self (Space s) = eq_self s.0
