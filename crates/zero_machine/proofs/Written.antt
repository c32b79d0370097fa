-- What is put into the cells of a frame.
use Rattle.std.proofs.Common.{◌≡◌, ℕ, zero, suc, ◌+◌, ◌≤◌, List, [], ◌∷◌, ◌++◌, map, length, take, refl, sym, ap, ◌∙◌, subst, arith}
use Rattle.std.proofs.Common.{true, cond, ⊎_elim}
use Rattle.std.proofs.Math.Seq.{take-length}
use Rattle.std.specs.Prelude.{◌&&◌, flat_map, slice_get, Some, option_map, get_or, ◌<◌, Result, Ok, Err, OnOk}
use Rattle.std.proofs.lemmas.Option.{slice_get-map, slice_get-get_or}
use Rattle.std.proofs.lemmas.List.{length-map, length-take}
use Rattle.std.proofs.lemmas.Bool.{cases_eq, ne_eqb}
use Rattle.eu_base.specs.declared.value.Kind.{Kind}
use Rattle.eu_base.specs.Values.{blank_of}
use Rattle.eu_base.specs.declared.address.Area.{Area}
use Rattle.eu_base.specs.declared.address.Area.TheVariants.{Run}
use Rattle.eu_base.specs.Cells.{Cell, Free, Word, Letters, Cells, held_of, area_cell, run_cell, written, cell_blocks, AreBare}
use Rattle.code_form.specs.declared.operand.Operand.{Operand}
use Rattle.eu_base.proofs.Places.{same_there}
use Rattle.code_form.specs.Machine.{held_cells, is_free, are_free, link_contents, frame_contents, written_in, written_from}
use Rattle.zero_machine.specs.Frames.{AreFree}

pub written_append : (area : Area) (at : ℕ) (ns ms : List Cell) (cells : Cells) → written_in area at (ns ++ ms) cells ≡ written_in area (at + length ns) ms (written_in area at ns cells)
written_append area at [] ms cells = let e : at ≡ at + 0 = omega arith in ap (λ k. written_in area k ms cells) e
written_append area at (n ∷ ns) ms cells =
    let e : suc at + length ns ≡ at + suc (length ns) = omega arith in
    written_append area (suc at) ns ms (written cells (area_cell area at) n) ∙ ap (λ k. written_in area k ms (written_in area (suc at) ns (written cells (area_cell area at) n))) e

-- the cells of the call, then what the parameters hold, then the variables
pub frame_written : (at : ℕ) (args : List Operand) (variables : List Kind) (cells : Cells)
    → written_from at (frame_contents args variables) cells
    ≡ written_from (at + 2 + length (flat_map held_cells args)) (map (λ k. held_of (blank_of k)) variables)
    (written_from (at + 2) (flat_map held_cells args) (written_from at link_contents cells))
frame_written at args variables cells =
    let ns = flat_map held_cells args in
    let ms = map (λ k. held_of (blank_of k)) variables in
    let before = written_from at link_contents cells in
    let e : suc (suc at) ≡ at + 2 = omega arith in
    ap (λ k. written_from k (ns ++ ms) before) e ∙ written_append Run (at + 2) ns ms before

-- what was written changes nothing of other cells
pub at_other : (area : Area) (cells : Cells) (k x : ℕ) (n : Cell) → (x ≡ k → ⊥) → written cells (area_cell area k) n (area_cell area x) ≡ cells (area_cell area x)
at_other area cells k x n ne = ap (λ b. cond b n (cells (area_cell area x))) (same_there area x k ∙ ne_eqb x k ne)

pub behind : (area : Area) (ns : List Cell) (at x : ℕ) (cells : Cells) → at + length ns ≤ x
    → written_in area at ns cells (area_cell area x) ≡ cells (area_cell area x)
behind area [] at x cells le = refl
behind area (n ∷ ns) at x cells le =
    behind area ns (suc at) x (written cells (area_cell area at) n) (omega (arith, le)) ∙ at_other area cells at x n (λ e. omega (arith, le, e))

-- so cells behind what was written have no more blocks than before
pub bare_behind : (area : Area) (at from count from' count' : ℕ) (ns : List Cell) (cells : Cells) → at + length ns ≤ from' → from ≤ from'
    → from' + count' ≤ from + count → AreBare area from count cells → AreBare area from' count' (written_in area at ns cells)
bare_behind area at from count from' count' ns cells past low high bare k le lt =
    ap cell_blocks (behind area ns at k cells (omega (arith, past, le))) ∙ bare k (omega (arith, low, le)) (omega (arith, high, lt))

pub bare_next : (area : Area) (at k n : ℕ) (ns : List Cell) (cells : Cells) → k < n → AreBare area at n cells
    → cell_blocks (written_in area at (take k ns) cells (area_cell area (at + k))) ≡ 0
bare_next area at k n ns cells lt bare =
    bare_behind area at at n (at + k) 1 (take k ns) cells (let short = length-take k ns in omega (arith, short)) (omega arith) (omega (arith, lt)) bare (at + k)
    (omega arith) (omega arith)

-- cells of which nothing is known are free, and have none
pub known_free : (at : ℕ) (ns : List Cell) (cells : Cells) → are_free at ns cells ≡ true → AreFree at (length ns) cells
known_free at [] cells free k le lt = absurd (omega (arith, le, lt))
known_free at (n ∷ ns) cells free k le lt = by (cells (run_cell at)) refl free (known_free (suc at) ns cells) k le lt
  where
    by : (x : Cell) → cells (run_cell at) ≡ x → is_free x && are_free (suc at) ns cells ≡ true
        → (are_free (suc at) ns cells ≡ true → AreFree (suc at) (length ns) cells) → AreFree at (suc (length ns)) cells
    by Free e free rest k le lt = ⊎_elim (λ is. ap (λ k. cells (run_cell k)) is ∙ e)
        (λ ne. rest free k (grind (arith, ne, le)) (omega (arith, lt))) (cases_eq k at)
    by (Word n) e free rest k le lt = absurd (cc free)
    by (Letters t) e free rest k le lt = absurd (cc free)

pub free_bare : (at count : ℕ) (cells : Cells) → AreFree at count cells → AreBare Run at count cells
free_bare at count cells free k le lt = ap cell_blocks (free k le lt)

-- so are cells behind what was written
pub free_behind : (at from count from' count' : ℕ) (ns : List Cell) (cells : Cells) → at + length ns ≤ from' → from ≤ from' → from' + count' ≤ from + count
    → AreFree from count cells → AreFree from' count' (written_from at ns cells)
free_behind at from count from' count' ns cells past low high free k le lt =
    behind Run ns at k cells (omega (arith, past, le)) ∙ free k (omega (arith, low, le)) (omega (arith, high, lt))

-- a link is two numbers
pub link_so : {T E : Type 0} (result : Result T E) (before one two : Cells → Type 0) (at : ℕ)
    → ((cells : Cells) → before cells → cell_blocks (cells (run_cell at)) ≡ 0 → one (written cells (run_cell at) (Word 0)))
    → OnOk result ((cells : Cells) → one cells → cell_blocks (cells (run_cell (at + 1))) ≡ 0 → two (written cells (run_cell (at + 1)) (Word 0)))
    → OnOk result ((cells : Cells) → before cells → AreBare Run at 2 cells → two (written_from at link_contents cells))
link_so (Ok x) before one two at first second =
    λ cells h bare.
    let next : at + 1 ≡ suc at = omega arith in
    let none = bare_behind Run at at 2 (at + 1) 1 (Word 0 ∷ []) cells (omega arith) (omega arith) (omega arith) bare (at + 1) (omega arith) (omega arith) in
    subst (λ k. two (written (written cells (run_cell at) (Word 0)) (run_cell k) (Word 0))) next
    (second (written cells (run_cell at) (Word 0)) (first cells h (bare at (omega arith) (omega arith))) none)
link_so (Err e) before one two at first second = tt

-- what was put into cells so far, and one more
pub written_next : (area : Area) (at k : ℕ) (ns : List Cell) (x : Cell) (cells : Cells) → slice_get ns k ≡ Some x
    → written (written_in area at (take k ns) cells) (area_cell area (at + k)) x ≡ written_in area at (take (suc k) ns) cells
written_next area at k [] x cells e = absurd (cc e)
written_next area at zero (n ∷ ns) x cells e =
    let same : n ≡ x = cc e in
    let here : at + 0 ≡ at = omega arith in
    ap (λ k. written cells (area_cell area k) x) here ∙ ap (written cells (area_cell area at)) (sym same)
written_next area at (suc k) (n ∷ ns) x cells e =
    let here : at + suc k ≡ suc at + k = omega arith in
    ap (λ j. written (written_in area (suc at) (take k ns) (written cells (area_cell area at) n)) (area_cell area j) x) here
    ∙ written_next area (suc at) k ns x (written cells (area_cell area at) n) e

-- of a list of what is put into cells
pub written_more : {A : Type 0} (area : Area) (f : A → Cell) (at k : ℕ) (xs : List A) (d : A) (n : Cell) (cells : Cells) → k < length xs → n ≡ f (get_or xs k d)
    → written (written_in area at (take k (map f xs)) cells) (area_cell area (at + k)) n ≡ written_in area at (take (k + 1) (map f xs)) cells
written_more area f at k xs d n cells lt held =
    let e : k + 1 ≡ suc k = omega arith in
    ap (written (written_in area at (take k (map f xs)) cells) (area_cell area (at + k))) held
    ∙ written_next area at k (map f xs) (f (get_or xs k d)) cells (slice_get-map f xs k ∙ ap (option_map f) (slice_get-get_or xs k d lt))
    ∙ ap (λ j. written_in area at (take j (map f xs)) cells) (sym e)

-- all of it
pub written_all : {A : Type 0} (area : Area) (f : A → Cell) (at k : ℕ) (xs : List A) (cells : Cells) → length xs ≤ k → k ≤ length xs
    → written_in area at (take k (map f xs)) cells ≡ written_in area at (map f xs) cells
written_all area f at k xs cells le within =
    let e : length xs ≡ length (map f xs) = sym (length-map xs f) in
    let same : k ≡ length (map f xs) = omega (arith, e, le, within) in
    ap (λ ns. written_in area at ns cells) (ap (λ k. take k (map f xs)) same ∙ take-length (map f xs))
