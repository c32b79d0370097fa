-- Texts that are put into cells of which nothing is known.
use Rattle.std.proofs.Common.{◌≡◌, ℕ, suc, ◌<◌, ◌≤◌, Bool, true, false, cond, List, [], ◌∷◌, length, refl, sym, ap, ◌∙◌, arith}
use Rattle.std.proofs.Common.{◌⊎◌, inl, inr}
use Rattle.std.proofs.lemmas.Bool.{eq-eqb}
use Rattle.eu_base.specs.declared.address.Area.TheVariants.{Run}
use Rattle.eu_base.specs.declared.address.Addr.{Addr}
use Rattle.eu_base.specs.declared.address.TheConstants.{CELLS}
use Rattle.eu_base.specs.declared.set.Set.{Set}
use Rattle.eu_base.specs.declared.set.Set.TheVariants.{Done, HeapFull}
use Rattle.eu_base.specs.declared.value.Kind.{Kind}
use Rattle.eu_base.specs.declared.value.Kind.TheVariants as kinds
use Rattle.eu_base.specs.Values.{cell_of, blank_of}
use Rattle.eu_base.specs.Room.{most_blocks}
use Rattle.eu_base.proofs.Places.{same_there}
use Rattle.eu_base.specs.Cells.{Cell, Free, Word, Letters, Cells, held_of, IsCell, run_cell, same_cell, written, cell_blocks, blocks_in, HasText, Puts, Within}
use Rattle.code_form.specs.Machine.{content_blocks, written_from}
use Rattle.zero_state.proofs.Blocks.{fewer_blocks, blocks_without, blocks_with, same_place}
use Rattle.zero_machine.specs.Frames.{AreFree, PutsFrom}
use Rattle.zero_machine.proofs.Written.{at_other}

-- what a memory knows: it can forget, 0 is "", and all texts of the command have room
abbrev pub Forgets : (Cells → Type 0) → Type 0
Forgets holds = (cells fewer : Cells) → holds cells → Within fewer cells → holds fewer

abbrev pub Empties : (Cells → Type 0) → Type 0
Empties holds = (cells : Cells) (at : Addr) → IsCell at → holds cells → cells at ≡ Word 0 → holds (written cells at (Letters []))

abbrev pub HasRoom : (Cells → Type 0) → Type 0
HasRoom holds = (cells : Cells) → holds cells → blocks_in cells ≤ most_blocks

-- it holds what is the same in each cell
pub same_known : (holds : Cells → Type 0) → Forgets holds → (cells now : Cells) → holds cells → ((a : Addr) → now a ≡ cells a) → holds now
same_known holds forgets cells now h same = forgets cells now h (λ a. inl (same a))

pub at_same : (cells : Cells) (a : Addr) (x : Cell) → written cells a x a ≡ x
at_same cells a x = ap (λ b. cond b x (cells a)) (same_there a.area a.cell a.cell ∙ eq-eqb a.cell a.cell refl)

-- what was put into a cell last counts
last_counts : (cells : Cells) (at : Addr) (x y : Cell) (a : Addr) → written cells at y a ≡ written (written cells at x) at y a
last_counts cells at x y a = by (same_cell a at)
  where
    by : (b : Bool) → cond b y (cells a) ≡ cond b y (cond b x (cells a))
    by true = refl
    by false = refl

-- a cell that holds 0 holds ""
pub zero_empty : (holds : Cells → Type 0) → Forgets holds → Empties holds → (cells : Cells) (a : Addr) → IsCell a → holds (written cells a (Word 0))
    → holds (written cells a (Letters []))
zero_empty holds forgets empties cells a lt h =
    same_known holds forgets (written (written cells a (Word 0)) a (Letters [])) (written cells a (Letters []))
    (empties (written cells a (Word 0)) a lt h (at_same cells a (Word 0))) (last_counts cells a (Word 0) (Letters []))

-- so the number of a blank variable is what the variable holds
pub blank_so : (holds : Cells → Type 0) → Forgets holds → Empties holds → (kind : Kind) (cells : Cells) (a : Addr) → IsCell a
    → holds (written cells a (Word (cell_of (blank_of kind)))) → holds (written cells a (held_of (blank_of kind)))
blank_so holds forgets empties kinds.Int cells a lt h = h
blank_so holds forgets empties kinds.Truth cells a lt h = h
blank_so holds forgets empties kinds.Text cells a lt h = zero_empty holds forgets empties cells a lt h
blank_so holds forgets empties kinds.Task cells a lt h = h
blank_so holds forgets empties kinds.Space cells a lt h = h

-- a text in a cell of which nothing was known
pub new_so : (before between after : Cells → Type 0) → Forgets between → Empties between → Forgets after → (k : ℕ) (t : List ℕ) (set : Set) → k < CELLS
    → ((cells : Cells) → before cells → cell_blocks (cells (run_cell k)) ≡ 0 → between (written cells (run_cell k) (Word 0)))
    → ((cells : Cells) → between cells → HasText (cells (run_cell k)) → Puts after cells (run_cell k) t set)
    → (cells : Cells) → before cells → cells (run_cell k) ≡ Free → PutsFrom after k (Letters t ∷ []) cells set
new_so before between after forgets empties forgets' k t set lt zeroed put cells h free =
    by set (put empty (zero_empty between forgets empties cells (run_cell k) lt (zeroed cells h (ap cell_blocks free)))
    (record { text = []; is = at_same cells (run_cell k) (Letters []) }))
  where
    empty : Cells
    empty = written cells (run_cell k) (Letters [])

    here : (a : Addr) → written cells (run_cell k) (Letters t) a ≡ written empty (run_cell k) (Letters t) a
    here = last_counts cells (run_cell k) (Letters []) (Letters t)

    gone : (a : Addr) (b : Bool) → same_cell a (run_cell k) ≡ b
        → (cells a ≡ cond b (Letters []) (cells a)) ⊎ ((cells a ≡ Free) × (cell_blocks (cond b (Letters []) (cells a)) ≡ 0))
    gone a true e = inr (ap cells (same_place a (run_cell k) e) ∙ free, refl)
    gone a false e = inl refl

    by : (set : Set) → Puts after empty (run_cell k) t set → PutsFrom after k (Letters t ∷ []) cells set
    by Done puts = same_known after forgets' (written empty (run_cell k) (Letters t)) (written cells (run_cell k) (Letters t)) puts.1 here
    by HeapFull puts =
        let le : blocks_in (written empty (run_cell k) (Letters t)) ≤ blocks_in (written cells (run_cell k) (Letters t)) =
        fewer_blocks Run (written empty (run_cell k) (Letters t)) (written cells (run_cell k) (Letters t))
        (λ a. let e = ap cell_blocks (here a) in omega (arith, e)) in
        let full = puts.0 in
        (omega (arith, le, full), forgets' empty cells puts.1 (λ a. gone a (same_cell a (run_cell k)) refl))

-- a text that is cleared has room
pub clear_so : (before after : Cells → Type 0) → HasRoom after → (k : ℕ) (set : Set)
    → ((cells : Cells) → before cells → HasText (cells (run_cell k)) → Puts after cells (run_cell k) [] set)
    → (cells : Cells) → before cells → HasText (cells (run_cell k)) → after (written cells (run_cell k) (Letters []))
clear_so before after room k Done put cells h has = (put cells h has).1
clear_so before after room k HeapFull put cells h has =
    let full = put cells h has in
    let few = room cells full.1 in
    let many = full.0 in
    let less = blocks_without Run cells (run_cell k) (Letters []) refl in
    absurd (omega (arith, few, many, less))

-- what is put into free cells takes no text away, and adds the blocks of its own texts
free_next : (at n : ℕ) (x : Cell) (cells : Cells) → AreFree at (suc n) cells → AreFree (suc at) n (written cells (run_cell at) x)
free_next at n x cells free k le lt = at_other Run cells at k x (λ e. omega (arith, le, e)) ∙ free k (omega (arith, le)) (omega (arith, lt))

pub more_blocks : (ns : List Cell) (at : ℕ) (cells : Cells) → AreFree at (length ns) cells → blocks_in cells ≤ blocks_in (written_from at ns cells)
more_blocks [] at cells free = omega arith
more_blocks (n ∷ ns) at cells free =
    let one = blocks_with Run cells (run_cell at) n (ap cell_blocks (free at (omega arith) (omega arith))) in
    let rest = more_blocks ns (suc at) (written cells (run_cell at) n) (free_next at (length ns) n cells free) in
    omega (arith, one, rest)

pub no_blocks : (ns : List Cell) (at : ℕ) (cells : Cells) → content_blocks ns ≡ 0 → blocks_in (written_from at ns cells) ≤ blocks_in cells
no_blocks [] at cells none = omega arith
no_blocks (n ∷ ns) at cells none =
    let one = blocks_without Run cells (run_cell at) n (omega (arith, none)) in
    let rest = no_blocks ns (suc at) (written cells (run_cell at) n) (omega (arith, none)) in
    omega (arith, one, rest)

-- numbers that were put into free cells can be forgotten
pub unwritten : (ns : List Cell) (at : ℕ) (cells : Cells) → content_blocks ns ≡ 0 → AreFree at (length ns) cells → Within cells (written_from at ns cells)
unwritten [] at cells none free a = inl refl
unwritten (n ∷ ns) at cells none free a =
    by (same_cell a (run_cell at)) refl
    (unwritten ns (suc at) (written cells (run_cell at) n) (omega (arith, none)) (free_next at (length ns) n cells free) a)
  where
    now : Cell
    now = written_from (suc at) ns (written cells (run_cell at) n) a

    bare : cell_blocks n ≡ 0
    bare = omega (arith, none)

    by : (b : Bool) → same_cell a (run_cell at) ≡ b → (cond b n (cells a) ≡ now) ⊎ ((cond b n (cells a) ≡ Free) × (cell_blocks now ≡ 0))
        → (cells a ≡ now) ⊎ ((cells a ≡ Free) × (cell_blocks now ≡ 0))
    by true e (inl is) =
        inr (ap cells (same_place a (run_cell at) e) ∙ free at (omega arith) (omega arith), ap cell_blocks (sym is) ∙ bare)
    by true e (inr is) = inr (ap cells (same_place a (run_cell at) e) ∙ free at (omega arith) (omega arith), is.1)
    by false e x = x
