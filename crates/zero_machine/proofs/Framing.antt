-- The cells of a new frame, one after another.
use Rattle.std.proofs.Common.{◌≡◌, ℕ, suc, ◌+◌, ◌<◌, ◌≤◌, List, [], ◌∷◌, map, length, take, drop, refl, sym, ap, ◌∙◌, subst, arith, ◌++◌, append_assoc, append-nil}
use Rattle.std.specs.Prelude.{get_or, flat_map}
use Rattle.std.proofs.Math.Seq.{drop-cons}
use Rattle.std.proofs.lemmas.Grind.{flat_map-append}
use Rattle.std.proofs.lemmas.List.{length-append, length-map, length-take, length-take-le, take-append-drop, take-map, take_more, take_all, map-append}
use Rattle.eu_base.specs.declared.set.Set.{Set}
use Rattle.eu_base.specs.declared.set.Set.TheVariants.{Done, HeapFull}
use Rattle.eu_base.specs.declared.value.Kind.{Kind}
use Rattle.eu_base.specs.declared.value.Value.{Value}
use Rattle.eu_base.specs.Values.{blank_of}
use Rattle.eu_base.specs.declared.address.Area.TheVariants.{Run}
use Rattle.eu_base.specs.Cells.{Cell, Free, Cells, held_of, run_cell, freed, blocks_in, AreBare}
use Rattle.code_form.specs.declared.operand.Operand.{Operand}
use Rattle.code_form.specs.Machine.{held_cells, link_contents, frame_contents, written_from}
use Rattle.zero_machine.specs.Frames.{AreFree, Stand, PutsFrom}
use Rattle.zero_machine.proofs.Written.{written_append, frame_written, behind, free_bare, free_behind, written_more, written_all}
use Rattle.zero_machine.proofs.Contents.{Forgets, same_known, more_blocks, unwritten}
use Rattle.zero_machine.proofs.Freeing.{unwritten_freed, written_stand, freed_none, stand_front, stand_behind}

-- this is put into cells of which nothing is known
abbrev pub PutsFree : (before after : Cells → Type 0) → ℕ → ℕ → List Cell → Set → Type 0
PutsFree before after at count ns set = (cells : Cells) → before cells → AreFree at count cells → PutsFrom after at ns cells set

abbrev pub PutsOne : (before after : Cells → Type 0) → ℕ → Cell → Set → Type 0
PutsOne before after k x set = (cells : Cells) → before cells → cells (run_cell k) ≡ Free → PutsFrom after k (x ∷ []) cells set

-- the next cell is free
pub free_here : (at k n : ℕ) (ns : List Cell) (cells : Cells) → k < n → AreFree at n cells → written_from at (take k ns) cells (run_cell (at + k)) ≡ Free
free_here at k n ns cells lt free =
    behind Run (take k ns) at (at + k) cells (let short = length-take k ns in omega (arith, short)) ∙ free (at + k) (omega arith) (omega (arith, lt))

-- a part of it takes no more blocks than all
part_blocks : (at : ℕ) (xs ys : List Cell) (cells : Cells) → AreFree at (length (xs ++ ys)) cells
    → blocks_in (written_from at xs cells) ≤ blocks_in (written_from at (xs ++ ys) cells)
part_blocks at xs ys cells free =
    let whole = ap blocks_in (written_append Run at xs ys cells) in
    let size = length-append xs ys in
    let more = more_blocks ys (at + length xs) (written_from at xs cells)
    (free_behind at at (length (xs ++ ys)) (at + length xs) (length ys) xs cells (omega arith) (omega arith) (omega (arith, size)) free) in
    omega (arith, whole, more)

-- a part that has no room: what was written before it is freed
all_full : (between after : Cells → Type 0) → Forgets after → (at : ℕ) (xs ys zs : List Cell) (cells : Cells)
    → AreFree at (length (xs ++ (ys ++ zs))) cells
    → ((cells : Cells) → between cells → Stand at xs cells → after (freed at (at + length xs) cells))
    → PutsFrom between (at + length xs) ys (written_from at xs cells) HeapFull → PutsFrom after at (xs ++ (ys ++ zs)) cells HeapFull
all_full between after forgets at xs ys zs cells free clears full =
    let size = length-append xs (ys ++ zs) in
    let first = ap blocks_in (written_append Run at xs ys cells) in
    let same : (xs ++ ys) ++ zs ≡ xs ++ (ys ++ zs) = append_assoc xs ys zs in
    let least : blocks_in (written_from at (xs ++ ys) cells) ≤ blocks_in (written_from at (xs ++ (ys ++ zs)) cells) =
    subst (λ l. blocks_in (written_from at (xs ++ ys) cells) ≤ blocks_in (written_from at l cells)) same
    (part_blocks at (xs ++ ys) zs cells (subst (λ l. AreFree at (length l) cells) (sym same) free)) in
    let most = full.0 in (
      omega (arith, least, first, most),
      same_known after forgets (freed at (at + length xs) (written_from at xs cells)) cells
          (clears (written_from at xs cells) full.1 (written_stand xs at cells))
          (unwritten_freed at (length xs) xs cells (omega arith) (λ j le lt. free j le (omega (arith, lt, size)))),
    )

-- values: one that has no room
pub values_full : (between after : Cells → Type 0) → Forgets between → Forgets after → (at k : ℕ) (values first : List Value) (v d : Value)
    → k < length values → v ≡ get_or values k d → first ≡ take k values
    → ((from : ℕ) (cells : Cells) → from ≤ at → between (freed from at cells) → Stand at (map held_of first) cells
    → after (freed from (at + length first) cells))
    → (cells : Cells) → AreFree at (length values) cells
    → PutsFrom between (at + k) (held_of v ∷ []) (written_from at (take k (map held_of values)) cells) HeapFull
    → PutsFrom after at (map held_of values) cells HeapFull
values_full between after forgets forgets' at k values first v d lt v_is is clears cells free full =
    let xs = map held_of first in
    let rest = map held_of (drop (suc k) values) in
    let many = length-map values held_of in
    let front : xs ≡ take k (map held_of values) = ap (map held_of) is ∙ sym (take-map held_of k values) in
    let parts : map held_of values ≡ xs ++ (held_of v ∷ rest) =
    ap (map held_of) (sym (take-append-drop k values) ∙ ap (λ l. take k values ++ l) (drop-cons values k d lt))
    ∙ map-append held_of (take k values) (get_or values k d ∷ drop (suc k) values) ∙ ap (λ l. l ++ (held_of (get_or values k d) ∷ rest)) (ap (map held_of) (sym is))
    ∙ ap (λ v. xs ++ (held_of v ∷ rest)) (sym v_is) in
    let short = length-take-le k values (omega (arith, lt)) in
    let count : k ≡ length xs = let e = ap length is in let f = length-map first held_of in omega (arith, e, f, short) in
    let size : length first ≡ length xs = sym (length-map first held_of) in
    subst (λ l. PutsFrom after at l cells HeapFull) (sym parts)
    (all_full between after forgets' at xs (held_of v ∷ []) rest cells
    (subst (λ n. AreFree at n cells) (sym many ∙ ap length parts) free)
    (λ cells h stand.
    subst (λ n. after (freed at (at + n) cells)) size (clears at cells (omega arith) (freed_none between forgets at cells h) stand))
    (subst (λ n. PutsFrom between (at + n) (held_of v ∷ []) (written_from at xs cells) HeapFull) count
    (subst (λ l. PutsFrom between (at + k) (held_of v ∷ []) (written_from at l cells) HeapFull) (sym front) full)))

-- the next of them is written
pub value_done : (after : Cells → Type 0) (at k : ℕ) (values : List Value) (v d : Value) (cells : Cells) → k < length values → v ≡ get_or values k d
    → PutsFrom after (at + k) (held_of v ∷ []) (written_from at (take k (map held_of values)) cells) Done
    → after (written_from at (take (k + 1) (map held_of values)) cells)
value_done after at k values v d cells lt is = subst after (written_more Run held_of at k values d (held_of v) cells lt (ap held_of is))

-- all of them are written
pub values_done : (holds : Cells → Type 0) (at k : ℕ) (values : List Value) (cells : Cells) → length values ≤ k → k ≤ length values
    → holds (written_from at (take k (map held_of values)) cells) → PutsFrom holds at (map held_of values) cells Done
values_done holds at k values cells le within = subst holds (written_all Run held_of at k values cells le within)

-- operands, each of which stands in some cells
module _ (at k : ℕ) (operands : List Operand) (o d : Operand) (lt : k < length operands) (is : o ≡ get_or operands k d) where
  abbrev pub before_it : List Cell
  before_it = flat_map held_cells (take k operands)

  abbrev behind_it : List Cell
  behind_it = flat_map held_cells (drop (suc k) operands)

  all_parts : flat_map held_cells operands ≡ before_it ++ (held_cells o ++ behind_it)
  all_parts =
      ap (flat_map held_cells) (sym (take-append-drop k operands) ∙ ap (λ l. take k operands ++ l) (drop-cons operands k d lt))
      ∙ flat_map-append held_cells (take k operands) (get_or operands k d ∷ drop (suc k) operands)
      ∙ ap (λ o. before_it ++ (held_cells o ++ behind_it)) (sym is)

  pub with_it : flat_map held_cells (take (k + 1) operands) ≡ before_it ++ held_cells o
  with_it =
      ap (flat_map held_cells) (take_more operands k d lt) ∙ flat_map-append held_cells (take k operands) (get_or operands k d ∷ [])
      ∙ ap (λ l. before_it ++ l) (append-nil (held_cells (get_or operands k d)) ∙ ap held_cells (sym is))

  -- the cell behind it
  pub next_cell : (cell : ℕ) → cell ≡ at + length before_it → cell + length (held_cells o) ≡ at + length (flat_map held_cells (take (k + 1) operands))
  next_cell cell here =
      let e = ap length with_it in
      let f = length-append before_it (held_cells o) in
      omega (arith, here, e, f)

  pub fits_here : (cell end : ℕ) → cell ≡ at + length before_it → at + length (flat_map held_cells operands) ≤ end → cell + length (held_cells o) ≤ end
  fits_here cell end here le =
      let e = ap length all_parts in
      let f = length-append before_it (held_cells o ++ behind_it) in
      let g = length-append (held_cells o) behind_it in
      omega (arith, here, le, e, f, g)

  pub free_there : (cell : ℕ) (cells : Cells) → cell ≡ at + length before_it → AreFree at (length (flat_map held_cells operands)) cells
      → AreFree cell (length (held_cells o)) (written_from at before_it cells)
  free_there cell cells here free =
      let e = ap length all_parts in
      let f = length-append before_it (held_cells o ++ behind_it) in
      let g = length-append (held_cells o) behind_it in
      free_behind at at (length (flat_map held_cells operands)) cell (length (held_cells o)) before_it cells (omega (arith, here)) (omega (arith, here))
      (omega (arith, here, e, f, g)) free

  pub operand_done : (after : Cells → Type 0) (cell : ℕ) (cells : Cells) → cell ≡ at + length before_it
      → PutsFrom after cell (held_cells o) (written_from at before_it cells) Done → after (written_from at (flat_map held_cells (take (k + 1) operands)) cells)
  operand_done after cell cells here put =
      subst (λ l. after (written_from at l cells)) (sym with_it)
      (subst after (sym (written_append Run at before_it (held_cells o) cells))
      (subst (λ n. after (written_from n (held_cells o) (written_from at before_it cells))) here put))

  pub operands_full : (between after : Cells → Type 0) → Forgets after → (cell : ℕ) (cells : Cells) → cell ≡ at + length before_it
      → AreFree at (length (flat_map held_cells operands)) cells
      → ((cells : Cells) → between cells → Stand at before_it cells → after (freed at (at + length before_it) cells))
      → PutsFrom between cell (held_cells o) (written_from at before_it cells) HeapFull → PutsFrom after at (flat_map held_cells operands) cells HeapFull
  operands_full between after forgets cell cells here free clears full =
      subst (λ l. PutsFrom after at l cells HeapFull) (sym all_parts)
      (all_full between after forgets at before_it (held_cells o) behind_it cells (subst (λ l. AreFree at (length l) cells) all_parts free) clears
      (subst (λ n. PutsFrom between n (held_cells o) (written_from at before_it cells) HeapFull) here full))

  -- what stands there of all that stands
  pub stand_there : (cell : ℕ) (cells : Cells) → cell ≡ at + length before_it → Stand at (flat_map held_cells operands) cells → Stand cell (held_cells o) cells
  stand_there cell cells here stand =
      subst (λ n. Stand n (held_cells o) cells) (sym here)
      (stand_front (at + length before_it) (held_cells o) behind_it cells
      (stand_behind at before_it (held_cells o ++ behind_it) cells (subst (λ l. Stand at l cells) all_parts stand)))

-- all of them
pub all_taken : (k : ℕ) (operands : List Operand) → length operands ≤ k → flat_map held_cells (take k operands) ≡ flat_map held_cells operands
all_taken k operands le = ap (flat_map held_cells) (take_all k operands le)

-- so it holds a frame when all of it was written
module _ (before linked written : Cells → Type 0) (at : ℕ) (args : List Operand) (variables : List Kind)
    (link : (cells : Cells) → before cells → AreBare Run at 2 cells → linked (written_from at link_contents cells)) where
  abbrev params : List Cell
  params = flat_map held_cells args

  abbrev blanks : List Cell
  blanks = map (λ k. held_of (blank_of k)) variables

  abbrev linked_cells : Cells → Cells
  linked_cells cells = written_from at link_contents cells

  abbrev Frees : Cells → Type 0
  Frees = AreFree at (2 + length (flat_map held_cells args) + length variables)

  linked_so : (cells : Cells) → before cells → Frees cells → linked (linked_cells cells)
  linked_so cells h free = link cells h (free_bare at 2 cells (λ k le lt. free k le (omega (arith, lt))))

  rest_free : (cells : Cells) → Frees cells → AreFree (at + 2) (length (flat_map held_cells args) + length variables) (linked_cells cells)
  rest_free cells = free_behind at at (2 + length (flat_map held_cells args) + length variables) (at + 2) (length (flat_map held_cells args) + length variables) link_contents cells (omega arith)
      (omega arith) (omega arith)

  args_free : (cells : Cells) → Frees cells → AreFree (at + 2) (length (flat_map held_cells args)) (linked_cells cells)
  args_free cells free k le lt = rest_free cells free k le (omega (arith, lt))

  last_free : (cells : Cells) → Frees cells → AreFree (at + 2 + length (flat_map held_cells args)) (length variables) (written_from (at + 2) params (linked_cells cells))
  last_free cells free =
      free_behind (at + 2) (at + 2) (length (flat_map held_cells args) + length variables) (at + 2 + length (flat_map held_cells args)) (length variables) params (linked_cells cells)
      (omega arith) (omega arith) (omega arith) (rest_free cells free)

  pub frame_done : (after : Cells → Type 0)
      → ((cells : Cells) → linked cells → AreFree (at + 2) (length (flat_map held_cells args)) cells → PutsFrom written (at + 2) params cells Done)
      → ((cells : Cells) → written cells → AreBare Run (at + 2 + length (flat_map held_cells args)) (length variables) cells
      → after (written_from (at + 2 + length (flat_map held_cells args)) blanks cells))
      → (cells : Cells) → before cells → Frees cells → PutsFrom after at (frame_contents args variables) cells Done
  frame_done after puts made cells h free =
      subst after (sym (frame_written at args variables cells))
      (made (written_from (at + 2) params (linked_cells cells)) (puts (linked_cells cells) (linked_so cells h free) (args_free cells free))
      (free_bare (at + 2 + length (flat_map held_cells args)) (length variables) (written_from (at + 2) params (linked_cells cells)) (last_free cells free)))

  pub frame_full : Forgets written → ((cells : Cells) → linked cells → AreFree (at + 2) (length (flat_map held_cells args)) cells → PutsFrom written (at + 2) params cells HeapFull)
      → (cells : Cells) → before cells → Frees cells → PutsFrom written at (frame_contents args variables) cells HeapFull
  frame_full forgets puts cells h free =
      let full = puts (linked_cells cells) (linked_so cells h free) (args_free cells free) in
      let most = full.0 in
      let more = more_blocks blanks (at + 2 + length (flat_map held_cells args)) (written_from (at + 2) params (linked_cells cells))
      (subst (λ n. AreFree (at + 2 + length (flat_map held_cells args)) n (written_from (at + 2) params (linked_cells cells)))
      (sym (length-map variables (λ k. held_of (blank_of k)))) (last_free cells free)) in
      let same = ap blocks_in (frame_written at args variables cells) in (
        omega (arith, most, more, same),
        forgets (linked_cells cells) cells full.1 (unwritten link_contents at cells refl (λ k le lt. free k le (omega (arith, lt)))),
      )
