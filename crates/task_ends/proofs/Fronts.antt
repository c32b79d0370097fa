-- The variables of packets, once those behind them are freed.
use Rattle.std.proofs.Common.{◌≡◌, ℕ, zero, suc, ◌+◌, ◌<◌, ◌≤◌, inl, inr, ⊎_elim, true, false, List, [], ◌∷◌, ◌++◌, map, length, min, take, Some, refl, sym, ap, ◌∙◌, subst, arith}
use Rattle.std.specs.Prelude.{slice_get, Result, Ok, Err, OnOk}
use Rattle.std.proofs.lemmas.Bool.{cases_lt, le-leb, lt-leb}
use Rattle.std.proofs.lemmas.List.{length-append, length-take}
use Rattle.std.proofs.lemmas.Option.{slice_get_within}
use Rattle.eu_base.specs.declared.address.Area.TheVariants.{Packets, Space}
use Rattle.eu_base.specs.declared.address.TheConstants.{CELLS}
use Rattle.eu_base.specs.declared.value.Kind.{Kind}
use Rattle.eu_base.specs.Room.{cells_fit}
use Rattle.eu_base.specs.Cells.{Free, Cells, packet_cell}
use Rattle.eu_base.specs.DataSpaces.{Spaces, heads_of}
use Rattle.eu_base.specs.SpacePlaces.{kinds_of, values_of}
use Rattle.page_pool.specs.Pool.{Pages}
use Rattle.task_ends.specs.Below.space_memory.specs.Memories.{MemoryData, memory_heads}
use Rattle.task_ends.specs.Below.task_job.specs.Here.{HoldsAll}
use Rattle.task_ends.specs.Below.place_gen.specs.Correct.{StandsFor, HasVariables}
use Rattle.elan_types.specs.Eval.{Slot, Holds}
use Rattle.zero_machine.specs.Freed.{HoldsOf, HoldEach, freed}
use Rattle.zero_machine.proofs.FreeingCells.{kept_before, free_there}
use Rattle.task_ends.specs.Below.system_meaning.specs.Stores.{Store}
use Rattle.task_ends.specs.Below.system_meaning.specs.Tasks.{settled}
use Rattle.task_ends.specs.Below.task_job.specs.Standing.{KeepsSpaces, HasBehind, Leaves, Keeps}
use Rattle.task_ends.specs.Below.task_job.proofs.Beginning.{same_variables}

in_first : {A : Type 0} (xs ys : List A) (x : ℕ) (y : A) → slice_get xs x ≡ Some y → slice_get (xs ++ ys) x ≡ Some y
in_first [] ys x y e = absurd (cc e)
in_first (a ∷ xs) ys zero y e = e
in_first (a ∷ xs) ys (suc x) y e = in_first xs ys x y e

in_second : {A : Type 0} (xs ys : List A) (j : ℕ) (y : A) → slice_get ys j ≡ Some y → slice_get (xs ++ ys) (length xs + j) ≡ Some y
in_second [] ys j y e = let same : 0 + j ≡ j = omega arith in subst (λ n. slice_get ys n ≡ Some y) (sym same) e
in_second (a ∷ xs) ys j y e =
    let same : suc (length xs) + j ≡ suc (length xs + j) = omega arith in
    subst (λ n. slice_get (a ∷ (xs ++ ys)) n ≡ Some y) (sym same) (in_second xs ys j y e)

in_front : {A : Type 0} (n : ℕ) (xs : List A) (x : ℕ) (y : A) → x < n → slice_get xs x ≡ Some y → slice_get (take n xs) x ≡ Some y
in_front zero xs x y lt e = absurd (omega (arith, lt))
in_front (suc n) [] x y lt e = e
in_front (suc n) (a ∷ xs) zero y lt e = e
in_front (suc n) (a ∷ xs) (suc x) y lt e = in_front n xs x y (omega (arith, lt)) e

module _ (kinds inserted : List Kind) (slots : List Slot) (cells : Cells) (h : HasBehind kinds inserted slots cells) where
  many : length slots ≡ length kinds + length inserted
  many = h.all.as_many ∙ length-append kinds inserted

  -- what stands behind the variables of the packets are values of the kinds of those that are inserted
  pub held_behind : cells_fit (length (kinds ++ inserted)) ≡ true → HoldEach (length kinds) inserted cells
  held_behind room = λ x k is.
      let y = h.all.each (length kinds + x) k (in_second kinds inserted x k is) in
      record {
        value = y.0;
        of_kind = y.2;
        held = h.all.image (ap cells_fit h.all.as_many ∙ room) (length kinds + x) (Holds y.0) y.1;
      }

  -- the variables of the packets stand where no cell of theirs changed
  pub front_stands : (left : Cells) → ((x : ℕ) → x < length kinds → left (packet_cell x) ≡ cells (packet_cell x))
      → ((x : ℕ) → length kinds ≤ x → left (packet_cell x) ≡ Free) → HasVariables Packets kinds (take (length kinds) slots) left
  front_stands left same free = record {
    as_many = let e = length-take (length kinds) slots in omega (arith, e, many);
    each = λ x k is.
        let lt = slice_get_within kinds x k is in
        let y = h.all.each x k (in_first kinds inserted x k is) in
        (y.0, in_front (length kinds) slots x (Holds y.0) lt y.1, y.2);
    image = λ room x s e.
        let short = length-take (length kinds) slots in
        let within = slice_get_within (take (length kinds) slots) x s e in
        subst (λ n. StandsFor n s) (sym (same x (omega (arith, short, within)))) (h.front room x s e);
    beyond = free;
  }

-- the data spaces have the cells that they had
freed_spaces : (from until : ℕ) (m n : MemoryData) (spaces : Spaces) (cells : Cells) → memory_heads n ≡ memory_heads m → KeepsSpaces m spaces cells
    → KeepsSpaces n spaces (freed from until cells)
freed_spaces from until m n spaces cells same h = record {
  heads = same ∙ h.heads;
  sound = h.sound;
  given = h.given;
  each = λ s.
      same_variables (Space s) (kinds_of s (heads_of spaces)) (map Holds (values_of s spaces)) cells (freed from until cells) (λ x. refl) (h.each s);
}

module _ (kinds inserted : List Kind) (old : Pages) (m : MemoryData) (store : Store) (h : Leaves kinds inserted old m store) where
  abbrev there : Cells
  there = h.left.cells

  abbrev end : ℕ
  end = length kinds + length inserted

  -- where all had no room, nothing stands there
  pub none_behind : cells_fit (length (kinds ++ inserted)) ≡ false → Keeps kinds old m (settled (length kinds) store)
  none_behind full = record {
    fits = h.left.fits;
    cells = there;
    holds = h.left.holds;
    packets = front_stands kinds inserted store.variables there h.left.variables there (λ x lt. refl) (h.left.variables.bare full);
    spaces = h.left.spaces;
    command = h.command;
  }

  pub freed_behind : (new : Pages) (n : MemoryData) → cells_fit (length (kinds ++ inserted)) ≡ true → memory_heads n ≡ memory_heads m
      → HoldsAll new n (freed (length kinds) end there) → Keeps kinds new n (settled (length kinds) store)
  freed_behind new n room same holds = record {
    fits = h.left.fits;
    cells = freed (length kinds) end there;
    holds = holds;
    packets =
        front_stands kinds inserted store.variables there h.left.variables (freed (length kinds) end there)
        (λ x lt. kept_before (length kinds) end x there (inl lt))
        (λ x past. ⊎_elim (λ lt. free_there (length kinds) end x there past lt)
        (λ le.
        let l = length-append kinds inserted in
        kept_before (length kinds) end x there (inr le) ∙ h.left.variables.all.beyond x (omega (arith, le, l)))
        (cases_lt x end));
    spaces = freed_spaces (length kinds) end m n store.spaces there same h.left.spaces;
    command = h.command;
  }

-- how many cells there are, as the code counts them
pub many_before : (kinds inserted : List Kind) (before sum : ℕ) → before ≡ min (length kinds) 18446744073709551615
    → sum ≡ min (before + length inserted) 18446744073709551615 → CELLS < sum → cells_fit (length (kinds ++ inserted)) ≡ false
many_before kinds inserted before sum is so past =
    let e = length-append kinds inserted in lt-leb (length (kinds ++ inserted)) CELLS (omega (arith, e, is, so, past))

pub few_before : (kinds inserted : List Kind) (before sum : ℕ) → before ≡ min (length kinds) 18446744073709551615
    → sum ≡ min (before + length inserted) 18446744073709551615 → sum ≤ CELLS
    → (before ≡ length kinds) × (length kinds + length inserted ≤ CELLS) × (cells_fit (length (kinds ++ inserted)) ≡ true)
few_before kinds inserted before sum is so few =
    let e = length-append kinds inserted in (
      omega (arith, is, so, few),
      omega (arith, is, so, few),
      le-leb (length (kinds ++ inserted)) CELLS (omega (arith, e, is, so, few)),
    )

-- whether memory was wanting or not
pub freed_so : {A E : Type 0} (result : Result A E) (kinds inserted shapes : List Kind) (old new : Pages) (m n : MemoryData) (before sum : ℕ)
    → before ≡ min (length kinds) 18446744073709551615 → sum ≡ min (before + length inserted) 18446744073709551615 → sum ≤ CELLS → shapes ≡ inserted
    → memory_heads n ≡ memory_heads m
    → OnOk result ((cells : Cells) → HoldsAll old m cells → HoldEach before shapes cells → HoldsAll new n (freed before (before + length shapes) cells))
    → OnOk result ((store : Store) → Leaves kinds inserted old m store → Keeps kinds new n (settled (length kinds) store))
freed_so (Ok x) kinds inserted shapes old new m n before sum is so few same heads frees =
    λ store h.
    let f = few_before kinds inserted before sum is so few in
    let cells = h.left.cells in
    let there = subst (λ b. HoldEach b shapes cells → HoldsAll new n (freed b (b + length shapes) cells)) f.0 (frees cells h.left.holds) in
    let all = subst (λ (ks : List Kind). HoldEach (length kinds) ks cells → HoldsAll new n (freed (length kinds) (length kinds + length ks) cells)) same there in
    freed_behind kinds inserted old m store h new n f.2 heads (all (held_behind kinds inserted store.variables cells h.left.variables f.2))
freed_so (Err e) kinds inserted shapes old new m n before sum is so few same heads frees = tt
