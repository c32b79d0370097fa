-- A cell of a packet denotes what its variable denotes.
use Rattle.std.proofs.Common.{◌≡◌, ℕ, suc, ◌+◌, ◌≤◌, Bool, true, false, nat_eq, List, [], ◌∷◌, length, Option, Some, None, refl, sym, ap, ◌∙◌, subst, arith, eqb-true}
use Rattle.std.specs.Prelude.{slice_get, ◌==◌, ◌||◌}
use Rattle.std.specs.List.{list_any}
use Rattle.std.proofs.lemmas.Bool.{le-leb}
use Rattle.task_numbers.specs.declared.number.SpaceNo.{SpaceNo}
use Rattle.eu_base.specs.declared.address.TheConstants.{CELLS}
use Rattle.eu_base.specs.declared.value.Kind.{Kind}
use Rattle.eu_base.specs.declared.value.Kind.TheVariants as kinds
use Rattle.eu_base.specs.declared.value.Value.{Value}
use Rattle.eu_base.specs.declared.value.Value.TheVariants.{Int, Truth, Text, Task, Space}
use Rattle.eu_base.specs.Values.{IsOf, numbers_of_spaces}
use Rattle.eu_base.specs.Cells.{Cells, held_of, packet_cell}
use Rattle.eu_base.specs.DataSpaces.{Heads, last_number}
use Rattle.page_pool.specs.Pool.{Pages}
use Rattle.task_tidy.specs.Below.space_memory.specs.Memories.{MemoryData, memory_heads}
use Rattle.task_tidy.specs.Below.task_job.specs.Here.{HoldsAll}
use Rattle.task_tidy.specs.Below.zero_state.specs.Stepping.{mem_of}
use Rattle.task_tidy.specs.Below.place_gen.specs.Correct.{HasSpaces}
use Rattle.elan_types.specs.Eval.{Slot, Holds}
use Rattle.zero_machine.specs.Freed.{HoldEach}
use Rattle.zero_machine.specs.Denoted.{holds_space, denote}
use Rattle.task_tidy.specs.Below.system_meaning.specs.Stores.{Store, denotes, is_used}
use Rattle.task_tidy.specs.Below.task_job.specs.Standing.{Keeps}

-- ---- a value in its cell

no_number : (n : ℕ) → n ≤ last_number → (numbers_of_spaces == n) ≡ false
no_number n low = by (nat_eq numbers_of_spaces n) refl
  where
    by : (b : Bool) → nat_eq numbers_of_spaces n ≡ b → b ≡ false
    by false e = refl
    by true e = let same = eqb-true numbers_of_spaces n e in absurd (omega (arith, low, same))

of_space : (n : ℕ) (o : Option SpaceNo) → n ≤ last_number → holds_space n kinds.Space (held_of (Space o)) ≡ denotes n (Holds (Space o))
of_space n (Some s) low = refl
of_space n None low = no_number n low

one_denotes : (n : ℕ) (k : Kind) (v : Value) → n ≤ last_number → IsOf k v → holds_space n k (held_of v) ≡ denotes n (Holds v)
one_denotes n kinds.Int (Int z) low o = refl
one_denotes n kinds.Truth (Truth b) low o = refl
one_denotes n kinds.Text (Text t) low o = refl
one_denotes n kinds.Task (Task m) low o = refl
one_denotes n kinds.Space (Space s) low o = of_space n s low
one_denotes n kinds.Int (Truth b) low o = absurd o
one_denotes n kinds.Int (Text t) low o = absurd o
one_denotes n kinds.Int (Task m) low o = absurd o
one_denotes n kinds.Int (Space s) low o = absurd o
one_denotes n kinds.Truth (Int z) low o = absurd o
one_denotes n kinds.Truth (Text t) low o = absurd o
one_denotes n kinds.Truth (Task m) low o = absurd o
one_denotes n kinds.Truth (Space s) low o = absurd o
one_denotes n kinds.Text (Int z) low o = absurd o
one_denotes n kinds.Text (Truth b) low o = absurd o
one_denotes n kinds.Text (Task m) low o = absurd o
one_denotes n kinds.Text (Space s) low o = absurd o
one_denotes n kinds.Task (Int z) low o = absurd o
one_denotes n kinds.Task (Truth b) low o = absurd o
one_denotes n kinds.Task (Text t) low o = absurd o
one_denotes n kinds.Task (Space s) low o = absurd o
one_denotes n kinds.Space (Int z) low o = absurd o
one_denotes n kinds.Space (Truth b) low o = absurd o
one_denotes n kinds.Space (Text t) low o = absurd o
one_denotes n kinds.Space (Task m) low o = absurd o

-- a variable of a kind, and its cell
abbrev Stands : ℕ → List Kind → List Slot → Cells → Type 0
Stands at ks slots cells =
    (x : ℕ) (k : Kind) → slice_get ks x ≡ Some k
    → (v : Value) × (slice_get slots x ≡ Some (Holds v)) × IsOf k v × (cells (packet_cell (at + x)) ≡ held_of v)

all_denote : (n at : ℕ) (ks : List Kind) (slots : List Slot) (cells : Cells) → n ≤ last_number → length slots ≡ length ks → Stands at ks slots cells
    → denote n at ks cells ≡ list_any (denotes n) slots
all_denote n at [] [] cells low many each = refl
all_denote n at [] (s ∷ slots) cells low many each = absurd (omega (arith, many))
all_denote n at (k ∷ ks) [] cells low many each = absurd (omega (arith, many))
all_denote n at (k ∷ ks) (s ∷ slots) cells low many each =
    let y = each 0 k refl in
    let e = y.1 in
    let same : s ≡ Holds y.0 = cc in
    let here : at + 0 ≡ at = omega arith in
    let first = ap (holds_space n k) (ap (λ m. cells (packet_cell m)) (sym here) ∙ y.3) ∙ one_denotes n k y.0 low y.2 ∙ ap (denotes n) (sym same) in
    let rest =
    all_denote n (suc at) ks slots cells low (omega (arith, many)) (λ x j f.
    let z = each (suc x) j f in
    let next : suc at + x ≡ at + suc x = omega arith in (
      z.0,
      z.1,
      z.2,
      ap (λ m. cells (packet_cell m)) next ∙ z.3,
    )) in
    ap (λ b. b || denote n (suc at) ks cells) first ∙ ap (λ b. denotes n s || b) rest

-- ---- what a memory keeps

module _ (ks : List Kind) (pages : Pages) (m : MemoryData) (store : Store) (h : Keeps ks pages m store) where
  names_same : m.names ≡ store.spaces.names
  names_same = ap (λ (u : Heads). u.names) h.spaces.heads

  module _ (fits : length ks ≤ CELLS) where
    in_cell : (x : ℕ) (v : Value) → slice_get store.variables x ≡ Some (Holds v) → h.cells (packet_cell (0 + x)) ≡ held_of v
    in_cell x v e =
        let here : 0 + x ≡ x = omega arith in
        ap (λ n. h.cells (packet_cell n)) here
        ∙ h.packets.image (le-leb (length store.variables) CELLS (omega (arith, fits, h.packets.as_many))) x (Holds v) e

    pub hold_each : HoldEach 0 ks h.cells
    hold_each x k is = let y = h.packets.each x k is in record { value = y.0; of_kind = y.2; held = in_cell x y.0 y.1 }

    pub denote_same : (n : ℕ) → n ≤ last_number → denote n 0 ks h.cells ≡ list_any (denotes n) store.variables
    denote_same n low =
        all_denote n 0 ks store.variables h.cells low h.packets.as_many (λ x k is.
        let y = h.packets.each x k is in (
          y.0,
          y.1,
          y.2,
          in_cell x y.0 y.1,
        ))

    -- no name, and perhaps a variable
    pub by_variable : (n : ℕ) (named found : Bool) → n ≤ last_number → named ≡ list_any (λ entry. entry.1.0 == n) m.names → named ≡ false
        → (HoldEach 0 ks h.cells → found ≡ denote n 0 ks h.cells) → found ≡ is_used n store
    by_variable n named found low is not so =
        let none : list_any (λ (entry : List ℕ × SpaceNo). entry.1.0 == n) store.spaces.names ≡ false =
        ap (λ (names : List (List ℕ × SpaceNo)). list_any (λ entry. entry.1.0 == n) names) (sym names_same) ∙ sym is ∙ not in
        so hold_each ∙ denote_same n low ∙ first (list_any (denotes n) store.variables) (list_any (λ (entry : List ℕ × SpaceNo). entry.1.0 == n) store.spaces.names) none
      where
        first : (a b : Bool) → b ≡ false → a ≡ (a || b)
        first false b e = sym e
        first true b e = refl

  pub by_name : (n : ℕ) (named : Bool) → named ≡ list_any (λ entry. entry.1.0 == n) m.names → named ≡ true → true ≡ is_used n store
  by_name n named is so =
      second (list_any (denotes n) store.variables) (list_any (λ (entry : List ℕ × SpaceNo). entry.1.0 == n) store.spaces.names)
      (ap (λ (names : List (List ℕ × SpaceNo)). list_any (λ entry. entry.1.0 == n) names) (sym names_same) ∙ sym is ∙ so)
    where
      second : (a b : Bool) → b ≡ true → true ≡ (a || b)
      second true b e = refl
      second false b e = sym e

-- what is known of cells is known still, and the spaces are the same
pub still_keeps : (ks : List Kind) (old new : Pages) (m now : MemoryData) (store : Store) → memory_heads now ≡ memory_heads m
    → ((cells : Cells) → HoldsAll old m cells → HoldsAll new now cells) → Keeps ks old m store → Keeps ks new now store
still_keeps ks old new m now store same kept h = record {
  fits = h.fits;
  cells = h.cells;
  holds = kept h.cells h.holds;
  packets = h.packets;
  spaces = subst (λ (heads : Heads). HasSpaces store.spaces (mem_of heads h.cells)) (sym same) h.spaces;
  command = h.command;
}
