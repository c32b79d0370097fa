-- What the cells of a frame hold is known when a body is left.
use Rattle.std.proofs.Common.{◌≡◌, ℕ, suc, ◌+◌, ◌-◌, List, [], ◌∷◌, ◌++◌, map, length, Some, true, ◌&&◌, refl, sym, ap, ◌∙◌, subst, arith, length-append}
use Rattle.std.specs.Prelude.{slice_get, Option, flat_map}
use Rattle.std.proofs.lemmas.List.{map-append}
use Rattle.std.proofs.lemmas.List.Concat.{flat_map-cons}
use Rattle.eu_base.specs.declared.value.Kind.{Kind}
use Rattle.eu_base.specs.declared.value.Kind.TheVariants as kinds
use Rattle.eu_base.specs.declared.value.Value.{Value}
use Rattle.eu_base.specs.declared.value.Value.TheVariants.{Int, Truth, Text, Task, Space}
use Rattle.eu_base.specs.Values.{IsOf}
use Rattle.eu_base.specs.Shapes.{cell_kinds}
use Rattle.eu_base.specs.declared.address.Area.TheVariants.{Run}
use Rattle.eu_base.specs.Cells.{Cell, Cells, held_of, run_cell}
use Rattle.code_form.specs.declared.operand.OperandKind.{OperandKind}
use Rattle.code_form.specs.declared.operand.OperandKind.TheVariants as operand
use Rattle.code_form.specs.declared.code.Entry.{Entry}
use Rattle.code_form.specs.declared.code.Layout.{Layout}
use Rattle.code_form.specs.declared.code.Layout.TheVariants as layouts
use Rattle.code_form.specs.Program.{CellUse, HoldsValue, HoldsPlace, cell_uses, cells_of, layout_of, cells_at}
use Rattle.code_form.specs.Machine.{is_word, is_of, are_of, is_framed}
use Rattle.elan_types.specs.Eval.{Slot, slot_at}
use Rattle.place_gen.proofs.Cells.{Use, OfValue, OfPlace, OfLimit, OfNothing, Uses, Kept, KeepsIn, IsCount, AreCounts, get_right}
use Rattle.place_gen.proofs.Homes.{uses_of, layout_uses}
use Rattle.code_gen.proofs.Entered.{call_uses}

-- what the tables say of a cell that is for this
abbrev pub cell_for : Use → CellUse
cell_for (OfValue k) = HoldsValue k
cell_for (OfPlace ks) = HoldsPlace
cell_for (OfLimit l) = HoldsValue kinds.Int
cell_for OfNothing = HoldsValue kinds.Int

values_for : (ks : List Kind) → map HoldsValue ks ≡ map cell_for (map OfValue ks)
values_for [] = refl
values_for (k ∷ ks) = ap (λ l. HoldsValue k ∷ l) (values_for ks)

parameter_for : (k : OperandKind) → cell_uses k ≡ map cell_for (uses_of k)
parameter_for (operand.Value s) = values_for (cell_kinds s)
parameter_for (operand.Place s) = refl

parameters_for : (ks : List OperandKind) → flat_map cell_uses ks ≡ map cell_for (flat_map uses_of ks)
parameters_for [] = refl
parameters_for (k ∷ ks) =
    flat_map-cons cell_uses k ks ∙ ap (λ l. l ++ flat_map cell_uses ks) (parameter_for k) ∙ ap (λ l. map cell_for (uses_of k) ++ l) (parameters_for ks)
    ∙ sym (map-append cell_for (uses_of k) (flat_map uses_of ks)) ∙ ap (map cell_for) (sym (flat_map-cons uses_of k ks))

pub cells_for : (l : Layout) → cells_of l ≡ map cell_for (layout_uses l)
cells_for (layouts.Own ks vs) =
    ap (λ l. l ++ map HoldsValue vs) (parameters_for ks) ∙ ap (λ l. map cell_for (flat_map uses_of ks) ++ l) (values_for vs)
    ∙ sym (map-append cell_for (flat_map uses_of ks) (map OfValue vs))
cells_for (layouts.Of q) = refl
cells_for layouts.Level = refl

kept_count : (P : List Kind) (L : Uses) (at : ℕ) (u : Use) (s : Slot) (n : Cell) → IsCount u → Kept P L at u s n → is_word n ≡ true
kept_count P L at (OfValue k) s n c g = absurd c
kept_count P L at (OfPlace ks) s n c g = absurd c
kept_count P L at (OfLimit l) s n c g = ap is_word g.2
kept_count P L at OfNothing s n c g = ap is_word g.1

held_kind : (k : Kind) (v : Value) → IsOf k v → is_of (HoldsValue k) (held_of v) ≡ true
held_kind kinds.Int (Int z) f = refl
held_kind kinds.Int (Truth b) f = absurd f
held_kind kinds.Int (Text t) f = absurd f
held_kind kinds.Int (Task n) f = absurd f
held_kind kinds.Int (Space s) f = absurd f
held_kind kinds.Truth (Int z) f = absurd f
held_kind kinds.Truth (Truth b) f = refl
held_kind kinds.Truth (Text t) f = absurd f
held_kind kinds.Truth (Task n) f = absurd f
held_kind kinds.Truth (Space s) f = absurd f
held_kind kinds.Text (Int z) f = absurd f
held_kind kinds.Text (Truth b) f = absurd f
held_kind kinds.Text (Text t) f = refl
held_kind kinds.Text (Task n) f = absurd f
held_kind kinds.Text (Space s) f = absurd f
held_kind kinds.Task (Int z) f = absurd f
held_kind kinds.Task (Truth b) f = absurd f
held_kind kinds.Task (Text t) f = absurd f
held_kind kinds.Task (Task n) f = refl
held_kind kinds.Task (Space s) f = absurd f
held_kind kinds.Space (Int z) f = absurd f
held_kind kinds.Space (Truth b) f = absurd f
held_kind kinds.Space (Text t) f = absurd f
held_kind kinds.Space (Task n) f = absurd f
held_kind kinds.Space (Space s) f = refl

kept_use : (P : List Kind) (L : Uses) (at : ℕ) (u : Use) (s : Slot) (n : Cell) → Kept P L at u s n → is_of (cell_for u) n ≡ true
kept_use P L at (OfValue k) s n g = ap (is_of (HoldsValue k)) g.3 ∙ held_kind k g.0 g.2
kept_use P L at (OfPlace ks) s n g = ap is_word g.4
kept_use P L at (OfLimit l) s n g = ap is_word g.2
kept_use P L at OfNothing s n g = ap is_word g.1

module _ (P : List Kind) (U : Uses) (store : List Slot) (cells : Cells) (h : KeepsIn Run P U store cells) where
  -- from a number on the cells in use are for this
  abbrev From : ℕ → Uses → Type 0
  From at N = (x : ℕ) (u : Use) → slice_get N x ≡ Some u → slice_get U (at + x) ≡ Some u

  later : (at : ℕ) (u : Use) (N : Uses) → From at (u ∷ N) → From (suc at) N
  later at u N in_use x v e = let n : at + suc x ≡ suc at + x = omega arith in subst (λ n. slice_get U n ≡ Some v) n (in_use (suc x) v e)

  first : (at : ℕ) (u : Use) (N : Uses) → From at (u ∷ N) → Kept P U at u (slot_at store at) (cells (run_cell at))
  first at u N in_use = let n : at + 0 ≡ at = omega arith in h.each at u (subst (λ n. slice_get U n ≡ Some u) n (in_use 0 u refl))

  counts_known : (N : Uses) (at : ℕ) → AreCounts N → From at N → are_of [] at (length N) cells ≡ true
  counts_known [] at c in_use = refl
  counts_known (u ∷ N) at c in_use =
      ap (λ b. b && are_of [] (suc at) (length N) cells) (kept_count P U at u (slot_at store at) (cells (run_cell at)) c.0 (first at u N in_use))
      ∙ counts_known N (suc at) c.1 (later at u N in_use)

  uses_known : (us N : Uses) (at : ℕ) → AreCounts N → From at (us ++ N) → are_of (map cell_for us) at (length (us ++ N)) cells ≡ true
  uses_known [] N at c in_use = counts_known N at c in_use
  uses_known (u ∷ us) N at c in_use =
      ap (λ b. b && are_of (map cell_for us) (suc at) (length (us ++ N)) cells)
      (kept_use P U at u (slot_at store at) (cells (run_cell at)) (first at u (us ++ N) in_use))
      ∙ uses_known us N (suc at) c (later at u (us ++ N) in_use)

  frame_known : (us N : Uses) (at : ℕ) → AreCounts N → From at (call_uses us ++ N)
      → are_of (HoldsValue kinds.Int ∷ HoldsValue kinds.Int ∷ map cell_for us) at (length (call_uses us ++ N)) cells ≡ true
  frame_known us N at c in_use = uses_known (call_uses us) N at c in_use

-- the cells of a frame, behind those below it
pub framed : (P : List Kind) (L us more : Uses) (store : List Slot) (cells : Cells) (e : Option Entry) (from used : ℕ)
    → KeepsIn Run P (L ++ (call_uses us ++ more)) store cells → AreCounts more → cells_at (layout_of e) ≡ map cell_for us → from ≡ length L
    → used ≡ length (L ++ (call_uses us ++ more)) → is_framed e from used cells ≡ true
framed P L us more store cells e from used keeps counts is from_is used_is =
    let N = call_uses us ++ more in
    let size : used - from ≡ length N = omega (arith, from_is, used_is, length-append L N) in
    ap (λ ks. are_of (HoldsValue kinds.Int ∷ HoldsValue kinds.Int ∷ ks) from (used - from) cells) is
    ∙ ap (λ n. are_of (HoldsValue kinds.Int ∷ HoldsValue kinds.Int ∷ map cell_for us) from n cells) size
    ∙ frame_known P (L ++ N) store cells keeps us more from counts (λ x u e. ap (λ n. slice_get (L ++ N) (n + x)) from_is ∙ get_right L N x ∙ e)
