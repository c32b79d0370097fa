-- What the cells of a frame are for when a body is entered.
use Rattle.std.proofs.Common.{◌≡◌, ℕ, suc, ◌+◌, ◌≤◌, List, [], ◌∷◌, ◌++◌, map, length, refl, sym, ap, ◌∙◌, subst, arith, append_assoc}
use Rattle.std.specs.Prelude.{flat_map}
use Rattle.std.proofs.lemmas.List.Concat.{flat_map-cons}
use Rattle.eu_base.specs.declared.value.Kind.{Kind}
use Rattle.eu_base.specs.declared.value.Kind.TheVariants as kinds
use Rattle.eu_base.specs.declared.value.Value.{Value}
use Rattle.eu_base.specs.Values.{IsOf, blank_of}
use Rattle.eu_base.specs.Shapes.{cell_kinds}
use Rattle.eu_base.specs.declared.address.Area.{Area}
use Rattle.eu_base.specs.declared.address.Area.TheVariants.{Run, Packets}
use Rattle.eu_base.specs.declared.address.Area.TheVariants as areas
use Rattle.eu_base.specs.Cells.{Cell, held_of}
use Rattle.eu_base.proofs.Results.{fits_in_range}
use Rattle.code_form.specs.declared.operand.OperandKind.{OperandKind}
use Rattle.code_form.specs.declared.operand.OperandKind.TheVariants as operand
use Rattle.code_form.specs.Program.{Program}
use Rattle.code_form.specs.Machine.{operand_of, held_cells, frame_contents}
use Rattle.elan_types.specs.Eval.{Place, Slot, Holds, Passed, slots_of, all_slots, frame}
use Rattle.place_gen.proofs.Homes.{uses_of}
use Rattle.place_gen.proofs.Cells.{OfValue, OfNothing, Uses, StandsIn, AtPlace, StandsBefore, AllKept}
use Rattle.place_gen.proofs.Spans.{AreOf, at_within}
use Rattle.place_gen.proofs.Carry.{P, Takes, TakeAll, passed_operand}

-- what the cells of a frame are for, with the two of the call
abbrev pub call_uses : Uses → Uses
call_uses us = OfNothing ∷ OfNothing ∷ us

abbrev pub link_uses : Uses
link_uses = OfNothing ∷ OfNothing ∷ []

blank_is : (k : Kind) → IsOf k (blank_of k)
blank_is kinds.Int = fits_in_range _ refl
blank_is kinds.Truth = tt
blank_is kinds.Text = omega arith
blank_is kinds.Task = omega arith
blank_is kinds.Space = omega arith

-- the cells of a value are those of the values of its cells
cells_held : (vs : List Value) → map held_of vs ≡ held_cells (operand_of vs)
cells_held [] = refl
cells_held (v ∷ []) = refl
cells_held (v ∷ u ∷ vs) = refl

-- some cells, and more behind them
all_append : (P : List Kind) (L : Uses) (M N : Uses) (at : ℕ) (more others : List Slot) (ns ms : List Cell) → AllKept P L at M more ns
    → AllKept P L (at + length M) N others ms → AllKept P L at (M ++ N) (more ++ others) (ns ++ ms)
all_append P L [] N at [] others [] ms h g = let e : at + 0 ≡ at = omega arith in subst (λ n. AllKept P L n N others ms) e g
all_append P L [] N at (s ∷ more) others ns ms h g = absurd h
all_append P L [] N at [] others (n ∷ ns) ms h g = absurd h
all_append P L (k ∷ M) N at [] others ns ms h g = absurd h
all_append P L (k ∷ M) N at (s ∷ more) others [] ms h g = absurd h
all_append P L (k ∷ M) N at (s ∷ more) others (n ∷ ns) ms h g =
    let e : at + suc (length M) ≡ suc at + length M = omega arith in
    (h.0, all_append P L M N (suc at) more others ns ms h.1 (subst (λ n. AllKept P L n N others ms) e g))

-- what stands at a place stands before the cells behind those in use
stands_before : (P : List Kind) (L : Uses) (ks : List Kind) (at : ℕ) (x : Place) → length L ≤ at → AtPlace P ks L x → StandsBefore at x.area (x.variable + length ks)
stands_before P L ks at x le h = by x.area x.variable h.0
  where
    by : (area : Area) (n : ℕ) → StandsIn P ks L area n → StandsBefore at area (n + length ks)
    by Run n at_n = omega (arith, le, at_within ks L n at_n)
    by Packets n at_n = tt
    by (areas.Space s) n at_n = tt

module _ (p : Program) (L : Uses) where
  values_kept : (ks : List Kind) (vs : List Value) (at : ℕ) → AreOf ks vs → AllKept (P p) L at (map OfValue ks) (map Holds vs) (map held_of vs)
  values_kept [] [] at h = tt
  values_kept [] (v ∷ vs) at h = absurd h
  values_kept (k ∷ ks) [] at h = absurd h
  values_kept (k ∷ ks) (v ∷ vs) at h = ((v, refl, h.0, refl), values_kept ks vs (suc at) h.1)

  one_kept : (k : OperandKind) (a : Passed) (at : ℕ) → length L ≤ at → Takes p k L a → AllKept (P p) L at (uses_of k) (slots_of a) (held_cells (passed_operand a))
  one_kept (operand.Value s) a at le t =
      subst (λ a. AllKept (P p) L at (map OfValue (cell_kinds s)) (slots_of a) (held_cells (passed_operand a))) (sym t.1)
      (subst (AllKept (P p) L at (map OfValue (cell_kinds s)) (map Holds t.0)) (cells_held t.0) (values_kept (cell_kinds s) t.0 at t.2))
  one_kept (operand.Place s) a at le t =
      subst (λ a. AllKept (P p) L at (uses_of (operand.Place s)) (slots_of a) (held_cells (passed_operand a))) (sym t.1)
      ((t.0, refl, stands_before (P p) L (cell_kinds s) at t.0 le t.2, t.2, refl), tt)

  blank_kept : (vs : List Kind) (at : ℕ)
      → AllKept (P p) L at (map OfValue vs) (map (λ (u : Kind). Holds (blank_of u)) vs) (map (λ (k : Kind). held_of (blank_of k)) vs)
  blank_kept [] at = tt
  blank_kept (v ∷ vs) at = ((blank_of v, refl, blank_is v, refl), blank_kept vs (suc at))

  rest_kept : (ks : List OperandKind) (as' : List Passed) (vs : List Kind) (at : ℕ) → length L ≤ at → TakeAll p ks L as'
      → AllKept (P p) L at (flat_map uses_of ks ++ map OfValue vs) (all_slots as' ++ map (λ (u : Kind). Holds (blank_of u)) vs)
      (flat_map held_cells (map passed_operand as') ++ map (λ (k : Kind). held_of (blank_of k)) vs)
  rest_kept [] [] vs at le t = blank_kept vs at
  rest_kept [] (a ∷ as') vs at le t = absurd t
  rest_kept (k ∷ ks) [] vs at le t = absurd t
  rest_kept (k ∷ ks) (a ∷ as') vs at le t =
      let us = map OfValue vs in
      let ss = map (λ (u : Kind). Holds (blank_of u)) vs in
      let ns = map (λ (k : Kind). held_of (blank_of k)) vs in
      let os = map passed_operand as' in
      let all =
      all_append (P p) L (uses_of k) (flat_map uses_of ks ++ us) at (slots_of a) (all_slots as' ++ ss) (held_cells (passed_operand a)) (flat_map held_cells os ++ ns)
      (one_kept k a at le t.0) (rest_kept ks as' vs (at + length (uses_of k)) (omega (arith, le)) t.1) in
      let e : uses_of k ++ (flat_map uses_of ks ++ us) ≡ flat_map uses_of (k ∷ ks) ++ us =
      sym (ap (λ l. l ++ us) (flat_map-cons uses_of k ks) ∙ append_assoc (uses_of k) (flat_map uses_of ks) us) in
      let f = sym (append_assoc (slots_of a) (all_slots as') ss) in
      let g : held_cells (passed_operand a) ++ (flat_map held_cells os ++ ns) ≡ flat_map held_cells (passed_operand a ∷ os) ++ ns =
      sym (ap (λ l. l ++ ns) (flat_map-cons held_cells (passed_operand a) os) ∙ append_assoc (held_cells (passed_operand a)) (flat_map held_cells os) ns) in
      subst (λ l. AllKept (P p) L at l ((slots_of a ++ all_slots as') ++ ss) (flat_map held_cells (passed_operand a ∷ os) ++ ns)) e
      (subst (λ l. AllKept (P p) L at (uses_of k ++ (flat_map uses_of ks ++ us)) l (flat_map held_cells (passed_operand a ∷ os) ++ ns)) f
      (subst (AllKept (P p) L at (uses_of k ++ (flat_map uses_of ks ++ us)) (slots_of a ++ (all_slots as' ++ ss))) g all))

  -- the cells of a call hold what its slots have
  pub frame_kept : (ks : List OperandKind) (as' : List Passed) (vs : List Kind) → TakeAll p ks L as'
      → AllKept (P p) L (length L) (call_uses (flat_map uses_of ks ++ map OfValue vs)) (frame (all_slots as') vs) (frame_contents (map passed_operand as') vs)
  frame_kept ks as' vs t = ((0, refl, refl, tt), ((0, refl, refl, tt), rest_kept ks as' vs (suc (suc (length L))) (omega arith) t))

pub kept_lengths : (P : List Kind) (L M : Uses) (at : ℕ) (more : List Slot) (ns : List Cell) → AllKept P L at M more ns → (length more ≡ length M) × (length ns ≡ length M)
kept_lengths P L [] at [] [] h = (refl, refl)
kept_lengths P L [] at (s ∷ more) ns h = absurd h
kept_lengths P L [] at [] (n ∷ ns) h = absurd h
kept_lengths P L (k ∷ M) at [] ns h = absurd h
kept_lengths P L (k ∷ M) at (s ∷ more) [] h = absurd h
kept_lengths P L (k ∷ M) at (s ∷ more) (n ∷ ns) h =
    let e = kept_lengths P L M (suc at) more ns h.1 in
    (ap suc e.0, ap suc e.1)
