-- Variables that are written, and cleared, shape by shape.
use Rattle.std.proofs.Common.{◌≡◌, ℕ, suc, ◌+◌, ◌<◌, ◌≤◌, min, List, ◌++◌, map, length, take, drop, sym, ap, ◌∙◌, subst, arith}
use Rattle.std.specs.Prelude.{get_or}
use Rattle.std.proofs.lemmas.List.{length-append, length-map, map-append, take_all}
use Rattle.eu_base.specs.declared.value.Kind.{Kind}
use Rattle.eu_base.specs.declared.shape.Shape.{Shape}
use Rattle.eu_base.specs.Values.{blank_of}
use Rattle.eu_base.specs.Shapes.{cell_kinds}
use Rattle.eu_base.specs.declared.address.Area.{Area}
use Rattle.eu_base.specs.Cells.{Cell, Cells, held_of, AreBare}
use Rattle.cell_kinds.specs.Kinds.{all_kinds}
use Rattle.cell_kinds.proofs.Parts.{kinds_more, kinds_around}
use Rattle.code_form.specs.Program.{HoldsValue}
use Rattle.code_form.specs.Machine.{written_in}
use Rattle.zero_machine.specs.Frames.{FreesTo}
use Rattle.zero_machine.proofs.Written.{written_append, bare_behind}
use Rattle.zero_machine.proofs.Freeing.{frees_on}

-- what cells of these kinds hold before anything was stored
abbrev blanks : List Kind → List Cell
blanks ks = map (λ k. held_of (blank_of k)) ks

module _ (area : Area) (at i : ℕ) (shapes : List Shape) (s d : Shape) (lt : i < length shapes) (is : s ≡ get_or shapes i d) where
  abbrev before_it : List Kind
  before_it = all_kinds (take i shapes)

  abbrev behind_it : List Kind
  behind_it = all_kinds (drop (suc i) shapes)

  -- the cell behind it
  pub next_shape : (cell : ℕ) → cell ≡ at + length before_it → cell + length (cell_kinds s) ≡ at + length (all_kinds (take (i + 1) shapes))
  next_shape cell here =
      let e = ap length (kinds_more shapes i s d lt is) in
      let f = length-append before_it (cell_kinds s) in
      omega (arith, here, e, f)

  sizes : length (all_kinds shapes) ≡ length before_it + (length (cell_kinds s) + length behind_it)
  sizes =
      ap length (kinds_around shapes i s d lt is) ∙ length-append before_it (cell_kinds s ++ behind_it)
      ∙ ap (λ n. length before_it + n) (length-append (cell_kinds s) behind_it)

  pub shape_fits : (cell end : ℕ) → cell ≡ at + length before_it → at + length (all_kinds shapes) ≤ end → cell + length (cell_kinds s) ≤ end
  shape_fits cell end here le = omega (arith, here, le, sizes)

  pub bare_there : (cell : ℕ) (cells : Cells) → cell ≡ at + length before_it → AreBare area at (length (all_kinds shapes)) cells
      → AreBare area cell (length (cell_kinds s)) (written_in area at (blanks before_it) cells)
  bare_there cell cells here bare =
      let many = length-map before_it (λ k. held_of (blank_of k)) in
      bare_behind area at at (length (all_kinds shapes)) cell (length (cell_kinds s)) (blanks before_it) cells (omega (arith, here, many)) (omega (arith, here))
      (omega (arith, here, sizes)) bare

  pub shape_done : (after : Cells → Type 0) (cell : ℕ) (cells : Cells) → cell ≡ at + length before_it
      → after (written_in area cell (blanks (cell_kinds s)) (written_in area at (blanks before_it) cells))
      → after (written_in area at (blanks (all_kinds (take (i + 1) shapes))) cells)
  shape_done after cell cells here put =
      let parts : blanks (all_kinds (take (i + 1) shapes)) ≡ blanks before_it ++ blanks (cell_kinds s) =
      ap blanks (kinds_more shapes i s d lt is) ∙ map-append (λ k. held_of (blank_of k)) before_it (cell_kinds s) in
      let many = length-map before_it (λ k. held_of (blank_of k)) in
      let there : cell ≡ at + length (blanks before_it) = omega (arith, here, many) in
      subst (λ l. after (written_in area at l cells)) (sym parts)
      (subst after (sym (written_append area at (blanks before_it) (blanks (cell_kinds s)) cells))
      (subst (λ n. after (written_in area n (blanks (cell_kinds s)) (written_in area at (blanks before_it) cells))) there put))

  pub shape_freed : (before between after : Cells → Type 0) (middle end until : ℕ) → at ≤ until → middle ≡ min until (at + length before_it)
      → FreesTo before between (map HoldsValue before_it) at middle until → FreesTo between after (map HoldsValue (cell_kinds s)) middle end until
      → FreesTo before after (map HoldsValue (all_kinds (take (i + 1) shapes))) at end until
  shape_freed before between after middle end until le here one two =
      let parts : map HoldsValue (all_kinds (take (i + 1) shapes)) ≡ map HoldsValue before_it ++ map HoldsValue (cell_kinds s) =
      ap (map HoldsValue) (kinds_more shapes i s d lt is) ∙ map-append HoldsValue before_it (cell_kinds s) in
      let many = length-map before_it HoldsValue in
      subst (λ us. FreesTo before after us at end until) (sym parts)
      (frees_on before between after (map HoldsValue before_it) (map HoldsValue (cell_kinds s)) at middle end until le (omega (arith, here, many)) one two)

-- all of them
pub all_shapes : (i : ℕ) (shapes : List Shape) → length shapes ≤ i → all_kinds (take i shapes) ≡ all_kinds shapes
all_shapes i shapes le = ap all_kinds (take_all i shapes le)
