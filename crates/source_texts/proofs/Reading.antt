-- What the bytes of a space spell, where they hold a source text.
use Rattle.std.proofs.Common.{◌≡◌, ℕ, zero, suc, ◌+◌, ◌%◌, ◌<◌, ◌≤◌, Bool, true, List, [], ◌∷◌, ◌++◌, map, length, take, get_or, replicate, ◌-◌, ℤ, pos, negsuc}
use Rattle.std.proofs.Common.{Some, None, refl, sym, ap, ◌∙◌, subst, arith, ⊎_elim, append_assoc}
use Rattle.std.specs.Prelude.{nat_le, if◌then◌else◌, option_map}
use Rattle.std.specs.List.{slice_get}
use Rattle.std.specs.Int.{w16, cast_unsigned, cast_signed}
use Rattle.std.specs.Int.RustNames.{FitsSigned}
use Rattle.std.proofs.lemmas.Bool.Decides.{leb_tells}
use Rattle.std.proofs.lemmas.Int.{ints, to_z-of_z}
use Rattle.std.proofs.lemmas.List.{take_more, map-append, length-append}
use Rattle.std.proofs.lemmas.Option.{slice_get_within, get_or_from_slice_get}
use Rattle.eu_base.specs.declared.address.Area.TheVariants.{Run}
use Rattle.eu_base.specs.declared.value.Value.{Value}
use Rattle.eu_base.specs.declared.value.Value.TheVariants as values
use Rattle.eu_base.specs.declared.shape.Shape.{Shape}
use Rattle.eu_base.specs.Shapes.{cell_kinds, same_shape}
use Rattle.eu_base.specs.Spaces.{Content}
use Rattle.eu_base.specs.Values.{number_in}
use Rattle.eu_base.specs.Values as base
use Rattle.cell_layout.specs.Layout.{cell_in}
use Rattle.source_texts.specs.Below.page_table.specs.Frames.{Over as Pages, content_at}
use Rattle.data_space.specs.Data.{SpaceData}
use Rattle.text_heap.specs.Blocks.{text_in}
use Rattle.text_heap.specs.Held.{text_of, HoldsCells}
use Rattle.source_texts.specs.Spaces.{Space, HoldsSpace, AreOf, cells_of, held, shape_kinds}
use Rattle.units.specs.Sources.{most_lines, source_shape, source_space, source_text, joined, first_lines, text_by}
use Rattle.units.specs.Sources as sources
use Rattle.source_texts.specs.Lines.{lines_at, line_count, text_at, line_end}
use Rattle.source_texts.proofs.Shapes.{source_is, source_self}
use Rattle.source_texts.proofs.Cells.{row, empty_text}
use Rattle.source_texts.proofs.Typed.{parts_of, text_there}

-- ---- one line more

joined_last : (lines : List (List ℕ)) (line : List ℕ) → joined (lines ++ line ∷ []) ≡ joined lines ++ (line_end (length lines) ++ line)
joined_last [] line = refl
joined_last (l ∷ []) line = refl
joined_last (l ∷ m ∷ lines) line =
    ap (λ t. l ++ 10 ∷ t) (joined_last (m ∷ lines) line) ∙ sym (append_assoc l (10 ∷ joined (m ∷ lines)) (10 ∷ line))

lines_long : (content : Content) (n : ℕ) → length (lines_at content n) ≡ n
lines_long content zero = refl
lines_long content (suc n) = omega (arith, length-append (lines_at content n) (text_in content (suc n) ∷ []), lines_long content n)

pub next_line : (content : Content) (k : ℕ) → joined (lines_at content (k + 1)) ≡ joined (lines_at content k) ++ (line_end k ++ text_in content (k + 1))
next_line content k =
    let e : k + 1 ≡ suc k = omega arith in
    ap (λ n. joined (lines_at content n)) e ∙ joined_last (lines_at content k) (text_in content (suc k))
    ∙ ap (λ n. joined (lines_at content k) ++ (line_end n ++ text_in content (suc k))) (lines_long content k)
    ∙ ap (λ n. joined (lines_at content k) ++ (line_end k ++ text_in content n)) (sym e)

-- ---- a number comes back out of its cell

bits : (z : ℤ) → FitsSigned w16 z → cast_unsigned w16 z < 65536
bits z f = omega (arith, ints)

number_back : (z : ℤ) → FitsSigned w16 z → number_in (cast_unsigned w16 z) ≡ z
number_back z f =
    let small = bits z f in
    let e : cast_unsigned w16 z % 65536 ≡ cast_unsigned w16 z = omega arith in
    ap (cast_signed w16) e ∙ to_z-of_z w16 z f

-- ---- the lines of a source text

module _ (content : Content) (number : ℤ) (row : List Value) (texts : (k : ℕ) → k < most_lines → (t : List ℕ) × (slice_get row k ≡ Some (values.Text t)))
    (h : HoldsCells Run content (cells_of (values.Int number ∷ row))) where
  line_is : (k : ℕ) → k < most_lines → text_in content (suc k) ≡ base.text_of (get_or row k (values.Text []))
  line_is k low =
      let t = texts k low in
      h.texts.each (suc k) t.0 (omega (arith, low)) (ap (λ o. text_of (held o)) t.1)
      ∙ sym (ap base.text_of (get_or_from_slice_get row k (values.Text t.0) (values.Text []) t.1))

  lines_are : (n : ℕ) → n ≤ most_lines → lines_at content n ≡ map base.text_of (take n row)
  lines_are zero few = refl
  lines_are (suc n) few =
      let t = texts n (omega (arith, few)) in
      let within = slice_get_within row n (values.Text t.0) t.1 in
      let e : n + 1 ≡ suc n = omega arith in
      ap (λ l. l ++ text_in content (suc n) ∷ []) (lines_are n (omega (arith, few)))
      ∙ ap (λ u. map base.text_of (take n row) ++ u ∷ []) (line_is n (omega (arith, few)))
      ∙ sym (map-append base.text_of (take n row) (get_or row n (values.Text []) ∷ []))
      ∙ sym (ap (map base.text_of) (take_more row n (values.Text []) within))
      ∙ ap (λ k. map base.text_of (take k row)) e

  counted : (z : ℤ) → option_map (λ n. joined (lines_at content n)) (line_count z) ≡ first_lines z row
  counted (negsuc n) = refl
  counted (pos n) = ⊎_elim
      (λ t. ap (λ (b : Bool). option_map (λ n. joined (lines_at content n)) (if b then Some n else None)) t.0
      ∙ ap (λ ls. Some (joined ls)) (lines_are n t.1)
      ∙ sym (ap (λ (b : Bool). if b then Some (joined (map base.text_of (take n row))) else None) t.0))
      (λ t. ap (λ (b : Bool). option_map (λ n. joined (lines_at content n)) (if b then Some n else None)) t.0
      ∙ sym (ap (λ (b : Bool). if b then Some (joined (map base.text_of (take n row))) else None) t.0))
      (leb_tells n most_lines)

  number_is : FitsSigned w16 number → number_in (cell_in content 0) ≡ number
  number_is fits = ap number_in (h.words 0 (cast_unsigned w16 number) (omega arith) refl) ∙ number_back number fits

  row_text : FitsSigned w16 number → text_at content ≡ sources.text_in (values.Int number ∷ row)
  row_text fits = ap (λ z. option_map (λ n. joined (lines_at content n)) (line_count z)) (number_is fits) ∙ counted number

values_text : (content : Content) (vs : List Value) → AreOf (cell_kinds source_shape) vs → HoldsCells Run content (cells_of vs)
    → text_at content ≡ sources.text_in vs
values_text content vs typed h =
    let p = parts_of vs typed in
    row_text content p.number p.row (λ k low. let t = text_there most_lines p.row p.texts k low in (t.text, t.is))
    (subst (λ l. HoldsCells Run content (cells_of l)) p.is h) p.fits
    ∙ ap sources.text_in (sym p.is)

-- ---- a space that is held

module _ (pages : Pages) (paged : SpaceData) (value : Space) (h : HoldsSpace pages paged value) where
  pub the_text : (s : Shape) → Some s ≡ paged.shape → same_shape source_shape s ≡ true → text_at (content_at pages paged.root) ≡ source_text value
  the_text s is same =
      let shape : value.shape ≡ Some source_shape = sym h.shape ∙ sym is ∙ ap Some (sym (source_is s same)) in
      values_text (content_at pages paged.root) value.values (subst (λ o. AreOf (shape_kinds o) value.values) shape h.typed) h.holds
      ∙ sym (ap (λ o. text_by o value.values) (sym h.shape ∙ sym is) ∙ ap (λ (b : Bool). if b then sources.text_in value.values else None) same)

-- ---- what was written is read again

front_lines : (lines : List (List ℕ)) (rest : List Value) → map base.text_of (take (length lines) (map values.Text lines ++ rest)) ≡ lines
front_lines [] rest = refl
front_lines (l ∷ lines) rest = ap (λ (ls : List (List ℕ)). l ∷ ls) (front_lines lines rest)

pub reads_back : (lines : List (List ℕ)) → length lines ≤ most_lines → source_text (source_space lines) ≡ Some (joined lines)
reads_back lines few =
    ap (λ (b : Bool). if b then sources.text_in (source_space lines).values else None) source_self
    ∙ ap (λ (b : Bool). if b then Some (joined (map base.text_of (take (length lines) (row lines)))) else None) (is_most (length lines) few)
    ∙ ap (λ ls. Some (joined ls)) (front_lines lines (replicate (most_lines - length lines) empty_text))
  where
    is_most : (n : ℕ) → n ≤ most_lines → nat_le n most_lines ≡ true
    is_most n few = ⊎_elim (λ t. t.0) (λ t. absurd (omega (arith, t.1, few))) (leb_tells n most_lines)
