-- The cells of a source text of which the first lines are written.
use Rattle.std.proofs.Common.{◌≡◌, ◌≢◌, ℕ, zero, suc, ◌+◌, ◌-◌, ◌*◌, ◌<◌, ◌≤◌, min, true, false, cond, ◌==◌, List, [], ◌∷◌, ◌++◌, map, length, take, get_or, replicate, Some, None}
use Rattle.std.proofs.Common.{pos, inl, inr, ◌⊎◌, refl, sym, ap, ◌∙◌, subst, arith, ⊎_elim, append_assoc}
use Rattle.std.specs.List.{All, slice_get}
use Rattle.std.specs.Option.{IsSome}
use Rattle.std.specs.Int.{w16, cast_unsigned}
use Rattle.std.proofs.lemmas.Bool.{cases_lt}
use Rattle.std.proofs.lemmas.Bool.Decides.{eqb_tells}
use Rattle.std.proofs.lemmas.List.{length-append, length-map, length-replicate, length-take, map-append, take_more}
use Rattle.std.proofs.lemmas.List.Elements.{All-take}
use Rattle.std.proofs.lemmas.Option.{slice_get_past}
use Rattle.eu_base.specs.declared.address.Area.TheVariants.{Run}
use Rattle.eu_base.specs.declared.set.Set.{Set}
use Rattle.eu_base.specs.declared.set.Set.TheVariants.{Done, HeapFull}
use Rattle.eu_base.specs.declared.value.Value.{Value}
use Rattle.eu_base.specs.declared.value.Value.TheVariants as values
use Rattle.eu_base.specs.Spaces.{Content}
use Rattle.eu_base.specs.Cells.{Free, Word, Letters, Cells, run_cell, written, cell_blocks, area_blocks, Puts}
use Rattle.cell_layout.specs.Layout.{cell_in, HoldsIn, IsKeptBut}
use Rattle.cell_layout.proofs.Numbers.{same_cell}
use Rattle.text_heap.specs.Blocks.{total}
use Rattle.text_heap.proofs.Totals.{total_none, total_more, total_same}
use Rattle.text_heap.specs.Held.{text_of, texts_of, HoldsCells}
use Rattle.text_heap.specs.Texts.{Texts, Holds, Sets, KeepsCells}
use Rattle.text_heap.proofs.Kept.{word_held, text_held}
use Rattle.text_heap.proofs.Zeros.{zeros_hold}
use Rattle.source_texts.specs.Spaces.{held, cells_of}
use Rattle.units.specs.Sources.{most_lines}

abbrev pub empty_text : Value
empty_text = values.Text []

-- the values of the lines, and of all cells, where so many lines are told
abbrev pub row : List (List ℕ) → List Value
row lines = map values.Text lines ++ replicate (most_lines - length lines) empty_text

abbrev pub filled : ℕ → List (List ℕ) → List Value
filled n lines = values.Int (pos n) ∷ map values.Text lines ++ replicate (most_lines - length lines) empty_text

-- equal cells are held alike
cells_like : (content : Content) (cells other : Cells) → ((c : ℕ) → other (run_cell c) ≡ cells (run_cell c)) → HoldsCells Run content cells
    → HoldsCells Run content other
cells_like content cells other same h = record {
  words = λ c n low is. h.words c n low (sym (same c) ∙ is);
  texts = subst (Holds content) (λ i c. ap text_of (sym (same c)) i) h.texts;
}

-- ---- a space of zeros

zero_cell : (c : ℕ) → cell_in (λ n. 0) c ≡ 0
unfolding cell_in
zero_cell c = refl

replicated : {A : Type 0} (x : A) (m j : ℕ) → (slice_get (replicate m x) j ≡ Some x) ⊎ (slice_get (replicate m x) j ≡ None)
replicated x zero j = inr refl
replicated x (suc m) zero = inl refl
replicated x (suc m) (suc j) = replicated x m j

word_is : (m n : ℕ) → Word m ≡ Word n → m ≡ n
word_is m n e = cc

some_is : {A : Type 0} (a b : A) → Some a ≡ Some b → a ≡ b
some_is a b e = cc

module _ (content : Content) (zeros : (n : ℕ) → content n ≡ 0) (m : ℕ) where
  abbrev blanks : Cells
  blanks = cells_of (values.Int (pos 0) ∷ replicate m empty_text)

  cell_zero : (c : ℕ) → cell_in content c ≡ 0
  cell_zero c = same_cell (λ n. 0) content c (λ k low. zeros (8 * c + k)) ∙ zero_cell c

  blank_words : (c n : ℕ) → blanks (run_cell c) ≡ Word n → cell_in content c ≡ n
  blank_words zero n is = cell_zero 0 ∙ word_is 0 n is
  blank_words (suc j) n is = ⊎_elim
      (λ e. let f : Letters [] ≡ Word n = sym (ap held e) ∙ is in let g : ⊥ = cc in absurd g)
      (λ e. let f : Free ≡ Word n = sym (ap held e) ∙ is in let g : ⊥ = cc in absurd g)
      (replicated empty_text m j)

  blank_texts : (c : ℕ) (t : List ℕ) → texts_of Run blanks c ≡ Some t → t ≡ []
  blank_texts zero t is = let g : ⊥ = cc in absurd g
  blank_texts (suc j) t is = ⊎_elim
      (λ e. some_is t [] (sym is ∙ ap (λ o. text_of (held o)) e))
      (λ e. let f : None ≡ Some t = sym (ap (λ o. text_of (held o)) e) ∙ is in let g : ⊥ = cc in absurd g)
      (replicated empty_text m j)

  blanks_held : HoldsCells Run content blanks
  blanks_held = record { words = λ c n low is. blank_words c n is; texts = zeros_hold content zeros (texts_of Run blanks) blank_texts }

-- ---- the number of lines

not_it : (c at : ℕ) → c ≢ at → (c == at) ≡ false
not_it c at ne = ⊎_elim (λ t. absurd (ne t.1)) (λ t. t.0) (eqb_tells c at)

it : (c at : ℕ) → c ≡ at → (c == at) ≡ true
it c at e = ⊎_elim (λ t. t.0) (λ t. absurd (t.1 e)) (eqb_tells c at)

number_like : (n m c : ℕ)
    → cells_of (values.Int (pos n) ∷ replicate m empty_text) (run_cell c)
    ≡ written (cells_of (values.Int (pos 0) ∷ replicate m empty_text)) (run_cell 0) (Word n) (run_cell c)
number_like n m zero = refl
number_like n m (suc j) =
    sym (ap (λ b. cond b (Word n) (held (slice_get (replicate m empty_text) j))) (not_it (suc j) 0 (omega arith)))

pub number_held : (before now : Content) (n m : ℕ) → ((k : ℕ) → before k ≡ 0) → HoldsIn before now 0 n → IsKeptBut before now 0 1
    → HoldsCells Run now (cells_of (values.Int (pos n) ∷ replicate m empty_text))
number_held before now n m zeros put kept =
    let blank = cells_of (values.Int (pos 0) ∷ replicate m empty_text) in
    cells_like now (written blank (run_cell 0) (Word n)) _ (number_like n m)
    (word_held before now blank (run_cell 0) n (omega arith) (blanks_held before zeros m) refl put kept)

-- ---- a line more

row_here : {A : Type 0} (xs rest : List A) (x : A) (k : ℕ) → k ≡ length xs → slice_get (xs ++ x ∷ rest) k ≡ Some x
row_here [] rest x zero is = refl
row_here [] rest x (suc k) is = absurd (omega (arith, is))
row_here (y ∷ xs) rest x zero is = absurd (omega (arith, is))
row_here (y ∷ xs) rest x (suc k) is = row_here xs rest x k (omega (arith, is))

row_else : {A : Type 0} (xs rest : List A) (x y : A) (j : ℕ) → j ≢ length xs → slice_get (xs ++ x ∷ rest) j ≡ slice_get (xs ++ y ∷ rest) j
row_else [] rest x y zero ne = absurd (ne refl)
row_else [] rest x y (suc j) ne = refl
row_else (z ∷ xs) rest x y zero ne = refl
row_else (z ∷ xs) rest x y (suc j) ne = row_else xs rest x y j (λ e. ne (ap suc e))

module _ (lines : List (List ℕ)) (line : List ℕ) (k : ℕ) (long : length lines ≡ k) (few : k < most_lines) where
  abbrev rest : List Value
  rest = replicate (most_lines - (k + 1)) empty_text

  row_before : row lines ≡ map values.Text lines ++ empty_text ∷ rest
  row_before =
      let e : most_lines - length lines ≡ suc (most_lines - (k + 1)) = omega (arith, long, few) in
      ap (λ n. map values.Text lines ++ replicate n empty_text) e

  row_after : row (lines ++ line ∷ []) ≡ map values.Text lines ++ values.Text line ∷ rest
  row_after =
      let e : most_lines - length (lines ++ line ∷ []) ≡ most_lines - (k + 1) = omega (arith, long, length-append lines (line ∷ [])) in
      ap (λ n. map values.Text (lines ++ line ∷ []) ++ replicate n empty_text) e
      ∙ ap (λ l. l ++ rest) (map-append values.Text lines (line ∷ []))
      ∙ append_assoc (map values.Text lines) (values.Text line ∷ []) rest

  place : k ≡ length (map values.Text lines)
  place = omega (arith, long, length-map lines values.Text)

  was_empty : slice_get (row lines) k ≡ Some empty_text
  was_empty = ap (λ l. slice_get l k) row_before ∙ row_here (map values.Text lines) rest empty_text k place

  row_put : (j : ℕ) → held (slice_get (row (lines ++ line ∷ [])) j) ≡ cond (suc j == k + 1) (Letters line) (held (slice_get (row lines) j))
  row_put j = ⊎_elim
      (λ t.
      let here : k ≡ j = omega (arith, t.1) in
      ap (λ l. held (slice_get l j)) row_after
      ∙ ap held (row_here (map values.Text lines) rest (values.Text line) j (sym here ∙ place))
      ∙ sym (ap (λ b. cond b (Letters line) (held (slice_get (row lines) j))) t.0))
      (λ t.
      let other : j ≢ length (map values.Text lines) = λ e. t.1 (omega (arith, e, place)) in
      ap (λ l. held (slice_get l j)) row_after
      ∙ ap held (row_else (map values.Text lines) rest (values.Text line) empty_text j other)
      ∙ sym (ap (λ l. held (slice_get l j)) row_before)
      ∙ sym (ap (λ b. cond b (Letters line) (held (slice_get (row lines) j))) t.0))
      (eqb_tells (suc j) (k + 1))

  module _ (n : ℕ) where
    line_like : (c : ℕ)
        → cells_of (filled n (lines ++ line ∷ [])) (run_cell c) ≡ written (cells_of (filled n lines)) (run_cell (k + 1)) (Letters line) (run_cell c)
    line_like zero = sym (ap (λ b. cond b (Letters line) (Word (cast_unsigned w16 (pos n)))) (not_it 0 (k + 1) (λ e. absurd (omega (arith, e)))))
    line_like (suc j) = row_put j

    had_text : cells_of (filled n lines) (run_cell (k + 1)) ≡ Letters []
    had_text = let e : k + 1 ≡ suc k = omega arith in ap (λ c. cells_of (filled n lines) (run_cell c)) e ∙ ap held was_empty

-- ---- all lines have room

few_total : (f : ℕ → ℕ) (n : ℕ) → ((k : ℕ) → f k ≤ 9) → ((k : ℕ) → 401 ≤ k → f k ≡ 0) → total f n ≤ 9 * min n 401
few_total f zero small none = omega (arith, total_none f)
few_total f (suc n) small none = ⊎_elim
    (λ low. omega (arith, total_more f n, small n, few_total f n small none, low))
    (λ past. omega (arith, total_more f n, none n past, few_total f n small none, past))
    (cases_lt n 401)

row_small : (lines : List (List ℕ)) (m j : ℕ) → All (λ line. length line ≤ 250) lines
    → cell_blocks (held (slice_get (map values.Text lines ++ replicate m empty_text) j)) ≤ 9
row_small [] m j short = ⊎_elim
    (λ e. let g : cell_blocks (held (slice_get (replicate m empty_text) j)) ≡ 0 = ap (λ o. cell_blocks (held o)) e in omega (arith, g))
    (λ e. let g : cell_blocks (held (slice_get (replicate m empty_text) j)) ≡ 0 = ap (λ o. cell_blocks (held o)) e in omega (arith, g))
    (replicated empty_text m j)
row_small (l ∷ lines) m zero short = let s : length l ≤ 250 = short 0 [] (omega arith) in omega (arith, s)
row_small (l ∷ lines) m (suc j) short = row_small lines m j (λ k d low. short (suc k) d (omega (arith, low)))

cell_small : (n : ℕ) (lines : List (List ℕ)) → All (λ line. length line ≤ 250) lines → (c : ℕ) → cell_blocks (cells_of (filled n lines) (run_cell c)) ≤ 9
cell_small n lines short zero = omega arith
cell_small n lines short (suc j) = row_small lines (most_lines - length lines) j short

row_long : (lines : List (List ℕ)) → length lines ≤ most_lines → length (row lines) ≡ most_lines
row_long lines few =
    let a = length-append (map values.Text lines) (replicate (most_lines - length lines) empty_text) in
    let b = length-map lines values.Text in
    let c = length-replicate (most_lines - length lines) empty_text in
    omega (arith, a, b, c, few)

cell_past : (n : ℕ) (lines : List (List ℕ)) → length lines ≤ most_lines → (c : ℕ) → 401 ≤ c → cell_blocks (cells_of (filled n lines) (run_cell c)) ≡ 0
cell_past n lines few zero past = absurd (omega (arith, past))
cell_past n lines few (suc j) past = ap (λ o. cell_blocks (held o)) (slice_get_past (row lines) j (omega (arith, row_long lines few, past)))

has_room : (n : ℕ) (lines : List (List ℕ)) → length lines ≤ most_lines → All (λ line. length line ≤ 250) lines
    → area_blocks Run (cells_of (filled n lines)) ≤ 4096
has_room n lines few short =
    let t = few_total (λ k. cell_blocks (cells_of (filled n lines) (run_cell k))) 16384 (cell_small n lines short) (cell_past n lines few) in omega (arith, t)

-- a line was put into its cell
line_held : (before now : Content) (n k : ℕ) (lines : List (List ℕ)) (line : List ℕ) (set : Set) → length lines ≡ k → k < most_lines
    → All (λ line. length line ≤ 250) (lines ++ line ∷ []) → HoldsCells Run before (cells_of (filled n lines))
    → ((texts : Texts) → Holds before texts → IsSome (texts (k + 1)) → Sets before now texts (k + 1) line set) → KeepsCells before now (k + 1)
    → (set ≡ Done) × HoldsCells Run now (cells_of (filled n (lines ++ line ∷ [])))
line_held before now n k lines line set long few short h sets kept =
    by set
    (text_held before now (cells_of (filled n lines)) (run_cell (k + 1)) line set (omega (arith, few)) h
    (record { text = []; is = had_text lines line k long few n }) sets kept)
  where
    all : area_blocks Run (written (cells_of (filled n lines)) (run_cell (k + 1)) (Letters line)) ≤ 4096
    all =
        let room = has_room n (lines ++ line ∷ []) (omega (arith, long, few, length-append lines (line ∷ []))) short in
        let same = total_same (λ c. cell_blocks (cells_of (filled n (lines ++ line ∷ [])) (run_cell c)))
        (λ c. cell_blocks (written (cells_of (filled n lines)) (run_cell (k + 1)) (Letters line) (run_cell c))) 16384
        (λ c low. ap cell_blocks (line_like lines line k long few n c)) in
        omega (arith, room, same)

    by : (set : Set) → Puts (HoldsCells Run now) (cells_of (filled n lines)) (run_cell (k + 1)) line set
        → (set ≡ Done) × HoldsCells Run now (cells_of (filled n (lines ++ line ∷ [])))
    by Done puts = (refl, cells_like now (written (cells_of (filled n lines)) (run_cell (k + 1)) (Letters line)) _ (line_like lines line k long few n) puts.1)
    by HeapFull puts = absurd (omega (arith, puts.0, all))

-- the same of the next of all lines
pub next_held : (before now : Content) (n k : ℕ) (lines : List (List ℕ)) (line : List ℕ) (set : Set) → length lines ≤ most_lines → k < length lines
    → line ≡ get_or lines k line → All (λ line. length line ≤ 250) lines → HoldsCells Run before (cells_of (filled n (take k lines)))
    → ((texts : Texts) → Holds before texts → IsSome (texts (k + 1)) → Sets before now texts (k + 1) line set) → KeepsCells before now (k + 1)
    → (set ≡ Done) × HoldsCells Run now (cells_of (filled n (take (k + 1) lines)))
next_held before now n k lines line set few low is short h sets kept =
    let e : take (k + 1) lines ≡ take k lines ++ line ∷ [] =
    take_more lines k line low ∙ ap (λ (l : List ℕ). take k lines ++ l ∷ []) (sym is) in
    let all = subst (λ ls. All (λ line. length line ≤ 250) ls) e (All-take (λ line. length line ≤ 250) (k + 1) lines short) in
    let put = line_held before now n k (take k lines) line set (omega (arith, length-take k lines, low)) (omega (arith, low, few)) all h sets kept in
    (put.0, subst (λ ls. HoldsCells Run now (cells_of (filled n ls))) (sym e) put.1)
