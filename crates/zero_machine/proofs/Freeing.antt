-- Cells of frames that are left, and of frames that have no room.
use Rattle.std.proofs.Common.{◌≡◌, ℕ, zero, suc, ◌+◌, ◌-◌, ◌<◌, ◌≤◌, Bool, true, false, min, cond, List, [], ◌∷◌, ◌++◌, map, length, Option, Some, None, refl, sym}
use Rattle.std.proofs.Common.{ap, ◌∙◌, subst, arith, append_assoc, append-nil, ◌⊎◌, ⊎_elim, inl, inr}
use Rattle.std.specs.Prelude.{nat_le, nat_lt, ◌&&◌, ◌==◌, flat_map, take, drop, slice_get, get_or, option_map, Result, Ok, Err, OnOk}
use Rattle.std.proofs.lemmas.Option.{slice_get-map, slice_get-get_or}
use Rattle.std.proofs.lemmas.List.{length-append, length-map, map_more, take_more, take-append-drop, map-append}
use Rattle.std.proofs.lemmas.Grind.{flat_map-append}
use Rattle.std.proofs.lemmas.Bool.{leb-true, leb-false, ltb-true, ltb-false, eq-eqb, cases_lt}
use Rattle.eu_base.specs.declared.address.Area.TheVariants.{Run}
use Rattle.eu_base.specs.declared.address.Addr.{Addr}
use Rattle.eu_base.specs.declared.value.Kind.{Kind}
use Rattle.eu_base.specs.declared.value.Kind.TheVariants as kinds
use Rattle.eu_base.specs.declared.value.Value.{Value}
use Rattle.eu_base.specs.declared.value.Value.TheVariants as item
use Rattle.eu_base.specs.Cells.{Cell, Free, Word, Letters, Cells, held_of, run_cell, same_area, same_cell, is_between, written, freed, cell_blocks}
use Rattle.eu_base.specs.Cells.{HasText, Within}
use Rattle.code_form.specs.declared.code.Entry.{Entry}
use Rattle.code_form.specs.declared.code.Layout.{Layout}
use Rattle.code_form.specs.declared.code.Layout.TheVariants.{Own}
use Rattle.code_form.specs.declared.operand.Operand.{Operand}
use Rattle.code_form.specs.declared.operand.OperandKind.{OperandKind}
use Rattle.code_form.specs.Program.{CellUse, HoldsValue, HoldsPlace, cell_uses, cells_of, layout_of, cells_at}
use Rattle.code_form.specs.Machine.{held_cells, written_from, is_text, is_word, is_of, are_of, is_framed}
use Rattle.zero_state.proofs.Blocks.{is_run, same_place, has_text}
use Rattle.zero_machine.specs.Frames.{AreFree, Stand, HoldsText, is_text_kind, FreesTo}
use Rattle.zero_machine.proofs.Written.{at_other, behind}
use Rattle.zero_machine.proofs.Contents.{Forgets, same_known}

first : (b d : Bool) → b && d ≡ true → b ≡ true
first true d e = refl
first false d e = absurd (cc e)

second : (b d : Bool) → b && d ≡ true → d ≡ true
second true d e = e
second false d e = absurd (cc e)

-- a number lies among others, or does not
abbrev lies : ℕ → ℕ → ℕ → Bool
lies from until k = nat_le from k && nat_lt k until

among : (from until k : ℕ) → lies from until k ≡ true → (from ≤ k) × (k < until)
among from until k e = by (nat_le from k) refl e
  where
    by : (b : Bool) → nat_le from k ≡ b → b && nat_lt k until ≡ true → (from ≤ k) × (k < until)
    by true f e = (leb-true from k f, ltb-true k until e)
    by false f e = absurd (cc e)

beside : (from until k : ℕ) → lies from until k ≡ false → (k < from) ⊎ (until ≤ k)
beside from until k e = by (nat_le from k) refl e
  where
    by : (b : Bool) → nat_le from k ≡ b → b && nat_lt k until ≡ false → (k < from) ⊎ (until ≤ k)
    by true f e = let g = ltb-false k until e in inr (omega (arith, g))
    by false f e = let g = leb-false from k f in inl (omega (arith, g))

-- so does a cell of the command, and no cell of another area
is_own : (from until : ℕ) (a : Addr) → is_between from until a ≡ true → same_area a.area Run ≡ true
is_own from until a e = first (same_area a.area Run) (lies from until a.cell) e

among_own : (from until : ℕ) (a : Addr) → is_between from until a ≡ true → (from ≤ a.cell) × (a.cell < until)
among_own from until a e = among from until a.cell (second (same_area a.area Run) (lies from until a.cell) e)

beside_own : (from until : ℕ) (a : Addr) → same_area a.area Run ≡ true → is_between from until a ≡ false → (a.cell < from) ⊎ (until ≤ a.cell)
beside_own from until a own e = beside from until a.cell (ap (λ b. b && lies from until a.cell) (sym own) ∙ e)

-- nothing was freed yet
pub freed_none : (holds : Cells → Type 0) → Forgets holds → (from : ℕ) (cells : Cells) → holds cells → holds (freed from from cells)
freed_none holds forgets from cells h = same_known holds forgets cells (freed from from cells) h (λ a. by a (is_between from from a) refl)
  where
    by : (a : Addr) (b : Bool) → is_between from from a ≡ b → cond b Free (cells a) ≡ cells a
    by a true e = let f = among_own from from a e in let low = f.0 in let high = f.1 in absurd (omega (arith, low, high))
    by a false e = refl

-- one more cell is free, where it has no blocks, or "" was put into it
module _ (from k : ℕ) (low : from ≤ k) (cells : Cells) where
  grows : (a : Addr) → is_between from (suc k) a ≡ true → is_between from k a ≡ false → a ≡ run_cell k
  grows a e f = by (among_own from (suc k) a e) (beside_own from k a (is_own from (suc k) a e) f)
    where
      by : (from ≤ a.cell) × (a.cell < suc k) → (a.cell < from) ⊎ (k ≤ a.cell) → a ≡ run_cell k
      by x (inl y) = let z = x.0 in absurd (omega (arith, z, y))
      by x (inr y) = let z = x.1 in let is : a.cell ≡ k = omega (arith, z, y) in is_run a (is_own from (suc k) a e) ∙ ap run_cell is

  stays : (a : Addr) → is_between from (suc k) a ≡ false → is_between from k a ≡ true → ⊥
  stays a e f = by (among_own from k a f) (beside_own from (suc k) a (is_own from k a f) e)
    where
      by : (from ≤ a.cell) × (a.cell < k) → (a.cell < from) ⊎ (suc k ≤ a.cell) → ⊥
      by x (inl y) = let z = x.0 in omega (arith, z, y)
      by x (inr y) = let z = x.1 in omega (arith, z, y)

  pub freed_number : cell_blocks (cells (run_cell k)) ≡ 0 → Within (freed from (suc k) cells) (freed from k cells)
  freed_number bare a = by (is_between from (suc k) a) (is_between from k a) refl refl
    where
      by : (b d : Bool) → is_between from (suc k) a ≡ b → is_between from k a ≡ d
          → (cond b Free (cells a) ≡ cond d Free (cells a)) ⊎ ((cond b Free (cells a) ≡ Free) × (cell_blocks (cond d Free (cells a)) ≡ 0))
      by true true e f = inl refl
      by true false e f = inr (refl, ap (λ a. cell_blocks (cells a)) (grows a e f) ∙ bare)
      by false true e f = absurd (stays a e f)
      by false false e f = inl refl

  pub freed_text : Within (freed from (suc k) cells) (written (freed from k cells) (run_cell k) (Letters []))
  freed_text a = by (same_cell a (run_cell k)) (is_between from (suc k) a) (is_between from k a) refl refl refl
    where
      outside : a.cell ≡ k → (a.cell < from) ⊎ (suc k ≤ a.cell) → ⊥
      outside is (inl y) = omega (arith, low, is, y)
      outside is (inr y) = omega (arith, is, y)

      differs : same_cell a (run_cell k) ≡ false → same_cell a (run_cell k) ≡ true → ⊥
      differs e f = let g : false ≡ true = sym e ∙ f in absurd (cc g)

      by : (s b d : Bool) → same_cell a (run_cell k) ≡ s → is_between from (suc k) a ≡ b → is_between from k a ≡ d
          → (cond b Free (cells a) ≡ cond s (Letters []) (cond d Free (cells a)))
          ⊎ ((cond b Free (cells a) ≡ Free) × (cell_blocks (cond s (Letters []) (cond d Free (cells a))) ≡ 0))
      by true true d g e f = inr (refl, refl)
      by true false d g e f =
          let here = same_place a (run_cell k) g in
          let is = ap (λ (a : Addr). a.cell) here in
          let own = ap (λ (a : Addr). same_area a.area Run) here in
          absurd (outside is (beside_own from (suc k) a own e))
      by false true true g e f = inl refl
      by false true false g e f = let is = grows a e f in absurd (differs g (ap (λ a. same_cell a (run_cell k)) is ∙ eq-eqb k k refl))
      by false false true g e f = absurd (stays a e f)
      by false false false g e f = inl refl

  -- what stands there is known still
  pub not_freed : freed from k cells (run_cell k) ≡ cells (run_cell k)
  not_freed = by (lies from k k) refl
    where
      by : (b : Bool) → lies from k k ≡ b → cond b Free (cells (run_cell k)) ≡ cells (run_cell k)
      by true e = let f = among from k k e in let high = f.1 in absurd (omega (arith, high))
      by false e = refl

-- what was put into cells changes nothing of those before them
before_them : (ns : List Cell) (at x : ℕ) (cells : Cells) → x < at → written_from at ns cells (run_cell x) ≡ cells (run_cell x)
before_them [] at x cells lt = refl
before_them (n ∷ ns) at x cells lt =
    before_them ns (suc at) x (written cells (run_cell at) n) (omega (arith, lt)) ∙ at_other Run cells at x n (λ e. omega (arith, lt, e))

-- nor of those of another area
other_area : (ns : List Cell) (at : ℕ) (cells : Cells) (a : Addr) → same_area a.area Run ≡ false → written_from at ns cells a ≡ cells a
other_area [] at cells a else = refl
other_area (n ∷ ns) at cells a else =
    other_area ns (suc at) (written cells (run_cell at) n) a else ∙ ap (λ b. cond (b && a.cell == at) n (cells a)) else

-- cells that were free are as before where all that was put there is freed
pub unwritten_freed : (at n : ℕ) (ns : List Cell) (cells : Cells) → length ns ≤ n → AreFree at n cells → (a : Addr)
    → cells a ≡ freed at (at + n) (written_from at ns cells) a
unwritten_freed at n ns cells short free a = by (same_area a.area Run) refl
  where
    now : Cells
    now = written_from at ns cells

    apart : (a.cell < at) ⊎ (at + n ≤ a.cell) → cells (run_cell a.cell) ≡ now (run_cell a.cell)
    apart (inl lt) = sym (before_them ns at a.cell cells lt)
    apart (inr le) = sym (behind Run ns at a.cell cells (omega (arith, le, short)))

    own : (b : Bool) → lies at (at + n) a.cell ≡ b → cells (run_cell a.cell) ≡ cond b Free (now (run_cell a.cell))
    own true e = let f = among at (at + n) a.cell e in free a.cell f.0 f.1
    own false e = apart (beside at (at + n) a.cell e)

    by : (b : Bool) → same_area a.area Run ≡ b → cells a ≡ freed at (at + n) now a
    by true e = let is = is_run a e in ap cells is ∙ own (lies at (at + n) a.cell) refl ∙ ap (freed at (at + n) now) (sym is)
    by false e = sym (ap (λ b. cond (b && lies at (at + n) a.cell) Free (now a)) e ∙ other_area ns at cells a e)

-- what was put into cells stands there
pub written_stand : (ns : List Cell) (at : ℕ) (cells : Cells) → Stand at ns (written_from at ns cells)
written_stand [] at cells k x e = absurd (cc e)
written_stand (n ∷ ns) at cells zero x e =
    let here : at + 0 ≡ at = omega arith in
    let same : n ≡ x = cc e in
    ap (λ j. written_from (suc at) ns (written cells (run_cell at) n) (run_cell j)) here ∙ before_them ns (suc at) at (written cells (run_cell at) n) (omega arith)
    ∙ ap (λ b. cond b n (cells (run_cell at))) (eq-eqb at at refl) ∙ same
written_stand (n ∷ ns) at cells (suc k) x e =
    let here : at + suc k ≡ suc at + k = omega arith in
    ap (λ j. written_from (suc at) ns (written cells (run_cell at) n) (run_cell j)) here ∙ written_stand ns (suc at) (written cells (run_cell at) n) k x e

word_bare : (x : Cell) → is_word x ≡ true → cell_blocks x ≡ 0
word_bare Free e = absurd (cc e)
word_bare (Word n) e = refl
word_bare (Letters t) e = absurd (cc e)

-- a cell that the tables call a text has one, and no other has
pub kind_told : (k : Kind) (x : Cell) → is_of (HoldsValue k) x ≡ true → HoldsText (is_text_kind k) x
kind_told kinds.Int x e = word_bare x e
kind_told kinds.Truth x e = word_bare x e
kind_told kinds.Text x e = has_text x e
kind_told kinds.Task x e = word_bare x e
kind_told kinds.Space x e = word_bare x e

-- one more cell is freed
module _ (holds : Cells → Type 0) (forgets : Forgets holds) (from k : ℕ) (low : from ≤ k) (cells : Cells) where
  pub next_text : (HasText (freed from k cells (run_cell k)) → holds (written (freed from k cells) (run_cell k) (Letters [])))
      → HasText (cells (run_cell k)) → holds (freed from (suc k) cells)
  next_text cleared has =
      forgets (written (freed from k cells) (run_cell k) (Letters [])) (freed from (suc k) cells)
      (cleared (subst HasText (sym (not_freed from k low cells)) has)) (freed_text from k low cells)

  pub next_number : holds (freed from k cells) → cell_blocks (cells (run_cell k)) ≡ 0 → holds (freed from (suc k) cells)
  next_number h bare = forgets (freed from k cells) (freed from (suc k) cells) h (freed_number from k low cells bare)

-- the same of a clearing that may want memory
pub text_freed : {T E : Type 0} (result : Result T E) (before after : Cells → Type 0) → Forgets after → (k : ℕ) (text : Bool) → text ≡ true
    → OnOk result ((cells : Cells) → before cells → HasText (cells (run_cell k)) → after (written cells (run_cell k) (Letters [])))
    → OnOk result ((from : ℕ) (cells : Cells) → from ≤ k → before (freed from k cells) → HoldsText text (cells (run_cell k)) → after (freed from (k + 1) cells))
text_freed (Ok x) before after forgets k text is cleared = λ from cells low h has.
    let next : suc k ≡ k + 1 = omega arith in
    subst (λ n. after (freed from n cells)) next
    (next_text after forgets from k low cells (cleared (freed from k cells) h) (subst (λ b. HoldsText b (cells (run_cell k))) is has))
text_freed (Err e) before after forgets k text is cleared = tt

-- a value that stands in a cell
stands : (at k : ℕ) (values : List Value) (v : Value) (cells : Cells) → Stand at (map held_of values) cells → k < length values
    → v ≡ get_or values k v → cells (run_cell (at + k)) ≡ held_of v
stands at k values v cells stand lt is =
    stand k (held_of v)
    (slice_get-map held_of values k ∙ ap (option_map held_of) (slice_get-get_or values k v lt) ∙ ap (λ v. Some (held_of v)) (sym is))

pub held_text : (v : Value) → HoldsText (is_text (held_of v)) (held_of v)
held_text (item.Int z) = refl
held_text (item.Truth b) = refl
held_text (item.Text t) = record { text = t; is = refl }
held_text (item.Task n) = refl
held_text (item.Space n) = refl

pub text_stands : (at k : ℕ) (values : List Value) (v : Value) (cells : Cells) → Stand at (map held_of values) cells → k < length values
    → v ≡ get_or values k v → HoldsText (is_text (held_of v)) (cells (run_cell (at + k)))
text_stands at k values v cells stand lt is = subst (HoldsText (is_text (held_of v))) (sym (stands at k values v cells stand lt is)) (held_text v)

-- parts of what stands in cells
get_left : (xs ys : List Cell) (k : ℕ) (x : Cell) → slice_get xs k ≡ Some x → slice_get (xs ++ ys) k ≡ Some x
get_left [] ys k x e = absurd (cc e)
get_left (y ∷ xs) ys zero x e = e
get_left (y ∷ xs) ys (suc k) x e = get_left xs ys k x e

get_right : (xs ys : List Cell) (k : ℕ) → slice_get (xs ++ ys) (length xs + k) ≡ slice_get ys k
get_right [] ys k = let e : 0 + k ≡ k = omega arith in ap (slice_get ys) e
get_right (x ∷ xs) ys k = let e : suc (length xs) + k ≡ suc (length xs + k) = omega arith in ap (slice_get (x ∷ (xs ++ ys))) e ∙ get_right xs ys k

pub stand_front : (at : ℕ) (xs ys : List Cell) (cells : Cells) → Stand at (xs ++ ys) cells → Stand at xs cells
stand_front at xs ys cells stand k x e = stand k x (get_left xs ys k x e)

pub stand_behind : (at : ℕ) (xs ys : List Cell) (cells : Cells) → Stand at (xs ++ ys) cells → Stand (at + length xs) ys cells
stand_behind at xs ys cells stand k x e =
    let here : at + length xs + k ≡ at + (length xs + k) = omega arith in
    ap (λ j. cells (run_cell j)) here ∙ stand (length xs + k) x (get_right xs ys k ∙ e)

-- the cells behind others are known as these are
pub are_behind : (us ws : List CellUse) (at until : ℕ) (cells : Cells) → at ≤ until → are_of (us ++ ws) at (until - at) cells ≡ true
    → are_of ws (min until (at + length us)) (until - min until (at + length us)) cells ≡ true
are_behind [] ws at until cells le told =
    let e : min until (at + 0) ≡ at = omega (arith, le) in subst (λ k. are_of ws k (until - k) cells ≡ true) (sym e) told
are_behind (u ∷ us) ws at until cells le told = by (until - at) refl told (λ le told. are_behind us ws (suc at) until cells le told)
  where
    by : (n : ℕ) → until - at ≡ n → are_of (u ∷ (us ++ ws)) at n cells ≡ true
        → (suc at ≤ until → are_of (us ++ ws) (suc at) (until - suc at) cells ≡ true
        → are_of ws (min until (suc at + length us)) (until - min until (suc at + length us)) cells ≡ true)
        → are_of ws (min until (at + suc (length us))) (until - min until (at + suc (length us))) cells ≡ true
    by zero e told more =
        let f : min until (at + suc (length us)) ≡ until = omega (arith, e, le) in
        let g : until - until ≡ 0 = omega arith in
        subst (λ k. are_of ws k (until - k) cells ≡ true) (sym f) (ap (λ n. are_of ws until n cells) g)
    by (suc n) e told more =
        let f : until - suc at ≡ n = omega (arith, e) in
        let g : min until (suc at + length us) ≡ min until (at + suc (length us)) = omega arith in
        let rest : are_of (us ++ ws) (suc at) n cells ≡ true = second (is_of u (cells (run_cell at))) (are_of (us ++ ws) (suc at) n cells) told in
        subst (λ k. are_of ws k (until - k) cells ≡ true) g
        (more (omega (arith, e)) (ap (λ n. are_of (us ++ ws) (suc at) n cells) f ∙ rest))

-- the first of them
pub first_told : (u : CellUse) (us : List CellUse) (at until : ℕ) (cells : Cells) → at < until → are_of (u ∷ us) at (until - at) cells ≡ true
    → is_of u (cells (run_cell at)) ≡ true
first_told u us at until cells lt told =
    let e : until - at ≡ suc (until - suc at) = omega (arith, lt) in
    first (is_of u (cells (run_cell at))) (are_of us (suc at) (until - suc at) cells) (ap (λ n. are_of (u ∷ us) at n cells) (sym e) ∙ told)

-- freed one after another
pub frees_none : (holds : Cells → Type 0) (at end until : ℕ) → end ≡ at → FreesTo holds holds [] at end until
frees_none holds at end until e from cells rest low h told = subst (λ n. holds (freed from n cells)) (sym e) h

pub frees_on : (before between after : Cells → Type 0) (us ws : List CellUse) (at middle end until : ℕ) → at ≤ until → middle ≡ min until (at + length us)
    → FreesTo before between us at middle until → FreesTo between after ws middle end until → FreesTo before after (us ++ ws) at end until
frees_on before between after us ws at middle end until le is one two from cells rest low h told =
    let told' : are_of (us ++ (ws ++ rest)) at (until - at) cells ≡ true = ap (λ l. are_of l at (until - at) cells) (sym (append_assoc us ws rest)) ∙ told in
    let behind = are_behind us (ws ++ rest) at until cells le told' in
    two from cells rest (omega (arith, low, is, le)) (one from cells (ws ++ rest) low h told')
    (subst (λ k. are_of (ws ++ rest) k (until - k) cells ≡ true) (sym is) behind)

-- those of one kind more, and of one parameter more
pub kinds_next : (before between after : Cells → Type 0) (kinds : List Kind) (i : ℕ) (k d : Kind) (at middle end until : ℕ) → at ≤ until → i < length kinds
    → k ≡ get_or kinds i d → middle ≡ min until (at + length (take i kinds)) → FreesTo before between (map HoldsValue (take i kinds)) at middle until
    → FreesTo between after (HoldsValue k ∷ []) middle end until → FreesTo before after (map HoldsValue (take (i + 1) kinds)) at end until
kinds_next before between after kinds i k d at middle end until le lt is here one two =
    let size = length-map (take i kinds) HoldsValue in
    let more : map HoldsValue (take (i + 1) kinds) ≡ map HoldsValue (take i kinds) ++ HoldsValue k ∷ [] =
    map_more HoldsValue kinds i d lt ∙ ap (λ k. map HoldsValue (take i kinds) ++ HoldsValue k ∷ []) (sym is) in
    subst (λ us. FreesTo before after us at end until) (sym more)
    (frees_on before between after (map HoldsValue (take i kinds)) (HoldsValue k ∷ []) at middle end until le (omega (arith, here, size)) one two)

pub uses_more : (parameters : List OperandKind) (i : ℕ) (p d : OperandKind) → i < length parameters → p ≡ get_or parameters i d
    → flat_map cell_uses (take (i + 1) parameters) ≡ flat_map cell_uses (take i parameters) ++ cell_uses p
uses_more parameters i p d lt is =
    ap (flat_map cell_uses) (take_more parameters i d lt) ∙ flat_map-append cell_uses (take i parameters) (get_or parameters i d ∷ [])
    ∙ ap (λ l. flat_map cell_uses (take i parameters) ++ l) (append-nil (cell_uses (get_or parameters i d)) ∙ ap cell_uses (sym is))

pub uses_next : (before between after : Cells → Type 0) (parameters : List OperandKind) (i : ℕ) (p d : OperandKind) (at middle end until : ℕ) → at ≤ until
    → i < length parameters → p ≡ get_or parameters i d → middle ≡ min until (at + length (flat_map cell_uses (take i parameters)))
    → FreesTo before between (flat_map cell_uses (take i parameters)) at middle until → FreesTo between after (cell_uses p) middle end until
    → FreesTo before after (flat_map cell_uses (take (i + 1) parameters)) at end until
uses_next before between after parameters i p d at middle end until le lt is here one two =
    subst (λ us. FreesTo before after us at end until) (sym (uses_more parameters i p d lt is))
    (frees_on before between after (flat_map cell_uses (take i parameters)) (cell_uses p) at middle end until le here one two)

-- no more of them are looked at than there are cells
pub kinds_cut : (before after : Cells → Type 0) (kinds cut : List Kind) (at end until : ℕ) → cut ≡ take (until - at) kinds
    → FreesTo before after (map HoldsValue cut) at end until → FreesTo before after (map HoldsValue kinds) at end until
kinds_cut before after kinds cut at end until is frees from cells rest low h told =
    let others = map HoldsValue (drop (until - at) kinds) in
    let parts : map HoldsValue kinds ++ rest ≡ map HoldsValue cut ++ (others ++ rest) =
    ap (λ l. l ++ rest) (ap (map HoldsValue) (sym (take-append-drop (until - at) kinds)) ∙ map-append HoldsValue (take (until - at) kinds) (drop (until - at) kinds)
    ∙ ap (λ l. map HoldsValue l ++ others) (sym is)) ∙ append_assoc (map HoldsValue cut) others rest in
    frees from cells (others ++ rest) low h (ap (λ l. are_of l at (until - at) cells) (sym parts) ∙ told)

-- a cell with a number is forgotten
number_freed : (holds : Cells → Type 0) → Forgets holds → (u : CellUse) → ((x : Cell) → is_of u x ≡ true → cell_blocks x ≡ 0) → (at until : ℕ) → at ≤ until
    → FreesTo holds holds (u ∷ []) at (min until (at + 1)) until
number_freed holds forgets u bare at until le from cells rest low h told = ⊎_elim
    (λ lt.
    let e : suc at ≡ min until (at + 1) = omega (arith, lt) in
    subst (λ n. holds (freed from n cells)) e
    (next_number holds forgets from at low cells h (bare (cells (run_cell at)) (first_told u rest at until cells lt told))))
    (λ ge. let e : at ≡ min until (at + 1) = omega (arith, ge, le) in subst (λ n. holds (freed from n cells)) e h)
    (cases_lt at until)

pub place_freed : (holds : Cells → Type 0) → Forgets holds → (at until : ℕ) → at ≤ until → FreesTo holds holds (HoldsPlace ∷ []) at (min until (at + 1)) until
place_freed holds forgets = number_freed holds forgets HoldsPlace word_bare

-- so are the numbers behind all others
pub words_freed : (holds : Cells → Type 0) → Forgets holds → (n at until from : ℕ) (cells : Cells) → until ≡ at + n → from ≤ at → holds (freed from at cells)
    → are_of [] at n cells ≡ true → holds (freed from until cells)
words_freed holds forgets zero at until from cells e low h told =
    let f : at ≡ until = omega (arith, e) in subst (λ n. holds (freed from n cells)) f h
words_freed holds forgets (suc n) at until from cells e low h told =
    words_freed holds forgets n (suc at) until from cells (omega (arith, e)) (omega (arith, low))
    (next_number holds forgets from at low cells h (word_bare (cells (run_cell at)) (first (is_word (cells (run_cell at))) (are_of [] (suc at) n cells) told)))
    (second (is_word (cells (run_cell at))) (are_of [] (suc at) n cells) told)

-- a frame of a PROC: its parameters, and its variables
pub own_freed : (before between after : Cells → Type 0) (ps qs : List OperandKind) (vs ws : List Kind) (layout : Layout) (at cell end until : ℕ) → at ≤ until
    → qs ≡ ps → ws ≡ vs → layout ≡ Own ps vs → cell ≡ min until (at + length (flat_map cell_uses qs)) → end ≡ min until (cell + length ws)
    → FreesTo before between (flat_map cell_uses qs) at cell until → FreesTo between after (map HoldsValue ws) cell end until
    → FreesTo before after (cells_of layout) at (min until (at + length (cells_of layout))) until
own_freed before between after ps qs vs ws layout at cell end until le same_ps same_vs own here last one two =
    let uses : flat_map cell_uses qs ++ map HoldsValue ws ≡ cells_of layout =
    ap (λ qs. flat_map cell_uses qs ++ map HoldsValue ws) same_ps ∙ ap (λ ws. flat_map cell_uses ps ++ map HoldsValue ws) same_vs ∙ ap cells_of (sym own) in
    let size = length-append (flat_map cell_uses qs) (map HoldsValue ws) in
    let many = length-map ws HoldsValue in
    let all = ap length uses in
    let e : end ≡ min until (at + length (cells_of layout)) = omega (arith, here, last, size, many, all) in
    subst (λ us. FreesTo before after us at (min until (at + length (cells_of layout))) until) uses
    (subst (λ n. FreesTo before after (flat_map cell_uses qs ++ map HoldsValue ws) at n until) e
    (frees_on before between after (flat_map cell_uses qs) (map HoldsValue ws) at cell end until le here one two))

-- nothing lies there
pub freed_past : (holds : Cells → Type 0) → Forgets holds → (from until : ℕ) (cells : Cells) → until ≤ from → holds cells → holds (freed from until cells)
freed_past holds forgets from until cells past h =
    same_known holds forgets cells (freed from until cells) h (λ a. by a (is_between from until a) refl)
  where
    by : (a : Addr) (b : Bool) → is_between from until a ≡ b → cond b Free (cells a) ≡ cells a
    by a true e = let f = among_own from until a e in let low = f.0 in let high = f.1 in absurd (omega (arith, low, high, past))
    by a false e = refl

-- a frame: the two cells of the call, those that the tables name, and numbers
abbrev pub frame_uses : Option Entry → List CellUse
frame_uses e = HoldsValue kinds.Int ∷ HoldsValue kinds.Int ∷ cells_at (layout_of e)

pub frame_freed : (before after : Cells → Type 0) → Forgets before → Forgets after → (us : List CellUse) (from at end until : ℕ) → from < until
    → at ≡ min until (from + 2) → end ≡ min until (at + length us) → FreesTo before after us at end until → (cells : Cells) → before cells
    → are_of (HoldsValue kinds.Int ∷ HoldsValue kinds.Int ∷ us) from (until - from) cells ≡ true → after (freed from until cells)
frame_freed before after forgets forgets' us from at end until lt at_is end_is frees cells h told =
    let int : (x : Cell) → is_of (HoldsValue kinds.Int) x ≡ true → cell_blocks x ≡ 0 = word_bare in
    let one = number_freed before forgets (HoldsValue kinds.Int) int from until (omega (arith, lt)) in
    let two = number_freed before forgets (HoldsValue kinds.Int) int (min until (from + 1)) until (omega arith) in
    let e : min until (min until (from + 1) + 1) ≡ at = omega (arith, at_is) in
    let links : FreesTo before before (HoldsValue kinds.Int ∷ HoldsValue kinds.Int ∷ []) from at until =
    subst (λ end. FreesTo before before (HoldsValue kinds.Int ∷ HoldsValue kinds.Int ∷ []) from end until) e
    (frees_on before before before (HoldsValue kinds.Int ∷ []) (HoldsValue kinds.Int ∷ []) from (min until (from + 1)) (min until (min until (from + 1) + 1))
    until (omega (arith, lt)) refl one two) in
    let all : FreesTo before after (HoldsValue kinds.Int ∷ HoldsValue kinds.Int ∷ us) from end until =
    frees_on before before after (HoldsValue kinds.Int ∷ HoldsValue kinds.Int ∷ []) us from at end until (omega (arith, lt)) at_is links frees in
    let uses = HoldsValue kinds.Int ∷ HoldsValue kinds.Int ∷ us in
    let told' : are_of (uses ++ []) from (until - from) cells ≡ true = ap (λ l. are_of l from (until - from) cells) (append-nil uses) ∙ told in
    let last : min until (from + length uses) ≡ end = omega (arith, end_is, at_is) in
    let behind : are_of [] end (until - end) cells ≡ true =
    subst (λ k. are_of [] k (until - k) cells ≡ true) last (are_behind uses [] from until cells (omega (arith, lt)) told') in
    words_freed after forgets' (until - end) end until from cells (omega (arith, end_is)) (omega (arith, end_is, at_is, lt))
    (all from cells [] (omega arith) (freed_none before forgets from cells h) told') behind

-- of the layout of a body, and of no body
pub layout_freed : {T E : Type 0} (result : Result T E) (before after : Cells → Type 0) → Forgets before → Forgets after → (e : Entry) (o : Option Entry)
    (from at until : ℕ) → o ≡ Some e → from < until → at ≡ min until (from + 2)
    → OnOk result (FreesTo before after (cells_of e.layout) at (min until (at + length (cells_of e.layout))) until)
    → OnOk result ((cells : Cells) → before cells → is_framed o from until cells ≡ true → after (freed from until cells))
layout_freed (Err x) before after forgets forgets' e o from at until is lt at_is frees = tt
layout_freed (Ok x) before after forgets forgets' e o from at until is lt at_is frees = λ cells h told.
    frame_freed before after forgets forgets' (cells_of e.layout) from at (min until (at + length (cells_of e.layout))) until lt at_is refl frees cells h
    (ap (λ o. is_framed o from until cells) (sym is) ∙ told)

pub unknown_freed : (holds : Cells → Type 0) → Forgets holds → (o : Option Entry) (from until : ℕ) → o ≡ None → from < until → (cells : Cells) → holds cells
    → is_framed o from until cells ≡ true → holds (freed from until cells)
unknown_freed holds forgets o from until is lt cells h told =
    let at = min until (from + 2) in
    frame_freed holds holds forgets forgets [] from at at until lt refl (omega (arith, lt)) (frees_none holds at at until refl) cells h
    (ap (λ o. is_framed o from until cells) (sym is) ∙ told)

-- an operand of one cell
pub cell_cleared : {T E : Type 0} (result : Result T E) (before after : Cells → Type 0) (cell : ℕ) (o : Operand) (x : Cell) (text : Bool) → held_cells o ≡ x ∷ []
    → HoldsText text x
    → OnOk result ((from : ℕ) (cells : Cells) → from ≤ cell → before (freed from cell cells) → HoldsText text (cells (run_cell cell))
    → after (freed from (cell + 1) cells))
    → OnOk result ((from : ℕ) (cells : Cells) → from ≤ cell → before (freed from cell cells) → Stand cell (held_cells o) cells
    → after (freed from (cell + length (held_cells o)) cells))
cell_cleared (Err e) before after cell o x text is has freed' = tt
cell_cleared (Ok r) before after cell o x text is has freed' = λ from cells low h stand.
    let one : 1 ≡ length (held_cells o) = sym (ap length is) in
    let here : cell + 0 ≡ cell = omega arith in
    let there : cells (run_cell cell) ≡ x = ap (λ k. cells (run_cell k)) (sym here) ∙ stand 0 x (ap (λ l. slice_get l 0) is) in
    subst (λ n. after (freed from (cell + n) cells)) one (freed' from cells low h (subst (HoldsText text) (sym there) has))

-- cells as the tables say
abbrev told : Option CellUse → Cell
told None = Word 0
told (Some (HoldsValue kinds.Int)) = Word 0
told (Some (HoldsValue kinds.Truth)) = Word 0
told (Some (HoldsValue kinds.Text)) = Letters []
told (Some (HoldsValue kinds.Task)) = Word 0
told (Some (HoldsValue kinds.Space)) = Word 0
told (Some HoldsPlace) = Word 0

told_is : (k : CellUse) → is_of k (told (Some k)) ≡ true
told_is (HoldsValue kinds.Int) = refl
told_is (HoldsValue kinds.Truth) = refl
told_is (HoldsValue kinds.Text) = refl
told_is (HoldsValue kinds.Task) = refl
told_is (HoldsValue kinds.Space) = refl
told_is HoldsPlace = refl

abbrev pub as_told : List CellUse → ℕ → Cells
as_told ks at = λ a. told (slice_get ks (a.cell - at))

told_of : (n : ℕ) (ks : List CellUse) (at : ℕ) (cells : Cells) → ((k : ℕ) → cells (run_cell (at + k)) ≡ told (slice_get ks k)) → are_of ks at n cells ≡ true
told_of zero ks at cells is = refl
told_of (suc n) [] at cells is =
    let here : at ≡ at + 0 = omega arith in
    ap (λ x. is_word x && are_of [] (suc at) n cells) (ap (λ j. cells (run_cell j)) here ∙ is 0)
    ∙ told_of n [] (suc at) cells (λ k. let e : suc at + k ≡ at + suc k = omega arith in ap (λ j. cells (run_cell j)) e ∙ is (suc k))
told_of (suc n) (x ∷ ks) at cells is =
    let here : at ≡ at + 0 = omega arith in
    ap (λ y. is_of x y && are_of ks (suc at) n cells) (ap (λ j. cells (run_cell j)) here ∙ is 0)
    ∙ ap (λ b. b && are_of ks (suc at) n cells) (told_is x)
    ∙ told_of n ks (suc at) cells (λ k. let e : suc at + k ≡ at + suc k = omega arith in ap (λ j. cells (run_cell j)) e ∙ is (suc k))

pub told_framed : (ks : List CellUse) (at n : ℕ) → are_of ks at n (as_told ks at) ≡ true
told_framed ks at n = told_of n ks at (as_told ks at) (λ k. let e : at + k - at ≡ k = omega arith in ap (λ j. told (slice_get ks j)) e)
