-- What is known of the cells of an area, as its space changes.
use Rattle.std.proofs.Common.{◌≡◌, ◌≢◌, ◌⊎◌, ℕ, ◌+◌, ◌*◌, ◌/◌, ◌%◌, min, ◌<◌, ◌≤◌, Bool, true, false, cond, ◌==◌, List, [], length, Option, Some, None, inl, inr}
use Rattle.std.proofs.Common.{refl, sym, ap, ◌∙◌, subst, arith, ⊎_elim}
use Rattle.std.proofs.lemmas.Bool.{cases_lt}
use Rattle.std.proofs.lemmas.Bool.Decides.{eqb_tells}
use Rattle.std.specs.Option.{IsSome}
use Rattle.std.specs.Prelude.{◌&&◌}
use Rattle.eu_base.specs.declared.address.Area.{Area}
use Rattle.eu_base.specs.declared.address.Addr.{Addr}
use Rattle.eu_base.specs.declared.set.Set.{Set}
use Rattle.eu_base.specs.declared.set.Set.TheVariants.{Done, HeapFull}
use Rattle.eu_base.specs.Spaces.{Content, IsKept}
use Rattle.eu_base.specs.Room.{most_blocks}
use Rattle.eu_base.specs.Cells.{Cell, Free, Word, Letters, Cells, IsCell, area_cell, same_area, written, cell_blocks, area_blocks, HasText, Puts, Within}
use Rattle.eu_base.proofs.Places.{same_area_self}
use Rattle.cell_layout.specs.Layout.{cell_in, HoldsIn, IsKeptBut}
use Rattle.cell_layout.proofs.Numbers.{same_cell}
use Rattle.text_heap.specs.Blocks.{block_at, blocks_of, text_in, chain_in, chain, gather, length_in, first_in, times}
use Rattle.text_heap.specs.Texts.{Texts, Holds, Sets, KeepsCells, stored, part, size_of}
use Rattle.text_heap.specs.Texts as heap
use Rattle.text_heap.specs.Held.{text_of, texts_of, HoldsCells}
use Rattle.text_heap.proofs.Totals.{total_same, times_none}
use Rattle.text_heap.proofs.Chained.{chain_none, gather_none, chain_same, gather_same, same_used}
use Rattle.text_heap.proofs.Stored.{length_is, room}
use Rattle.text_heap.proofs.Zeros.{zeros_hold}

some_is : {A : Type 0} (a b : A) → Some a ≡ Some b → a ≡ b
some_is a b e = cc

-- the blocks of a known text are those of the map of texts
blocks_same : (x : Cell) → size_of (text_of x) ≡ cell_blocks x
blocks_same Free = refl
blocks_same (Word n) = refl
blocks_same (Letters t) = refl

all_blocks : (area : Area) (cells : Cells) → heap.blocks_in (texts_of area cells) ≡ area_blocks area cells
all_blocks area cells =
    total_same (λ c. size_of (texts_of area cells c)) (λ c. cell_blocks (cells (area_cell area c))) 16384 (λ c low. blocks_same (cells (area_cell area c)))

-- a space that did not change holds what it held
pub kept_held : (area : Area) (before now : Content) (cells : Cells) → IsKept before now → HoldsCells area before cells → HoldsCells area now cells
kept_held area before now cells same h = let content : before ≡ now = λ i n. sym (same n) i in subst (λ c. HoldsCells area c cells) content h

-- nothing is known of a cell of another area that was written
pub other_held : (area : Area) (content : Content) (cells : Cells) (at : Addr) (x : Cell) → same_area area at.area ≡ false → HoldsCells area content cells
    → HoldsCells area content (written cells at x)
other_held area content cells at x other h = record {
  words = λ c n low is. h.words c n low (sym (same c) ∙ is);
  texts = subst (Holds content) (λ i c. ap text_of (sym (same c)) i) h.texts;
}
  where
    same : (c : ℕ) → written cells at x (area_cell area c) ≡ cells (area_cell area c)
    same c = ap (λ b. cond (b && c == at.cell) x (cells (area_cell area c))) other

-- what is known of the cells of an area, where the same is said of those of another
pub moved_held : (area other : Area) (content : Content) (cells others : Cells) → ((c : ℕ) → others (area_cell other c) ≡ cells (area_cell area c))
    → HoldsCells area content cells → HoldsCells other content others
moved_held area other content cells others same h = record {
  words = λ c n low is. h.words c n low (sym (same c) ∙ is);
  texts = subst (Holds content) (λ i c. ap text_of (sym (same c)) i) h.texts;
}

-- of a space of zeros nothing need be known
pub zeros_held : (area : Area) (content : Content) → ((n : ℕ) → content n ≡ 0) → HoldsCells area content (λ _. Free)
zeros_held area content zero = record {
  words = λ c n low is. let f : ⊥ = cc in absurd f;
  texts = zeros_hold content zero (λ _. None) (λ c t is. let f : ⊥ = cc in absurd f);
}

-- an empty text has no blocks
none_there : (content : Content) (c k : ℕ) → length_in content c ≡ 0 → times k (chain_in content c) ≡ 0
none_there content c k e =
    ap (λ n. times k (chain content (first_in content c) (blocks_of n))) e ∙ ap (times k) (chain_none content (first_in content c)) ∙ times_none k

no_blocks : (n : ℕ) → blocks_of n ≡ 0 → n ≡ 0
no_blocks n e = omega (arith, e)

unpart : (content : Content) (texts : Texts) → Holds content texts → (c k : ℕ) (o : Option (List ℕ)) → c < 16384 → texts c ≡ o → size_of o ≡ 0
    → part content k c o ≡ 0
unpart content texts h c k None low is none = refl
unpart content texts h c k (Some t) low is none =
    none_there content c k (length_is content texts h c t low is c t low is ∙ no_blocks (length t) none)

-- cells without blocks may be forgotten
abbrev Less : Cell → Cell → Type 0
Less fewer known = (fewer ≡ known) ⊎ ((fewer ≡ Free) × (cell_blocks known ≡ 0))

fewer_there : (area : Area) (content : Content) (cells fewer : Cells) → HoldsCells area content cells
    → ((c : ℕ) → Less (fewer (area_cell area c)) (cells (area_cell area c))) → HoldsCells area content fewer
fewer_there area content cells fewer h within = record {
  words = λ c n low is. ⊎_elim (λ e. h.words c n low (sym e ∙ is)) (λ e. let f : Word n ≡ Free = sym is ∙ e.0 in let g : ⊥ = cc in absurd g) (within c);
  texts = record {
    each = λ c t low is. ⊎_elim (λ e. h.texts.each c t low (ap text_of (sym e) ∙ is))
        (λ e. let f : Some t ≡ None = sym is ∙ ap text_of e.0 in let g : ⊥ = cc in absurd g) (within c);
    sound = λ k under.
        total_same (λ c. part content k c (texts_of area fewer c)) (λ c. part content k c (texts_of area cells c)) 16384 (λ c low. ⊎_elim
        (λ e. ap (λ x. part content k c (text_of x)) e)
        (λ e. ap (λ x. part content k c (text_of x)) e.0
        ∙ sym (unpart content (texts_of area cells) h.texts c k (texts_of area cells c) low refl (blocks_same (cells (area_cell area c)) ∙ e.1)))
        (within c))
        ∙ h.texts.sound k under;
  };
}

pub fewer_held : (area : Area) (content : Content) (cells fewer : Cells) → HoldsCells area content cells → Within fewer cells → HoldsCells area content fewer
fewer_held area content cells fewer h within = fewer_there area content cells fewer h (λ c. within (area_cell area c))

-- what is known of a cell that was written, and of another
written_at : (area : Area) (cells : Cells) (at : ℕ) (x : Cell) (c : ℕ)
    → written cells (area_cell area at) x (area_cell area c) ≡ cond (c == at) x (cells (area_cell area c))
written_at area cells at x c = ap (λ (b : Bool). cond (b && c == at) x (cells (area_cell area c))) (same_area_self area)

there : (area : Area) (cells : Cells) (at : ℕ) (x : Cell) (c : ℕ) → c ≡ at → written cells (area_cell area at) x (area_cell area c) ≡ x
there area cells at x c e =
    written_at area cells at x c ∙ ap (λ b. cond b x (cells (area_cell area c))) (⊎_elim (λ t. t.0) (λ t. absurd (t.1 e)) (eqb_tells c at))

else : (area : Area) (cells : Cells) (at : ℕ) (x : Cell) (c : ℕ) → c ≢ at → written cells (area_cell area at) x (area_cell area c) ≡ cells (area_cell area c)
else area cells at x c ne =
    written_at area cells at x c ∙ ap (λ b. cond b x (cells (area_cell area c))) (⊎_elim (λ t. absurd (ne t.1)) (λ t. t.0) (eqb_tells c at))

module _ (area : Area) (content : Content) (cells : Cells) (at : ℕ) (low : at < 16384) (h : HoldsCells area content cells)
    (is : cells (area_cell area at) ≡ Word 0) where
  abbrev with_empty : Cells
  with_empty = written cells (area_cell area at) (Letters [])

  nothing : length_in content at ≡ 0
  nothing = let zero = h.words at 0 low is in omega (arith, zero)

  empty_there : HoldsCells area content with_empty
  empty_there = record {
    words = λ c n lt e. ⊎_elim
        (λ t. let f : Letters [] ≡ Word n = sym (there area cells at (Letters []) c t.1) ∙ e in let g : ⊥ = cc in absurd g)
        (λ t. h.words c n lt (sym (else area cells at (Letters []) c t.1) ∙ e)) (eqb_tells c at);
    texts = record {
      each = λ c t lt e. ⊎_elim
          (λ y.
          let same : [] ≡ t = some_is [] t (ap text_of (sym (there area cells at (Letters []) c y.1)) ∙ e) in
          ap (text_in content) y.1 ∙ ap (λ n. gather content (first_in content at) n (blocks_of n)) nothing
          ∙ gather_none content (first_in content at) 0 ∙ same)
          (λ y. h.texts.each c t lt (ap text_of (sym (else area cells at (Letters []) c y.1)) ∙ e)) (eqb_tells c at);
      sound = λ k under.
          total_same (λ c. part content k c (texts_of area with_empty c)) (λ c. part content k c (texts_of area cells c)) 16384 (λ c lt. ⊎_elim
          (λ y.
          let a : part content k c (texts_of area with_empty c) ≡ times k (chain_in content c) =
          ap (λ x. part content k c (text_of x)) (there area cells at (Letters []) c y.1) in
          let b : times k (chain_in content c) ≡ 0 = ap (λ d. times k (chain_in content d)) y.1 ∙ none_there content at k nothing in
          let d : part content k c (texts_of area cells c) ≡ 0 =
          ap (λ x. part content k c (text_of x)) (ap (λ c. cells (area_cell area c)) y.1 ∙ is) in
          a ∙ b ∙ sym d)
          (λ y. ap (λ x. part content k c (text_of x)) (else area cells at (Letters []) c y.1)) (eqb_tells c at))
          ∙ h.texts.sound k under;
    };
  }

-- the number 0 is the text ""
pub empty_held : (content : Content) (cells : Cells) (at : Addr) → IsCell at → HoldsCells at.area content cells → cells at ≡ Word 0
    → HoldsCells at.area content (written cells at (Letters []))
empty_held content cells at low h is = empty_there at.area content cells at.cell low h is

module _ (area : Area) (before now : Content) (cells : Cells) (at n : ℕ) (low : at < 16384) (h : HoldsCells area before cells)
    (none : cell_blocks (cells (area_cell area at)) ≡ 0)
    (put : HoldsIn before now at n) (kept : IsKeptBut before now at 1) where
  abbrev fewer : Cells
  fewer = written cells (area_cell area at) Free

  abbrev with_word : Cells
  with_word = written cells (area_cell area at) (Word n)

  within : (c : ℕ) → Less (fewer (area_cell area c)) (cells (area_cell area c))
  within c = ⊎_elim (λ t. inr (there area cells at Free c t.1, ap (λ c. cell_blocks (cells (area_cell area c))) t.1 ∙ none))
      (λ t. inl (else area cells at Free c t.1)) (eqb_tells c at)

  less : HoldsCells area before fewer
  less = fewer_there area before cells fewer h within

  same_block : (j off : ℕ) → off < 32 → now (block_at j + off) ≡ before (block_at j + off)
  same_block j off in_it = kept (block_at j + off) (inr (omega (arith, low)))

  number : (c : ℕ) → c ≢ at → cell_in now c ≡ cell_in before c
  number c ne = put c ∙ ap (λ b. cond b n (cell_in before c)) (⊎_elim (λ t. absurd (ne t.1)) (λ t. t.0) (eqb_tells c at))

  text_same : (c : ℕ) → c ≢ at → text_in now c ≡ text_in before c
  text_same c ne =
      ap (λ x. gather now (x / 4294967296 % 4096) (min (x % 4294967296) 114688) (blocks_of (min (x % 4294967296) 114688))) (number c ne)
      ∙ gather_same before now (first_in before c) (length_in before c) (blocks_of (length_in before c)) (λ j among off in_it read. same_block j off in_it)

  chain_kept : (c : ℕ) → c ≢ at → chain_in now c ≡ chain_in before c
  chain_kept c ne =
      ap (λ x. chain now (x / 4294967296 % 4096) (blocks_of (min (x % 4294967296) 114688))) (number c ne)
      ∙ chain_same before now (first_in before c) (blocks_of (length_in before c)) (λ j among off in_it read. same_block j off in_it)

  part_same : (k c : ℕ) (o : Option (List ℕ)) → c ≢ at → part now k c o ≡ part before k c o
  part_same k c None ne = refl
  part_same k c (Some t) ne = ap (times k) (chain_kept c ne)

  here : (c : ℕ) → c ≡ at → text_of (with_word (area_cell area c)) ≡ None
  here c e = ap text_of (there area cells at (Word n) c e)

  gone : (c : ℕ) → c ≡ at → text_of (fewer (area_cell area c)) ≡ None
  gone c e = ap text_of (there area cells at Free c e)

  other : (c : ℕ) → c ≢ at → text_of (with_word (area_cell area c)) ≡ text_of (fewer (area_cell area c))
  other c ne = ap text_of (else area cells at (Word n) c ne ∙ sym (else area cells at Free c ne))

  word_is : (m : ℕ) → Word n ≡ Word m → n ≡ m
  word_is m e = cc

  word_there : HoldsCells area now with_word
  word_there = record {
    words = λ c m lt e. ⊎_elim
        (λ t.
        let same : n ≡ m = word_is m (sym (there area cells at (Word n) c t.1) ∙ e) in
        put c ∙ ap (λ b. cond b n (cell_in before c)) t.0 ∙ same)
        (λ t. number c t.1 ∙ h.words c m lt (sym (else area cells at (Word n) c t.1) ∙ e)) (eqb_tells c at);
    texts = record {
      each = λ c t lt e. ⊎_elim (λ y. let f : None ≡ Some t = sym (here c y.1) ∙ e in let g : ⊥ = cc in absurd g)
          (λ y. text_same c y.1 ∙ less.texts.each c t lt (sym (other c y.1) ∙ e)) (eqb_tells c at);
      sound = λ k under.
          total_same (λ c. part now k c (texts_of area with_word c)) (λ c. part before k c (texts_of area fewer c)) 16384 (λ c lt. ⊎_elim
          (λ y. ap (part now k c) (here c y.1) ∙ sym (ap (part before k c) (gone c y.1)))
          (λ y. ap (part now k c) (other c y.1) ∙ part_same k c (text_of (fewer (area_cell area c))) y.1) (eqb_tells c at))
          ∙ less.texts.sound k under ∙ sym (same_used before now k (λ off in_it read. same_block k off in_it));
    };
  }

-- a number was put into a cell without blocks
pub word_held : (before now : Content) (cells : Cells) (at : Addr) (n : ℕ) → IsCell at → HoldsCells at.area before cells → cell_blocks (cells at) ≡ 0
    → HoldsIn before now at.cell n → IsKeptBut before now at.cell 1 → HoldsCells at.area now (written cells at (Word n))
word_held before now cells at n low h none put kept = word_there at.area before now cells at.cell n low h none put kept

-- the text that was read is the one that is known
pub text_read : (content : Content) (cells : Cells) (at : Addr) (text t : List ℕ)
    → ((texts : Texts) → Holds content texts → IsSome (texts at.cell) → texts at.cell ≡ Some text) → HoldsCells at.area content cells → cells at ≡ Letters t
    → text ≡ t
text_read content cells at text t found h is =
    let known : texts_of at.area cells at.cell ≡ Some t = ap text_of is in
    some_is text t (sym (found (texts_of at.area cells) h.texts (subst (λ o. IsSome o) (sym known) refl)) ∙ known)

-- a text was put in the place of another
texts_written : (area : Area) (cells : Cells) (at : ℕ) (t : List ℕ)
    → stored (texts_of area cells) at t ≡ texts_of area (written cells (area_cell area at) (Letters t))
texts_written area cells at t i c = pointwise c i
  where
    by : (b : Bool) (x : Cell) → cond b (Some t) (text_of x) ≡ text_of (cond b (Letters t) x)
    by true x = refl
    by false x = refl

    pointwise : (c : ℕ) → stored (texts_of area cells) at t c ≡ texts_of area (written cells (area_cell area at) (Letters t)) c
    pointwise c = by (c == at) (cells (area_cell area c)) ∙ ap text_of (sym (written_at area cells at (Letters t) c))

module _ (area : Area) (before now : Content) (cells : Cells) (at : ℕ) (t : List ℕ) (low : at < 16384) (h : HoldsCells area before cells)
    (has : HasText (cells (area_cell area at))) (kept : KeepsCells before now at) where
  abbrev with_text : Cells
  with_text = written cells (area_cell area at) (Letters t)

  all_then : heap.blocks_in (stored (texts_of area cells) at t) ≡ area_blocks area with_text
  all_then = ap heap.blocks_in (texts_written area cells at t) ∙ all_blocks area with_text

  apart : (c k : ℕ) → c ≢ at → k < 8 → (8 * c + k < 8 * at) ⊎ (8 * at + 8 ≤ 8 * c + k)
  apart c k ne in_it = grind (arith, ne)

  put_there : (set : Set) → ((texts : Texts) → Holds before texts → IsSome (texts at) → Sets before now texts at t set)
      → Puts (HoldsCells area now) cells (area_cell area at) t set
  put_there Done sets =
      let x = sets (texts_of area cells) h.texts (subst (λ c. IsSome (text_of c)) (sym has.is) refl) in (
        subst (λ n. n ≤ most_blocks) all_then x.0,
        record {
          words = λ c n lt e. ⊎_elim
              (λ y. let f : Letters t ≡ Word n = sym (there area cells at (Letters t) c y.1) ∙ e in let g : ⊥ = cc in absurd g)
              (λ y.
              same_cell before now c (λ k in_it. kept (8 * c + k) (omega (arith, lt, in_it)) (apart c k y.1 in_it))
              ∙ h.words c n lt (sym (else area cells at (Letters t) c y.1) ∙ e)) (eqb_tells c at);
          texts = subst (Holds now) (texts_written area cells at t) x.1;
        },
      )
  put_there HeapFull sets =
      let x = sets (texts_of area cells) h.texts (subst (λ c. IsSome (text_of c)) (sym has.is) refl) in
      (subst (λ n. most_blocks < n) all_then x.0, kept_held area before now cells x.1 h)

pub text_held : (before now : Content) (cells : Cells) (at : Addr) (t : List ℕ) (set : Set) → IsCell at → HoldsCells at.area before cells
    → HasText (cells at) → ((texts : Texts) → Holds before texts → IsSome (texts at.cell) → Sets before now texts at.cell t set)
    → KeepsCells before now at.cell → Puts (HoldsCells at.area now) cells at t set
text_held before now cells at t set low h has sets kept = put_there at.area before now cells at.cell t low h has kept set sets

-- all texts together have room
pub room_held : (area : Area) (content : Content) (cells : Cells) → HoldsCells area content cells → area_blocks area cells ≤ most_blocks
room_held area content cells h = let a = room content (texts_of area cells) h.texts in let b = all_blocks area cells in omega (arith, a, b)

-- the blocks that are free are those that no known text has
pub rooms_left : (area : Area) (content : Content) (cells : Cells) (rooms : ℕ)
    → ((texts : Texts) → Holds content texts → rooms + heap.blocks_in texts ≡ most_blocks) → HoldsCells area content cells
    → rooms + area_blocks area cells ≡ most_blocks
rooms_left area content cells rooms left h = let a = left (texts_of area cells) h.texts in let b = all_blocks area cells in omega (arith, a, b)

-- ---- the first cells of a space got the values that cells hold before anything was stored

-- a cell holds the number 0, or the text ""
abbrev pub IsBlankCell : Cell → Type 0
IsBlankCell x = (x ≡ Word 0) ⊎ (x ≡ Letters [])

module _ (area : Area) (before now : Content) (cells after : Cells) (count : ℕ) (few : count ≤ 16384) (h : HoldsCells area before cells)
    (bare : (c : ℕ) → c < count → cell_blocks (cells (area_cell area c)) ≡ 0) (zero : (c : ℕ) → c < count → cell_in now c ≡ 0)
    (blank : (c : ℕ) → c < count → IsBlankCell (after (area_cell area c)))
    (rest : (c : ℕ) → count ≤ c → after (area_cell area c) ≡ cells (area_cell area c)) (kept : IsKeptBut before now 0 count) where
  block_kept : (j off : ℕ) → off < 32 → now (block_at j + off) ≡ before (block_at j + off)
  block_kept j off in_it = kept (block_at j + off) (inr (omega (arith, few)))

  cell_kept : (c : ℕ) → count ≤ c → cell_in now c ≡ cell_in before c
  cell_kept c past = same_cell before now c (λ k in_it. kept (8 * c + k) (inr (omega (arith, past))))

  text_kept : (c : ℕ) → count ≤ c → text_in now c ≡ text_in before c
  text_kept c past =
      ap (λ x. gather now (x / 4294967296 % 4096) (min (x % 4294967296) 114688) (blocks_of (min (x % 4294967296) 114688))) (cell_kept c past)
      ∙ gather_same before now (first_in before c) (length_in before c) (blocks_of (length_in before c)) (λ j among off in_it read. block_kept j off in_it)

  chain_still : (c : ℕ) → count ≤ c → chain_in now c ≡ chain_in before c
  chain_still c past =
      ap (λ x. chain now (x / 4294967296 % 4096) (blocks_of (min (x % 4294967296) 114688))) (cell_kept c past)
      ∙ chain_same before now (first_in before c) (blocks_of (length_in before c)) (λ j among off in_it read. block_kept j off in_it)

  part_kept : (k c : ℕ) (o : Option (List ℕ)) → count ≤ c → part now k c o ≡ part before k c o
  part_kept k c None past = refl
  part_kept k c (Some t) past = ap (times k) (chain_still c past)

  none_long : (c : ℕ) → c < count → length_in now c ≡ 0
  none_long c low = let z = zero c low in omega (arith, z)

  zero_word : (n : ℕ) → Word 0 ≡ Word n → 0 ≡ n
  zero_word n e = cc

  blank_word : (c n : ℕ) → c < count → after (area_cell area c) ≡ Word n → IsBlankCell (after (area_cell area c)) → cell_in now c ≡ n
  blank_word c n low is (inl e) = zero c low ∙ zero_word n (sym e ∙ is)
  blank_word c n low is (inr e) = let f : Letters [] ≡ Word n = sym e ∙ is in let g : ⊥ = cc in absurd g

  blank_text : (c : ℕ) (t : List ℕ) → c < count → text_of (after (area_cell area c)) ≡ Some t → IsBlankCell (after (area_cell area c)) → text_in now c ≡ t
  blank_text c t low is (inl e) = let f : None ≡ Some t = sym (ap text_of e) ∙ is in let g : ⊥ = cc in absurd g
  blank_text c t low is (inr e) =
      ap (λ n. gather now (first_in now c) n (blocks_of n)) (none_long c low) ∙ gather_none now (first_in now c) 0
      ∙ some_is [] t (sym (ap text_of e) ∙ is)

  blank_part : (k c : ℕ) (o : Option (List ℕ)) → c < count → part now k c o ≡ 0
  blank_part k c None low = refl
  blank_part k c (Some t) low = none_there now c k (none_long c low)

  bare_part : (k c : ℕ) → c < count → c < 16384 → part before k c (texts_of area cells c) ≡ 0
  bare_part k c low under =
      unpart before (texts_of area cells) h.texts c k (texts_of area cells c) under refl (blocks_same (cells (area_cell area c)) ∙ bare c low)

  pub blank_held : HoldsCells area now after
  blank_held = record {
    words = λ c n low is. ⊎_elim (λ under. blank_word c n under is (blank c under))
        (λ past. cell_kept c past ∙ h.words c n low (sym (rest c past) ∙ is)) (cases_lt c count);
    texts = record {
      each = λ c t low is. ⊎_elim (λ under. blank_text c t under is (blank c under))
          (λ past. text_kept c past ∙ h.texts.each c t low (sym (ap text_of (rest c past)) ∙ is)) (cases_lt c count);
      sound = λ k under.
          total_same (λ c. part now k c (texts_of area after c)) (λ c. part before k c (texts_of area cells c)) 16384 (λ c low. ⊎_elim
          (λ first. blank_part k c (texts_of area after c) first ∙ sym (bare_part k c first low))
          (λ past. ap (part now k c) (ap text_of (rest c past)) ∙ part_kept k c (texts_of area cells c) past) (cases_lt c count))
          ∙ h.texts.sound k under ∙ sym (same_used before now k (λ off in_it read. block_kept k off in_it));
    };
  }
