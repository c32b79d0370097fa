-- Texts that are put into free blocks.
use Rattle.std.proofs.Common.{◌≡◌, ◌≢◌, ◌⊎◌, ℕ, zero, suc, ◌+◌, ◌-◌, ◌*◌, ◌/◌, ◌%◌, ◌<◌, ◌≤◌, min, List, [], ◌∷◌, ◌++◌, length, take, drop}
use Rattle.std.proofs.Common.{inl, inr, refl, sym, ap, ◌∙◌, subst, arith, ⊎_elim}
use Rattle.std.proofs.lemmas.Bool.{cases_eq}
use Rattle.std.proofs.lemmas.List.{length-append, length-drop, length-take-le, take-append-drop}
use Rattle.std.proofs.Math.ListN.{drop_of_length-le}
use Rattle.eu_base.specs.Spaces.{Content}
use Rattle.text_heap.specs.Blocks.{block_at, hint_at, met, link_in, next_in, used_in, bytes_from, chain, gather, blocks_of, times, KeptBut, Fills}
use Rattle.text_heap.specs.Chains.{Filled, SameBlock}
use Rattle.text_heap.proofs.Totals.{one_same, one_other, times_more, times_none}
use Rattle.text_heap.proofs.Chained.{chain_more, chain_none, chain_same, gather_more, gather_none, gather_same, same_used}
use Rattle.text_heap.proofs.Pieces.{free_met, met_more}
use Rattle.text_heap.proofs.Freed.{other_block, cells_kept}

-- the blocks of a text that stands from one on
abbrev pub blocks_from : Content → ℕ → List ℕ → List ℕ
blocks_from content first t = chain content first (blocks_of (length t))

-- a text stands in blocks that a search has met, and in none that it is still to meet
pub record Filling (before now : Content) (from count first : ℕ) (t : List ℕ) : Type 0 where
  pub filled : Filled before now first t
  pub ahead : (k : ℕ) → count ≤ k → k < 4096 → times (met from k) (blocks_from now first t) ≡ 0

no_blocks : (content : Content) (first j : ℕ) → times j (blocks_from content first []) ≡ 0
no_blocks content first j = ap (times j) (chain_none content first) ∙ times_none j

pub none_filled : (content : Content) (first : ℕ) → Filled content content first []
none_filled content first = record {
  text = gather_none content first 0;
  used = λ j. let e = no_blocks content first j in omega (arith, e);
  same = λ j none off low read. refl;
  cells = λ n low. refl;
}

pub none_filling : (content : Content) (from count first : ℕ) → Filling content content from count first []
none_filling content from count first = record { filled = none_filled content first; ahead = λ k past low. no_blocks content first (met from k) }

pub passed : (before now : Content) (from k m first : ℕ) (t : List ℕ) → k ≤ m → Filling before now from k first t → Filling before now from m first t
passed before now from k m first t le f = record { filled = f.filled; ahead = λ j past low. f.ahead j (omega (arith, le, past)) low }

-- the hint is no part of a text
hint_apart : (before now : Content) (j : ℕ) → KeptBut before now hint_at 2 → SameBlock before now j
hint_apart before now j kept off low (inl link) = kept (block_at j + off) (grind (arith, link))
hint_apart before now j kept off low (inr bytes) = kept (block_at j + off) (inr (omega (arith, bytes)))

pub hinted : (before now later : Content) (first : ℕ) (t : List ℕ) → Filled before now first t → KeptBut now later hint_at 2 → Filled before later first t
hinted before now later first t f kept =
    let same : (j : ℕ) → SameBlock now later j = λ j. hint_apart now later j kept in
    let n = blocks_of (length t) in
    let blocks : blocks_from later first t ≡ blocks_from now first t = chain_same now later first n (λ j among. same j) in
    record {
      text = gather_same now later first (length t) n (λ j among. same j) ∙ f.text;
      used = λ j. let a = same_used now later j (same j) in let b = ap (times j) blocks in let c = f.used j in omega (arith, a, b, c);
      same = λ j none off low read. same j off low read ∙ f.same j (let b = ap (times j) blocks in omega (arith, b, none)) off low read;
      cells = λ m under. kept m (inl (omega (arith, under))) ∙ f.cells m under;
    }

one_more : (p m : ℕ) → 1 ≤ p → p ≤ 28 → (p ≡ 28) ⊎ (m ≡ 0) → blocks_of (p + m) ≡ suc (blocks_of m)
one_more p m some few (inl e) = omega (arith, e)
one_more p m some few (inr e) = omega (arith, e, some, few)

size_here : (p m : ℕ) → p ≤ 28 → (p ≡ 28) ⊎ (m ≡ 0) → min (p + m) 28 ≡ p
size_here p m few (inl e) = omega (arith, e)
size_here p m few (inr e) = omega (arith, e, few)

left_here : (p m : ℕ) → p ≤ 28 → (p ≡ 28) ⊎ (m ≡ 0) → p + m - 28 ≡ m
left_here p m few (inl e) = omega (arith, e)
left_here p m few (inr e) = omega (arith, e, few)

-- a free block is filled with the bytes before a text
module _ (before now later : Content) (k first : ℕ) (text piece : List ℕ) (low : first < 4096) (f : Filled before now first text)
    (not_yet : times k (blocks_from now first text) ≡ 0) (free : link_in now k ≡ 0) (h : Fills now later k first piece)
    (some : 1 ≤ length piece) (few : length piece ≤ 28) (whole : (length piece ≡ 28) ⊎ (length text ≡ 0)) where
  long : length (piece ++ text) ≡ length piece + length text
  long = length-append piece text

  size : blocks_of (length (piece ++ text)) ≡ suc (blocks_of (length text))
  size = ap blocks_of long ∙ one_more (length piece) (length text) some few whole

  other : (j : ℕ) → j ≢ k → SameBlock now later j
  other j ne = other_block now later k 32 j (omega arith) h.kept ne

  along : (j : ℕ) → 1 ≤ times j (blocks_from now first text) → SameBlock now later j
  along j among = other j (λ e.
      let z : times j (blocks_from now first text) ≡ 0 = ap (λ i. times i (blocks_from now first text)) e ∙ not_yet in
      absurd (omega (arith, z, among)))

  goes : next_in later k ≡ first
  goes = let l = h.link in omega (arith, l, low)

  -- it is the first of the blocks now
  pub grown : blocks_from later k (piece ++ text) ≡ k ∷ blocks_from now first text
  grown =
      ap (chain later k) size ∙ chain_more later k (blocks_of (length text)) ∙ ap (λ x. k ∷ chain later x (blocks_of (length text))) goes
      ∙ ap (λ xs. k ∷ xs) (chain_same now later first (blocks_of (length text)) along)

  counts : (j : ℕ) → times j (blocks_from later k (piece ++ text)) ≡ times j (k ∷ blocks_from now first text)
  counts j = ap (times j) grown

  pub fills : Filled before later k (piece ++ text)
  fills = record {
    text =
        ap (gather later k (length (piece ++ text))) size
        ∙ ap (λ m. gather later k m (suc (blocks_of (length text)))) long
        ∙ gather_more later k (length piece + length text) (blocks_of (length text))
        ∙ ap (λ m. bytes_from later (block_at k + 4) m ++ gather later (next_in later k) (length piece + length text - 28) (blocks_of (length text)))
        (size_here (length piece) (length text) few whole)
        ∙ ap (λ bs. bs ++ gather later (next_in later k) (length piece + length text - 28) (blocks_of (length text))) h.bytes
        ∙ ap (λ x. piece ++ gather later x (length piece + length text - 28) (blocks_of (length text))) goes
        ∙ ap (λ m. piece ++ gather later first m (blocks_of (length text))) (left_here (length piece) (length text) few whole)
        ∙ ap (λ bs. piece ++ bs) (gather_same now later first (length text) (blocks_of (length text)) along ∙ f.text);
    used = λ j. elim (cases_eq j k) [
      | inl e ↦
          let a = one_same j k e in
          let b = counts j ∙ times_more j k (blocks_from now first text) in
          let c : used_in later j ≡ used_in later k = ap (used_in later) e in
          let d : used_in before j ≡ used_in before k = ap (used_in before) e in
          let g : times j (blocks_from now first text) ≡ 0 = ap (λ i. times i (blocks_from now first text)) e ∙ not_yet in
          let l = h.link in
          let u = f.used k in
          omega (arith, a, b, c, d, g, l, u, not_yet, free)
      | inr ne ↦
          let a = one_other j k ne in
          let b = counts j ∙ times_more j k (blocks_from now first text) in
          let c = same_used now later j (other j ne) in
          let u = f.used j in
          omega (arith, a, b, c, u)
    ];
    same = λ j none off in_it read.
        let b = counts j ∙ times_more j k (blocks_from now first text) in
        let ne : j ≢ k = λ e. let a = one_same j k e in absurd (omega (arith, a, b, none)) in
        other j ne off in_it read ∙ f.same j (omega (arith, b, none)) off in_it read;
    cells = λ m under. cells_kept now later k 32 m h.kept under ∙ f.cells m under;
  }

drop_drop : {A : Type 0} (l : List A) (n m : ℕ) → drop m (drop n l) ≡ drop (n + m) l
drop_drop l zero m = let e : m ≡ 0 + m = omega arith in ap (λ k. drop k l) e
drop_drop [] (suc n) m = drop_of_length-le [] {i = m} (omega arith) ∙ sym (drop_of_length-le [] {i = suc n + m} (omega arith))
drop_drop (x ∷ l) (suc n) m = let e : suc (n + m) ≡ suc n + m = omega arith in drop_drop l n m ∙ ap (λ k. drop k (x ∷ l)) e

piece_long : (left from n : ℕ) → 1 ≤ left → from ≡ (left - 1) / 28 * 28 → (left % 28 ≡ 0) ⊎ (left ≡ n) → (left - from ≡ 28) ⊎ (n - left ≡ 0)
piece_long left from n some is (inl e) = inl (omega (arith, some, is, e))
piece_long left from n some is (inr e) = inr (omega (arith, e))

split : (t : List ℕ) (left from : ℕ) → from ≤ left → drop from t ≡ take (left - from) (drop from t) ++ drop left t
split t left from le =
    let e : from + (left - from) ≡ left = omega (arith, le) in
    sym (take-append-drop (left - from) (drop from t)) ∙ ap (λ l. take (left - from) (drop from t) ++ l) (drop_drop t from (left - from) ∙ ap (λ k. drop k t) e)

-- one piece more of a text is put into a block
module _ (before now : Content) (from k first : ℕ) (t : List ℕ) (left start : ℕ) (some : 1 ≤ left) (within : left ≤ length t)
    (whole : (left % 28 ≡ 0) ⊎ (left ≡ length t)) (start_is : start ≡ (left - 1) / 28 * 28) (under : k < 4096)
    (f : Filling before now from k first (drop left t)) (free : link_in now (met from k) ≡ 0) where
  pub spread_step : (later : Content) → first < 4096 → Fills now later (met from k) first (take (left - start) (drop start t))
      → Filling before later from (suc k) (met from k) (drop start t)
  spread_step later low h =
      let size : length (take (left - start) (drop start t)) ≡ left - start =
      length-take-le (left - start) (drop start t) (omega (arith, length-drop start t, within)) in
      let rest : length (drop left t) ≡ length t - left = length-drop left t in
      let long : (length (take (left - start) (drop start t)) ≡ 28) ⊎ (length (drop left t) ≡ 0) =
      ⊎_elim (λ e. inl (omega (arith, e, size))) (λ e. inr (omega (arith, e, rest))) (piece_long left start (length t) some start_is whole) in
      let all : drop start t ≡ take (left - start) (drop start t) ++ drop left t = split t left start (omega (arith, start_is)) in
      let not_yet = f.ahead k (omega arith) under in
      let one : 1 ≤ length (take (left - start) (drop start t)) = omega (arith, size, start_is, some) in
      let few : length (take (left - start) (drop start t)) ≤ 28 = omega (arith, size, start_is, some) in
      let blocks = grown before now later (met from k) first (drop left t) (take (left - start) (drop start t)) low f.filled not_yet free h one few long in
      subst (Filling before later from (suc k) (met from k)) (sym all) (record {
        filled = fills before now later (met from k) first (drop left t) (take (left - start) (drop start t)) low f.filled not_yet free h one few long;
        ahead = λ j past lt.
            let a = one_other (met from j) (met from k) (λ e. absurd (omega (arith, e, past, lt))) in
            let b = ap (times (met from j)) blocks ∙ times_more (met from j) (met from k) (blocks_from now first (drop left t)) in
            let c = f.ahead j (omega (arith, past)) lt in
            omega (arith, a, b, c);
      })

  -- and is counted
  pub count_step : blocks_of (length t - left) ≡ free_met before from k → blocks_of (length t - start) ≡ free_met before from (k + 1)
  count_step count =
      let used = f.filled.used (met from k) in
      let ahead = f.ahead k (omega arith) under in
      let more = met_more before from k in
      let e : left - start + (length t - left) ≡ length t - start = omega (arith, start_is, within) in
      let one = one_more (left - start) (length t - left) (omega (arith, start_is, some)) (omega (arith, start_is, some))
      (piece_long left start (length t) some start_is whole) in
      ap blocks_of (sym e) ∙ one ∙ omega (arith, used, ahead, more, free, count)

-- a used block is passed
pub count_passed : (before now : Content) (from k first : ℕ) (t : List ℕ) (n : ℕ) → k < 4096 → Filling before now from k first t
    → (link_in now (met from k) ≡ 0 → ⊥) → n ≡ free_met before from k → n ≡ free_met before from (k + 1)
count_passed before now from k first t n under f used count =
    let u = f.filled.used (met from k) in
    let ahead = f.ahead k (omega arith) under in
    let more = met_more before from k in
    let some : 1 ≤ link_in now (met from k) = grind (arith, used) in
    omega (arith, u, ahead, more, some, count)

-- where bytes are left, the free blocks that were filled are fewer than the text takes
pub too_few : (left n free : ℕ) → 1 ≤ left → left ≤ n → (left % 28 ≡ 0) ⊎ (left ≡ n) → blocks_of (n - left) ≡ free → free < blocks_of n
too_few left n free some within (inl e) is = omega (arith, some, within, e, is)
too_few left n free some within (inr e) is = omega (arith, some, within, e, is)
