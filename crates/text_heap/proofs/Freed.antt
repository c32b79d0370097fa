-- Blocks that were freed.
use Rattle.std.proofs.Common.{◌≡◌, ◌≢◌, ℕ, zero, suc, ◌+◌, ◌<◌, ◌≤◌, List, inl, inr, refl, ap, ◌∙◌, arith}
use Rattle.std.proofs.lemmas.Bool.{cases_eq}
use Rattle.eu_base.specs.Spaces.{Content}
use Rattle.text_heap.specs.Blocks.{block_at, next_in, used_in, chain, times, KeptBut}
use Rattle.text_heap.specs.Chains.{Releases, SameBlock}
use Rattle.text_heap.proofs.Totals.{one, one_same, one_other, times_more, times_none}
use Rattle.text_heap.proofs.Chained.{chain_more, chain_none, chain_same, same_used}

-- a change within one block leaves the others
pub other_block : (before now : Content) (k count j : ℕ) → count ≤ 32 → KeptBut before now (block_at k) count → j ≢ k → SameBlock before now j
other_block before now k count j few kept ne off low part = kept (block_at j + off) (grind arith)

pub cells_kept : (before now : Content) (k count n : ℕ) → KeptBut before now (block_at k) count → n < 131072 → now n ≡ before n
cells_kept before now k count n kept low = kept n (inl (omega (arith, low)))

-- the blocks of a chain were freed, and nothing else changed
pub record Freed (before now : Content) (blocks : List ℕ) : Type 0 where
  pub used : (j : ℕ) → used_in now j + times j blocks ≡ used_in before j
  pub same : (j : ℕ) → times j blocks ≡ 0 → SameBlock before now j
  pub cells : (n : ℕ) → n < 131072 → now n ≡ before n

-- where each of its blocks is used, and stands there once
pub freed : (n : ℕ) (before now : Content) (k : ℕ) → ((j : ℕ) → times j (chain before k n) ≤ used_in before j)
    → Releases before now k n → Freed before now (chain before k n)
unfolding Releases
freed zero before now k once h = record {
  used = λ j.
      let e = ap (times j) (chain_none before k) ∙ times_none j in
      let f : used_in now j ≡ used_in before j = ap (λ (c : Content). used_in c j) h in
      omega (arith, e, f);
  same = λ j none off low part. ap (λ (c : Content). c (block_at j + off)) h;
  cells = λ n low. ap (λ (c : Content). c n) h;
}
freed (suc n) before now k once h =
    let middle = h.0 in
    let frees = h.1.0 in
    let x = next_in before k in
    let counts = λ (j : ℕ). ap (times j) (chain_more before k n) ∙ times_more j k (chain before x n) in
    let apart : times k (chain before x n) ≡ 0 = let a = once k in let b = counts k in let c = one_same k k refl in omega (arith, a, b, c) in
    let others : (j : ℕ) → j ≢ k → SameBlock before middle j = λ j ne. other_block before middle k 2 j (omega arith) frees.kept ne in
    let along : (j : ℕ) → 1 ≤ times j (chain before x n) → SameBlock before middle j = λ j among. others j (λ e.
    let f : times j (chain before x n) ≡ 0 = ap (λ i. times i (chain before x n)) e ∙ apart in
    absurd (omega (arith, f, among))) in
    let as_before : chain middle x n ≡ chain before x n = chain_same before middle x n along in
    let freed_k : used_in middle k ≡ 0 = let l = frees.link in omega (arith, l) in
    let was_used : used_in before k ≡ 1 = let a = once k in let b = counts k in let c = one_same k k refl in omega (arith, a, b, c) in
    let used_here : (j : ℕ) → used_in middle j + one j k ≡ used_in before j = λ j. elim (cases_eq j k) [
      | inl e ↦
          let a = one_same j k e in
          let b : used_in middle j ≡ used_in middle k = ap (used_in middle) e in
          let c : used_in before j ≡ used_in before k = ap (used_in before) e in
          omega (arith, a, b, c, freed_k, was_used)
      | inr ne ↦
          let a = one_other j k ne in
          let b = same_used before middle j (others j ne) in
          omega (arith, a, b)
    ] in
    let rest = freed n middle now x (λ j.
    let a = once j in
    let b = counts j in
    let c = ap (times j) as_before in
    let d = used_here j in
    omega (arith, a, b, c, d)) h.1.1 in
    record {
      used = λ j. let a = rest.used j in let b = counts j in let c = ap (times j) as_before in let d = used_here j in omega (arith, a, b, c, d);
      same = λ j none off low part.
          let b = counts j in
          let ne : j ≢ k = λ e. let o = one_same j k e in absurd (omega (arith, b, none, o)) in
          let c = ap (times j) as_before in
          rest.same j (omega (arith, b, c, none)) off low part ∙ others j ne off low part;
      cells = λ n low. rest.cells n low ∙ cells_kept before middle k 2 n frees.kept low;
    }
