-- Blocks one after another.
use Rattle.std.proofs.Common.{◌≡◌, ℕ, zero, suc, ◌+◌, ◌-◌, ◌*◌, ◌%◌, ◌<◌, ◌≤◌, min, [], ◌∷◌, ◌++◌, length, inl, inr, refl, sym, ap, ◌∙◌, subst, arith}
use Rattle.std.proofs.lemmas.List.{length-append}
use Rattle.eu_base.specs.Spaces.{Content}
use Rattle.text_heap.specs.Blocks.{block_at, link_in, next_in, used_in, bytes_from, chain, gather, times}
use Rattle.text_heap.specs.Chains.{SameBlock}
use Rattle.text_heap.proofs.Totals.{one_same, times_more, AllBelow}

pub bytes_long : (content : Content) (at n : ℕ) → length (bytes_from content at n) ≡ n
unfolding bytes_from
bytes_long content at zero = refl
bytes_long content at (suc n) = ap suc (bytes_long content (suc at) n)

pub bytes_same : (before now : Content) (at n : ℕ) → ((i : ℕ) → i < n → now (at + i) ≡ before (at + i)) → bytes_from now at n ≡ bytes_from before at n
unfolding bytes_from
bytes_same before now at zero same = refl
bytes_same before now at (suc n) same =
    let z : at + 0 ≡ at = omega arith in
    let first : now at ≡ before at = subst (λ p. now p ≡ before p) z (same 0 (omega arith)) in
    let rest = bytes_same before now (suc at) n (λ i low.
    let e : at + suc i ≡ suc at + i = omega arith in
    subst (λ p. now p ≡ before p) e (same (suc i) (omega (arith, low)))) in
    ap (λ b. b ∷ bytes_from now (suc at) n) first ∙ ap (λ bs. before at ∷ bs) rest

pub chain_more : (content : Content) (k n : ℕ) → chain content k (suc n) ≡ k ∷ chain content (next_in content k) n
unfolding chain
chain_more content k n = refl

pub chain_none : (content : Content) (k : ℕ) → chain content k 0 ≡ []
unfolding chain
chain_none content k = refl

pub chain_long : (content : Content) (k n : ℕ) → length (chain content k n) ≡ n
unfolding chain
chain_long content k zero = refl
chain_long content k (suc n) = ap suc (chain_long content (next_in content k) n)

pub chain_below : (content : Content) (k n : ℕ) → k < 4096 → AllBelow 4096 (chain content k n)
unfolding chain
chain_below content k zero low = tt
chain_below content k (suc n) low = (low, chain_below content (next_in content k) n (omega arith))

pub gather_more : (content : Content) (k left n : ℕ)
    → gather content k left (suc n) ≡ bytes_from content (block_at k + 4) (min left 28) ++ gather content (next_in content k) (left - 28) n
unfolding gather
gather_more content k left n = refl

pub gather_none : (content : Content) (k left : ℕ) → gather content k left 0 ≡ []
unfolding gather
gather_none content k left = refl

pub gather_long : (content : Content) (k left n : ℕ) → left ≤ 28 * n → length (gather content k left n) ≡ left
unfolding gather
gather_long content k left zero few = omega arith
gather_long content k left (suc n) few =
    let rest = gather_long content (next_in content k) (left - 28) n (omega arith) in
    let here = bytes_long content (block_at k + 4) (min left 28) in
    let e = length-append (bytes_from content (block_at k + 4) (min left 28)) (gather content (next_in content k) (left - 28) n) in
    omega (arith, rest, here, e)

same_link : (before now : Content) (k : ℕ) → SameBlock before now k → link_in now k ≡ link_in before k
same_link before now k same =
    let z : block_at k + 0 ≡ block_at k = omega arith in
    let a : now (block_at k) ≡ before (block_at k) = subst (λ p. now p ≡ before p) z (same 0 (omega arith) (inl (omega arith))) in
    let b = same 1 (omega arith) (inl (omega arith)) in
    omega (arith, a, b)

pub same_next : (before now : Content) (k : ℕ) → SameBlock before now k → next_in now k ≡ next_in before k
same_next before now k same = ap (λ l. (l - 1) % 4096) (same_link before now k same)

pub same_used : (before now : Content) (k : ℕ) → SameBlock before now k → used_in now k ≡ used_in before k
same_used before now k same = ap (λ l. min l 1) (same_link before now k same)

-- a chain none of whose blocks changed
abbrev pub SameAlong : Content → Content → ℕ → ℕ → Type 0
SameAlong before now k n = (j : ℕ) → 1 ≤ times j (chain before k n) → SameBlock before now j

first_in_it : (before : Content) (k n : ℕ) → 1 ≤ times k (chain before k (suc n))
first_in_it before k n =
    let a = ap (times k) (chain_more before k n) in
    let b = times_more k k (chain before (next_in before k) n) in
    let c = one_same k k refl in
    omega (arith, a, b, c)

rest_in_it : (before : Content) (k n j : ℕ) → times j (chain before (next_in before k) n) ≤ times j (chain before k (suc n))
rest_in_it before k n j =
    let a = ap (times j) (chain_more before k n) in
    let b = times_more j k (chain before (next_in before k) n) in
    omega (arith, a, b)

pub chain_same : (before now : Content) (k n : ℕ) → SameAlong before now k n → chain now k n ≡ chain before k n
chain_same before now k zero same = chain_none now k ∙ sym (chain_none before k)
chain_same before now k (suc n) same =
    let here = same k (first_in_it before k n) in
    let rest = chain_same before now (next_in before k) n (λ j among. same j (let le = rest_in_it before k n j in omega (arith, among, le))) in
    chain_more now k n ∙ ap (λ x. k ∷ chain now x n) (same_next before now k here) ∙ ap (λ xs. k ∷ xs) rest ∙ sym (chain_more before k n)

pub gather_same : (before now : Content) (k left n : ℕ) → SameAlong before now k n → gather now k left n ≡ gather before k left n
gather_same before now k left zero same = gather_none now k left ∙ sym (gather_none before k left)
gather_same before now k left (suc n) same =
    let here = same k (first_in_it before k n) in
    let rest = gather_same before now (next_in before k) (left - 28) n (λ j among. same j (let le = rest_in_it before k n j in omega (arith, among, le))) in
    let piece = bytes_same before now (block_at k + 4) (min left 28) (λ i low.
    let e : block_at k + (4 + i) ≡ block_at k + 4 + i = omega arith in
    subst (λ p. now p ≡ before p) e (here (4 + i) (omega (arith, low)) (inr (omega arith)))) in
    gather_more now k left n
    ∙ ap (λ x. bytes_from now (block_at k + 4) (min left 28) ++ gather now x (left - 28) n) (same_next before now k here)
    ∙ ap (λ x. bytes_from now (block_at k + 4) (min left 28) ++ x) rest
    ∙ ap (λ x. x ++ gather before (next_in before k) (left - 28) n) piece
    ∙ sym (gather_more before k left n)
