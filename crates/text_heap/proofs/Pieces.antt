-- Bytes of blocks that are read and written.
use Rattle.std.proofs.Common.{◌≡◌, ℕ, zero, suc, ◌+◌, ◌-◌, ◌/◌, ◌%◌, ◌<◌, ◌≤◌, min, List, [], ◌∷◌, ◌++◌, length, get_or, inl, refl, sym, ap, ◌∙◌, arith}
use Rattle.eu_base.specs.Spaces.{Content, IsRead, IsPasted}
use Rattle.cell_layout.proofs.Numbers.{inside, outside}
use Rattle.text_heap.specs.Blocks.{block_at, met, next_in, used_in, total, bytes_from, gather, blocks_of, free_in, Frees, Fills}
use Rattle.text_heap.specs.Chains.{Releases}
use Rattle.text_heap.proofs.Totals.{total_more, total_met}
use Rattle.text_heap.proofs.Chained.{gather_more}

-- bytes that were read from a place on, and bytes that were written there
pub bytes_read : (content : Content) (bytes : List ℕ) (at : ℕ) → IsRead content at bytes → bytes ≡ bytes_from content at (length bytes)
unfolding bytes_from
bytes_read content [] at h = refl
bytes_read content (b ∷ bytes) at h =
    let z : at + 0 ≡ at = omega arith in
    let first : b ≡ content at = h 0 (omega arith) ∙ ap content z in
    let rest = bytes_read content bytes (suc at) (λ k low. let e : at + suc k ≡ suc at + k = omega arith in h (suc k) (omega (arith, low)) ∙ ap content e) in
    ap (λ x. x ∷ bytes) first ∙ ap (λ bs. content at ∷ bs) rest

pub bytes_written : (content : Content) (bytes : List ℕ) (at : ℕ) → ((k : ℕ) → k < length bytes → content (at + k) ≡ get_or bytes k 0)
    → bytes_from content at (length bytes) ≡ bytes
bytes_written content bytes at h = sym (bytes_read content bytes at (λ k low. sym (h k low)))

-- a block was filled: first its link, then its bytes
pub filled : (before middle now : Content) (k next low high : ℕ) (piece : List ℕ) → low ≡ (next + 1) % 256 → high ≡ (next + 1) / 256 → length piece ≤ 28
    → IsPasted before middle (block_at k) (low ∷ high ∷ []) → IsPasted middle now (block_at k + 4) piece → Fills before now k next piece
filled before middle now k next low high piece is_low is_high few first second = record {
  link =
      let z : block_at k + 0 ≡ block_at k = omega arith in
      let a : now (block_at k) ≡ low =
      second (block_at k) ∙ outside middle (block_at k + 4) (block_at k) piece (inl (omega arith)) ∙ ap middle (sym z)
      ∙ first (block_at k + 0) ∙ inside before (block_at k) 0 (low ∷ high ∷ []) in
      let b : now (block_at k + 1) ≡ high =
      second (block_at k + 1) ∙ outside middle (block_at k + 4) (block_at k + 1) piece (inl (omega arith))
      ∙ first (block_at k + 1) ∙ inside before (block_at k) 1 (low ∷ high ∷ []) in
      omega (arith, a, b, is_low, is_high);
  bytes = bytes_written now piece (block_at k + 4) (λ i in_it.
      second (block_at k + 4 + i) ∙ inside middle (block_at k + 4) i piece ∙ same_default piece i (middle (block_at k + 4 + i)) 0 in_it);
  kept = λ n out.
      second n ∙ outside middle (block_at k + 4) n piece (grind arith) ∙ first n ∙ outside before (block_at k) n (low ∷ high ∷ []) (grind arith);
}
  where
    same_default : (bytes : List ℕ) (i d e : ℕ) → i < length bytes → get_or bytes i d ≡ get_or bytes i e
    same_default [] i d e low = absurd (omega arith)
    same_default (b ∷ bytes) zero d e low = refl
    same_default (b ∷ bytes) (suc i) d e low = same_default bytes i d e (omega (arith, low))

-- one block more is freed
pub release_one : (before middle last : Content) (k n : ℕ) → Frees before middle k → Releases middle last (next_in before k) n → Releases before last k (suc n)
unfolding Releases
release_one before middle last k n f r = (middle, (f, r))

pub release_none : (content : Content) (k : ℕ) → Releases content content k 0
unfolding Releases
release_none content k = refl

-- how many of the blocks that a search meets first are free
abbrev pub free_met : Content → ℕ → ℕ → ℕ
free_met content from n = total (λ k. 1 - used_in content (met from k)) n

pub free_met_all : (content : Content) (from : ℕ) → free_met content from 4096 ≡ free_in content 4096
free_met_all content from = total_met (λ k. 1 - used_in content k) from

pub met_more : (content : Content) (from k : ℕ) → free_met content from (k + 1) ≡ free_met content from k + (1 - used_in content (met from k))
met_more content from k = let e : k + 1 ≡ suc k = omega arith in ap (free_met content from) e ∙ total_more (λ k. 1 - used_in content (met from k)) k

-- one block more is looked at
pub free_more : (content : Content) (k : ℕ) → free_in content (k + 1) ≡ free_in content k + (1 - used_in content k)
free_more content k = let e : k + 1 ≡ suc k = omega arith in ap (free_in content) e ∙ total_more (λ k. 1 - used_in content k) k

-- one block more is read
pub gather_next : (content : Content) (k left size : ℕ) → 1 ≤ left → size ≡ min left 28 → gather content k left (blocks_of left)
    ≡ bytes_from content (block_at k + 4) size ++ gather content (next_in content k) (left - size) (blocks_of (left - size))
gather_next content k left size some is =
    let rest : left - 28 ≡ left - size = omega (arith, is) in
    let n : blocks_of left ≡ suc (blocks_of (left - 28)) = omega (arith, some) in
    ap (gather content k left) n ∙ gather_more content k left (blocks_of (left - 28))
    ∙ ap (λ m. bytes_from content (block_at k + 4) (min left 28) ++ gather content (next_in content k) m (blocks_of m)) rest
    ∙ ap (λ m. bytes_from content (block_at k + 4) m ++ gather content (next_in content k) (left - size) (blocks_of (left - size))) (sym is)
