-- What it means that the blocks of a text were freed, and that a text was put into free blocks.
use Rattle.std.specs.Prelude.{◌≡◌, ℕ, zero, suc, ◌+◌, ◌<◌, ◌≤◌, ◌⊎◌, List, length}
use Rattle.eu_base.specs.Spaces.{Content}
use Rattle.text_heap.specs.Blocks.{block_at, next_in, used_in, chain, gather, blocks_of, times, Frees}

-- so many blocks were freed one after another, each followed by the one that its link named before
unfoldable pub Releases : Content → Content → ℕ → ℕ → Type 0
Releases before now k zero = now ≡ before
Releases before now k (suc n) = (middle : Content) × (Frees before middle k × Releases middle now (next_in before k) n)

-- neither the link of a block changed nor its bytes of a text
abbrev pub SameBlock : Content → Content → ℕ → Type 0
SameBlock before now k = (off : ℕ) → off < 32 → (off < 2) ⊎ (4 ≤ off) → now (block_at k + off) ≡ before (block_at k + off)

-- a text stands in blocks that were free before, from one on: they alone are used now beside those that were, and no other
-- block and no cell changed
pub record Filled (before now : Content) (first : ℕ) (t : List ℕ) : Type 0 where
  pub text : gather now first (length t) (blocks_of (length t)) ≡ t
  pub used : (j : ℕ) → used_in now j ≡ used_in before j + times j (chain now first (blocks_of (length t)))
  pub same : (j : ℕ) → times j (chain now first (blocks_of (length t))) ≡ 0 → SameBlock before now j
  pub cells : (n : ℕ) → n < 131072 → now n ≡ before n
