-- Texts in the blocks of a data space.
use Rattle.std.specs.Prelude.{◌≡◌, ℕ, zero, suc, ◌+◌, ◌-◌, ◌*◌, ◌/◌, ◌%◌, ◌<◌, ◌≤◌, ◌⊎◌, min, cond, ◌==◌, List, [], ◌∷◌, ◌++◌, length}
use Rattle.eu_base.specs.Spaces.{Content}
pub use Rattle.eu_base.specs.Room.{blocks_of}
unfoldable pub use Rattle.eu_base.specs.Room.{total}
use Rattle.cell_layout.specs.Layout.{cell_in}

-- the number of a block's first byte; there are 4,096 blocks of 32 bytes
abbrev pub block_at : ℕ → ℕ
block_at k = 131072 + 32 * k

-- the first two bytes: 0 where the block is free, else one more than the block that follows it in its text
abbrev pub link_in : Content → ℕ → ℕ
link_in content k = content (block_at k) + 256 * content (block_at k + 1)

abbrev pub next_in : Content → ℕ → ℕ
next_in content k = (link_in content k - 1) % 4096

-- 1 where a block is used, else 0
abbrev pub used_in : Content → ℕ → ℕ
used_in content k = min (link_in content k) 1

-- two bytes of block 0 that no text uses: the block at which the next search for free ones begins
abbrev pub hint_at : ℕ
hint_at = 131074

-- the block that a search from one on meets after so many others; behind the last comes block 0
abbrev pub met : ℕ → ℕ → ℕ
met from k = (from + k) % 4096

-- so many bytes from one on
unfoldable pub bytes_from : Content → ℕ → ℕ → List ℕ
bytes_from content at zero = []
bytes_from content at (suc n) = content at ∷ bytes_from content (suc at) n

-- so many blocks, each followed by the one that its link names
unfoldable pub chain : Content → ℕ → ℕ → List ℕ
chain content k zero = []
chain content k (suc n) = k ∷ chain content (next_in content k) n

-- the bytes in so many blocks, 28 in each but for the last, behind the first four of the block
unfoldable pub gather : Content → ℕ → ℕ → ℕ → List ℕ
gather content k left zero = []
gather content k left (suc n) = bytes_from content (block_at k + 4) (min left 28) ++ gather content (next_in content k) (left - 28) n

-- the length of the text to which a cell leads, and its first block
abbrev pub length_in : Content → ℕ → ℕ
length_in content cell = min (cell_in content cell % 4294967296) 114688

abbrev pub first_in : Content → ℕ → ℕ
first_in content cell = cell_in content cell / 4294967296 % 4096

-- its blocks, and its bytes
abbrev pub chain_in : Content → ℕ → List ℕ
chain_in content cell = chain content (first_in content cell) (blocks_of (length_in content cell))

abbrev pub text_in : Content → ℕ → List ℕ
text_in content cell = gather content (first_in content cell) (length_in content cell) (blocks_of (length_in content cell))

-- how often a number stands in a list
unfoldable pub times : ℕ → List ℕ → ℕ
times k [] = 0
times k (x ∷ xs) = cond (k == x) 1 0 + times k xs

-- how many of the first blocks are free
abbrev pub free_in : Content → ℕ → ℕ
free_in content n = total (λ k. 1 - used_in content k) n

-- no byte changed but so many from one on
abbrev pub KeptBut : Content → Content → ℕ → ℕ → Type 0
KeptBut before now at count = (n : ℕ) → (n < at) ⊎ (at + count ≤ n) → now n ≡ before n

-- a block was freed
pub record Frees (before now : Content) (k : ℕ) : Type 0 where
  pub link : link_in now k ≡ 0
  pub kept : KeptBut before now (block_at k) 2

-- a block was filled with bytes, and is followed by another
pub record Fills (before now : Content) (k next : ℕ) (piece : List ℕ) : Type 0 where
  pub link : link_in now k ≡ next + 1
  pub bytes : bytes_from now (block_at k + 4) (length piece) ≡ piece
  pub kept : KeptBut before now (block_at k) 32
