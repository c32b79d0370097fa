-- What it means that a space holds texts.
use Rattle.std.specs.Prelude.{◌≡◌, ℕ, ◌+◌, ◌*◌, ◌<◌, ◌≤◌, ◌⊎◌, cond, ◌==◌, List, length, Option, Some, None}
use Rattle.eu_base.specs.Spaces.{Content, IsKept}
use Rattle.eu_base.specs.declared.set.Set.{Set}
use Rattle.eu_base.specs.declared.set.Set.TheVariants.{Done, HeapFull}
use Rattle.text_heap.specs.Blocks.{used_in, blocks_of, text_in, chain_in, times, total}

-- the text that stands in each cell; none where a number stands
abbrev pub Texts : Type 0
Texts = ℕ → Option (List ℕ)

-- with another text in a cell
abbrev pub stored : Texts → ℕ → List ℕ → Texts
stored texts cell t = λ c. cond (c == cell) (Some t) (texts c)

-- the number of blocks that a text takes, from its length alone
abbrev pub size_of : Option (List ℕ) → ℕ
size_of None = 0
size_of (Some t) = blocks_of (length t)

-- the number of blocks that all texts take
abbrev pub blocks_in : Texts → ℕ
blocks_in texts = total (λ c. size_of (texts c)) 16384

-- how often the text of a cell has a block
abbrev pub part : Content → ℕ → ℕ → Option (List ℕ) → ℕ
part content k c None = 0
part content k c (Some t) = times k (chain_in content c)

-- a space is sound: a used block stands once in one text and in no other, and each other block is free
abbrev pub IsSound : Content → Texts → Type 0
IsSound content texts = (k : ℕ) → k < 4096 → total (λ c. part content k c (texts c)) 16384 ≡ used_in content k

-- a sound space holds these texts, each where its cell leads to
pub record Holds (content : Content) (texts : Texts) : Type 0 where
  pub each : (c : ℕ) (t : List ℕ) → c < 16384 → texts c ≡ Some t → text_in content c ≡ t
  pub sound : IsSound content texts

-- a text was stored, since all texts have room then; or they have none, and nothing changed
abbrev pub Sets : Content → Content → Texts → ℕ → List ℕ → Set → Type 0
Sets before now texts cell t Done = (blocks_in (stored texts cell t) ≤ 4096) × Holds now (stored texts cell t)
Sets before now texts cell t HeapFull = (4096 < blocks_in (stored texts cell t)) × IsKept before now

-- no byte of another cell changed
abbrev pub KeepsCells : Content → Content → ℕ → Type 0
KeepsCells before now cell = (n : ℕ) → n < 131072 → (n < 8 * cell) ⊎ (8 * cell + 8 ≤ n) → now n ≡ before n
