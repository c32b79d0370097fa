-- Owners of spaces over one pool: anything with roots. What a call on one of them leaves of the others.
use Rattle.std.specs.Prelude.{◌≡◌, ◌≢◌, ◌<◌, ℕ, List, length, None, slice_set, slice_index_or}
use Rattle.std.specs.List.{remove}
use Rattle.eu_base.specs.Spaces.{IsKept}
use Rattle.page_table.specs.Frames.{Over as Pages}
use Rattle.page_table.specs.Entries.{Names}
use Rattle.page_table.specs.Frames.{content_at}

-- each space of an owner keeps each byte: its n-th space, for every n
abbrev pub Keeps : {T : Type 0} → (T → Names) → Pages → Pages → T → Type 0
Keeps roots old new t = (n : ℕ) → IsKept (content_at old (slice_index_or (roots t) n None)) (content_at new (slice_index_or (roots t) n None))

-- owner k is another one now; the others are as they were, with each byte of their spaces
pub record ChangesOwner {T : Type 0} (roots : T → Names) (none : T) (old new : Pages) (owners later : List T) (k : ℕ) : Type 0 where
  pub list : later ≡ slice_set owners k (slice_index_or later k none)
  pub others : (j : ℕ) → j < length owners → j ≢ k → Keeps roots old new (slice_index_or owners j none)

-- owner k is gone; the others are as they were, with each byte of their spaces
pub record LosesOwner {T : Type 0} (roots : T → Names) (none : T) (old new : Pages) (owners later : List T) (k : ℕ) : Type 0 where
  pub list : later ≡ remove owners k
  pub others : (j : ℕ) → j < length owners → j ≢ k → Keeps roots old new (slice_index_or owners j none)
