-- The live spaces of a task, by number.
use Rattle.std.specs.Prelude.{◌+◌, ◌<◌, ◌≤◌, ℕ, List, [], ◌∷◌, ◌++◌, length, map, nat_eq, Option, None, pos}
use Rattle.std.specs.Map.{lookup, remove_entry, set_value}
use Rattle.std.specs.Option.{unwrap_or, IsSome}
use Rattle.space_memory.specs.Below.page_table.specs.Entries.{Names}
use Rattle.data_space.specs.Data.{SpaceData}

-- the spaces with their numbers, and the last number that was given
pub record LiveData : Type 0 where
  pub spaces : List (ℕ × SpaceData)
  pub last : ℕ

abbrev pub no_space : SpaceData
no_space = record { root = None; kind = pos 0; shape = None }

-- the space under a number, or none
abbrev pub space_at : ℕ → List (ℕ × SpaceData) → Option SpaceData
space_at n spaces = lookup (nat_eq n) spaces

abbrev pub IsLive : ℕ → List (ℕ × SpaceData) → Type 0
IsLive n spaces = IsSome (space_at n spaces)

-- the space under a number that is live
abbrev pub the_space : ℕ → List (ℕ × SpaceData) → SpaceData
the_space n spaces = unwrap_or (space_at n spaces) no_space

-- the others, without the space under a number
abbrev pub without : ℕ → List (ℕ × SpaceData) → List (ℕ × SpaceData)
without n spaces = remove_entry (nat_eq n) spaces

-- with another space under a number that is live
abbrev pub with_space : ℕ → SpaceData → List (ℕ × SpaceData) → List (ℕ × SpaceData)
with_space n space spaces = set_value (nat_eq n) spaces space

-- with a space more, under the next number
abbrev pub with_new : SpaceData → LiveData → LiveData
with_new space live = record { spaces = live.spaces ++ (live.last + 1, space) ∷ []; last = live.last + 1 }

-- the root pages of spaces
abbrev pub space_roots : List (ℕ × SpaceData) → Names
space_roots spaces = map (λ s. s.1.root) spaces

-- the numbers rise, from above the first of these numbers to at most the last
abbrev pub Rises : ℕ → List (ℕ × SpaceData) → ℕ → Type 0
Rises low [] last = low ≤ last
Rises low (s ∷ rest) last = (low < s.0) × Rises s.0 rest last

-- the numbers rise from 1 to at most the last that was given, and there are at most 16 spaces
pub record IsNumbered (spaces : List (ℕ × SpaceData)) (last : ℕ) : Type 0 where
  pub rise : Rises 0 spaces last
  pub few : length spaces ≤ 16
