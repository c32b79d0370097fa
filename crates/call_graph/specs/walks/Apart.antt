-- Marks that no call leaves, by which it is seen at once that no chain leads back. Steps of the code: no definition of meaning needs them.
use Rattle.std.specs.Prelude.{ℕ, Bool, true, ◌&&◌, not, if◌then◌else◌, ◌==◌, ◌+◌, List, [], ◌∷◌, slice_index_or}

-- A number behind the marks counts as marked.
abbrev pub is_marked : List Bool → ℕ → Bool
is_marked marks n = slice_index_or marks n true

abbrev pub is_safe : List Bool → ℕ → ℕ → Bool
is_safe marks r n = not (n == r) && is_marked marks n

abbrev pub all_safe : List Bool → ℕ → List ℕ → Bool
all_safe marks r [] = true
all_safe marks r (c ∷ cs) = is_safe marks r c && all_safe marks r cs

-- Those that are marked call only others that are, and not the one that is looked for.
abbrev pub closed_from : ℕ → List Bool → ℕ → List (List ℕ) → Bool
closed_from n marks r [] = true
closed_from n marks r (cs ∷ rest) = (if is_marked marks n then all_safe marks r cs else true) && closed_from (n + 1) marks r rest

abbrev pub is_closed : List Bool → ℕ → List (List ℕ) → Bool
is_closed = closed_from 0
