-- Marks of those from which a chain leads to a refinement.
use Rattle.std.specs.Prelude.{ℕ, zero, suc, Bool, ◌||◌, ◌==◌, ◌+◌, List, [], ◌∷◌, map, slice_index_or}
use Rattle.std.specs.List.{list_any}

-- A number behind the marks leads to itself alone.
abbrev pub mark_at : List Bool → ℕ → ℕ → Bool
mark_at marks r n = slice_index_or marks n (n == r)

abbrev pub any_marked : List Bool → ℕ → List ℕ → Bool
any_marked marks r cs = list_any (λ c. mark_at marks r c) cs

abbrev pub marks_from : ℕ → List Bool → ℕ → List (List ℕ) → List Bool
marks_from n marks r [] = []
marks_from n marks r (cs ∷ rest) = (n == r || any_marked marks r cs) ∷ marks_from (n + 1) marks r rest

-- the marks one call further
abbrev pub next_marks : List Bool → ℕ → List (List ℕ) → List Bool
next_marks = marks_from 0

abbrev pub equal_from : ℕ → ℕ → ℕ → List Bool
equal_from n zero r = []
equal_from n (suc count) r = (n == r) ∷ equal_from (n + 1) count r

abbrev pub first_marks : ℕ → ℕ → List Bool
first_marks count r = equal_from 0 count r
