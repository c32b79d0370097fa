-- Ranks of bodies, none of which calls one of a higher rank. Steps of the code: no definition of meaning needs them.
use Rattle.std.specs.Prelude.{ℕ, Bool, true, ◌&&◌, not, nat_lt, ◌+◌, List, [], ◌∷◌, slice_index_or}

-- A body without a rank has the lowest.
abbrev pub rank_of : List ℕ → ℕ → ℕ
rank_of ranks n = slice_index_or ranks n 0

abbrev pub none_above : List ℕ → ℕ → List ℕ → Bool
none_above ranks r [] = true
none_above ranks r (c ∷ cs) = not (nat_lt r (rank_of ranks c)) && none_above ranks r cs

abbrev pub ranked_from : ℕ → List ℕ → List (List ℕ) → Bool
ranked_from n ranks [] = true
ranked_from n ranks (cs ∷ rest) = none_above ranks (rank_of ranks n) cs && ranked_from (n + 1) ranks rest

abbrev pub is_ranked : List ℕ → List (List ℕ) → Bool
is_ranked = ranked_from 0
