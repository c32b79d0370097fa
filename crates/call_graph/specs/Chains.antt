-- Chains of calls, over the numbers of those that each calls.
use Rattle.std.specs.Prelude.{ℕ, zero, suc, Bool, ◌||◌, ◌==◌, List, [], slice_index_or}
use Rattle.std.specs.List.{list_any}

-- a chain of at most so many calls leads from one refinement to the other
abbrev pub leads : ℕ → List (List ℕ) → ℕ → ℕ → Bool
leads zero calls n r = n == r
leads (suc i) calls n r = n == r || list_any (λ c. leads i calls c r) (slice_index_or calls n [])
