-- The calls of the four parts together.
use Rattle.std.proofs.Common.{◌≡◌, ℕ, ◌+◌, ◌≤◌, Option, subst, arith}
use Rattle.edge.specs.Disk.{Blocks, DiskState}
use Rattle.edge.specs.Moments.{Step, HasMade, HasMadeAtMost}
use Rattle.edge.proofs.Counts.{made_more, at_most_more, at_most_of}

-- gate, pages, head and gate
pub four_parts : (w1 y1 w2 w y : ℕ) (s s1 s2 s3 s4 : DiskState) → HasMade 0 w1 y1 s s1 → HasMade 0 w2 0 s1 s2 → HasMade 0 1 1 s2 s3 → HasMade 0 1 1 s3 s4
    → w1 + w2 + 1 + 1 ≡ w → y1 + 0 + 1 + 1 ≡ y → HasMade 0 w y s s4
four_parts w1 y1 w2 w y s s1 s2 s3 s4 first second third fourth all_writes all_syncs =
    subst (λ (n : ℕ). HasMade 0 w n s s4) all_syncs (subst (λ (n : ℕ). HasMade 0 n (y1 + 0 + 1 + 1) s s4) all_writes
    (made_more 0 (w1 + w2 + 1) (y1 + 0 + 1) 0 1 1 s s3 s4
    (made_more 0 (w1 + w2) (y1 + 0) 0 1 1 s s2 s3
    (made_more 0 w1 y1 0 w2 0 s s1 s2 first second) third) fourth))

module _ {D : Type 0} (state : D → Option DiskState) (moment : D → ℕ) (left_since : D → ℕ → Blocks → Type 0) where
  -- the calls of one part, and of those before it
  pub so_far : (w y w2 y2 w3 y3 : ℕ) (mid new : D) (changed : ℕ → Type 0) (s t : DiskState) → HasMadeAtMost 0 w y s t
      → (step : Step state moment left_since mid new changed 0 w2 y2 t)
      → w + w2 ≤ w3 → y + y2 ≤ y3 → HasMadeAtMost 0 w3 y3 s step.reached
  so_far w y w2 y2 w3 y3 mid new changed s t before step writes syncs =
      at_most_of 0 (w + w2) (y + y2) 0 w3 y3 s step.reached (omega arith) writes syncs (at_most_more 0 w y 0 w2 y2 s t step.reached before step.calls)
