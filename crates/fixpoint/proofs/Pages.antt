-- One page more at its place.
use Rattle.std.proofs.Common.{◌≡◌, inl, inr, ℕ, ◌+◌, ◌<◌, List, sym, ◌∙◌, ap, arith}
use Rattle.std.proofs.lemmas.Bool.{cases_eq}
use Rattle.edge.specs.Disk.{Blocks, with_block}
use Rattle.edge.proofs.Changes.{block_other, block_there}
use Rattle.fixpoint.specs.Fixpoints.{HasPages}

pub pages_more : (count k : ℕ) (place : ℕ → ℕ) (page : ℕ → List ℕ) (content : Blocks) → ((i j : ℕ) → i < count → j < count → place i ≡ place j → i ≡ j)
    → k < count
    → HasPages k place page content → HasPages (k + 1) place page (with_block content (place k) (page k))
pages_more count k place page content differ low has = λ j below. elim (cases_eq j k) [
  | inl same ↦ ap (λ (i : ℕ). with_block content (place k) (page k) (place i)) same ∙ block_there content (place k) (page k) ∙ ap page (sym same)
  | inr other ↦ block_other content (place k) (page k) (place j) (λ same. other (differ j k (omega arith) low same)) ∙ has j (omega arith)
]
