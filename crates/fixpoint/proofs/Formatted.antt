-- What a format leaves.
use Rattle.std.proofs.Common.{◌≡◌, ℕ, ◌<◌, ◌≤◌, true, false, List, ◌∙◌, arith}
use Rattle.edge.specs.Disk.{DiskState, IsSettled}
use Rattle.edge.specs.Moments.{ChangesOnly}
use Rattle.fixpoint.specs.Slots.{is_open, gate_of, head_of}
use Rattle.fixpoint.specs.Fixpoints.{IsPlace, ArePlaces, HasPages, HasFirst}
use Rattle.fixpoint.proofs.Phases.{gate_is}

module _ (root count : ℕ) (place : ℕ → ℕ) (page : ℕ → List ℕ) (are : ArePlaces root count place) (s s0 s1 s2 s3 s4 : DiskState)
    (first : ChangesOnly (λ k. k ≡ 0) s s0) (second : ChangesOnly (λ k. (k ≡ 1) × (true ≡ true)) s0 s1) (places : ChangesOnly (IsPlace count place) s1 s2)
    (heads : ChangesOnly (λ k. k ≡ 2) s2 s3)
    (gates : ChangesOnly (λ k. k ≡ 0) s3 s4) where
  no_place : (k : ℕ) → k < 4 → IsPlace count place k → ⊥
  no_place k small at = let le : 4 ≤ place at.0 = are.low at.0 at.1 in absurd (omega (arith, at.2))

  pub formatted : s1.content 1 ≡ gate_of false → HasPages count place page s2.content → s3.content 2 ≡ head_of 1 root → IsSettled s4
      → s4.content 0 ≡ gate_of true
      → HasFirst root count place page s s4
  formatted shut pages head settled opened = record {
    first = record {
      gate = opened;
      fits = record {
        settled = settled;
        holds = record {
          taken = record {
            number = omega arith;
            open_gate = gate_is s4.content 0 true opened;
            head = record {
              bytes = gates.content 2 (λ e. absurd (omega (arith, e))) ∙ head;
              sequence_low = omega arith;
              sequence_high = omega arith;
              root_low = are.root_low;
              root_high = are.root_high;
            };
            other = λ is. absurd (cc (is, still_shut));
          };
          other = still_shut;
        };
      };
      pages = λ j below. let le = are.low j below in
          gates.content (place j) (λ e. absurd (omega (arith, e, le))) ∙ heads.content (place j) (λ e. absurd (omega (arith, e, le))) ∙ pages j below;
      others = λ k four out. gates.content k (λ e. absurd (omega (arith, e))) ∙ heads.content k (λ e. absurd (omega (arith, e))) ∙ places.content k out
          ∙ second.content k (λ both. let e = both.0 in absurd (omega (arith, e))) ∙ first.content k (λ e. absurd (omega (arith, e)));
    };
    shut = stays ∙ shut;
  }
    where
      stays : s4.content 1 ≡ s1.content 1
      stays = gates.content 1 (λ e. absurd (omega (arith, e))) ∙ heads.content 1 (λ e. absurd (omega (arith, e))) ∙ places.content 1 (no_place 1 (omega arith))

      still_shut : is_open s4.content 1 ≡ false
      still_shut = gate_is s4.content 1 false (stays ∙ shut)
