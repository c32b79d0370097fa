-- What an image has in each part of a commit.
use Rattle.std.proofs.Common.{◌≡◌, ◌≢◌, ◌==◌, inl, inr, Option, ℕ, ◌+◌, ◌-◌, ◌<◌, ◌≤◌, Bool, true, false, IsTrue, List, slice_index, refl, sym, ◌∙◌, ap}
use Rattle.std.proofs.Common.{subst, arith}
use Rattle.std.proofs.lemmas.Bool.Decides.{nat_tests}
use Rattle.edge.specs.Disk.{Blocks, DiskState, IsImage, IsSettled}
use Rattle.edge.specs.Moments.{ChangesOnly, AgreesOutside, Leaves, Step}
use Rattle.edge.proofs.Steps.{leaves_weaker, leaves_more}
use Rattle.fixpoint.specs.Slots.{is_open, gate_of, head_of, next_of, IsHead, IsOlder, IsTaken}
use Rattle.fixpoint.specs.Fixpoints.{Fixpoint, Fits, after, IsPlace, ArePlaces, HasPages, IsOldOrNew, HasNew}

-- the gate of the slot that is written
abbrev pub GateOf : Fixpoint → ℕ → Type 0
GateOf fix k = (k ≡ 1 - fix.slot) × IsTrue fix.other_open

-- what a gate that was written says
pub gate_is : (c : Blocks) (k : ℕ) (b : Bool) → c k ≡ gate_of b → is_open c k ≡ b
gate_is c k true written = ap (λ (l : List ℕ). slice_index l 0 == 1) written
gate_is c k false written = ap (λ (l : List ℕ). slice_index l 0 == 1) written

pub open_at : (c d : Blocks) (k : ℕ) (b : Bool) → c k ≡ d k → is_open d k ≡ b → is_open c k ≡ b
open_at c d k b same is = ap (λ (l : List ℕ). slice_index l 0 == 1) same ∙ is

next_range : (n : ℕ) → n ≤ 3 → (1 ≤ next_of n) × (next_of n ≤ 3)
next_range n le = (grind (arith, nat_tests), grind (arith, nat_tests))

module _ (fix : Fixpoint) (root count : ℕ) (place : ℕ → ℕ) (page : ℕ → List ℕ) (are : ArePlaces root count place) (s : DiskState) (fits : Fits fix s) where
  abbrev P : Blocks → Type 0
  P = IsOldOrNew fix root count place page s.content

  low : fix.slot < 2
  low = fits.holds.taken.number

  no_place : (k : ℕ) → k < 4 → IsPlace count place k → ⊥
  no_place k small at = let le : 4 ≤ place at.0 = are.low at.0 at.1 in absurd (omega (arith, at.2))

  -- the old slot is taken while its blocks stay, and the other one is closed or as it was
  old_taken : (c : Blocks) → c fix.slot ≡ s.content fix.slot → c (2 + fix.slot) ≡ s.content (2 + fix.slot)
      → (is_open c (1 - fix.slot) ≡ true → IsOlder (c (3 - fix.slot)) fix.sequence) → IsTaken c fix.slot fix.sequence fix.root
  old_taken c gate head other = record {
    number = low;
    open_gate = open_at c s.content fix.slot true gate fits.holds.taken.open_gate;
    head = subst (λ (b : List ℕ). IsHead b fix.sequence fix.root) (sym head) fits.holds.taken.head;
    other = other;
  }

  -- while a gate is closed
  pub closing : (c : Blocks) → AgreesOutside (GateOf fix) s c → P c
  closing c outside =
      let same : (k : ℕ) → k ≢ 1 - fix.slot → c k ≡ s.content k = λ k ne. outside k (λ at. ne at.0) (fits.settled k) in
      record {
        taken = inl (old_taken c (same fix.slot (λ e. absurd (omega (arith, e, low)))) (same (2 + fix.slot) (λ e. absurd (omega (arith, e, low))))
            (λ is. still fix.other_open refl is));
        others = λ k four out. same k (λ e. absurd (omega (arith, e, low)));
      }
    where
      still : (b : Bool) → fix.other_open ≡ b → is_open c (1 - fix.slot) ≡ true → IsOlder (c (3 - fix.slot)) fix.sequence
      still true was is =
          let same : c (3 - fix.slot) ≡ s.content (3 - fix.slot) =
          outside (3 - fix.slot) (λ at. let e = at.0 in absurd (omega (arith, e, low))) (fits.settled (3 - fix.slot)) in
          subst (λ (l : List ℕ). IsOlder l fix.sequence) (sym same) (fits.holds.taken.other (fits.holds.other ∙ was))
      still false was is =
          let same : c (1 - fix.slot) ≡ s.content (1 - fix.slot) = outside (1 - fix.slot) (λ at. let t = at.1 in absurd (cc)) (fits.settled (1 - fix.slot)) in
          let shut : is_open s.content (1 - fix.slot) ≡ false = fits.holds.other ∙ was in
          let is_shut : is_open c (1 - fix.slot) ≡ false = open_at c s.content (1 - fix.slot) false same shut in
          absurd (cc)

  -- the other gate is closed, and all that is synced
  pub record Closed (s1 : DiskState) : Type 0 where
    pub settled : IsSettled s1
    pub shut : is_open s1.content (1 - fix.slot) ≡ false
    pub same : (k : ℕ) → k ≢ 1 - fix.slot → s1.content k ≡ s.content k

  pub now_closed : (s1 : DiskState) → ChangesOnly (GateOf fix) s s1 → IsSettled s1 → (IsTrue fix.other_open → is_open s1.content (1 - fix.slot) ≡ false)
      → Closed s1
  now_closed s1 only settled shut = record {
    settled = settled;
    shut = is_shut fix.other_open refl;
    same = λ k ne. only.content k (λ at. ne at.0);
  }
    where
      is_shut : (b : Bool) → fix.other_open ≡ b → is_open s1.content (1 - fix.slot) ≡ false
      is_shut true was = shut was
      is_shut false was =
          open_at s1.content s.content (1 - fix.slot) false (only.content (1 - fix.slot) (λ at. let t = at.1 in absurd (cc))) (fits.holds.other ∙ was)

  -- while pages and head are written
  pub writing : (s1 : DiskState) → Closed s1 → (c : Blocks) → ((k : ℕ) → (IsPlace count place k → ⊥) → k ≢ 2 + (1 - fix.slot) → c k ≡ s1.content k) → P c
  writing s1 closed c stays =
      let gate : c fix.slot ≡ s.content fix.slot =
      stays fix.slot (no_place fix.slot (omega (arith, low))) (λ e. absurd (omega (arith, e, low)))
      ∙ closed.same fix.slot (λ e. absurd (omega (arith, e, low))) in
      let head : c (2 + fix.slot) ≡ s.content (2 + fix.slot) =
      stays (2 + fix.slot) (no_place (2 + fix.slot) (omega (arith, low))) (λ e. absurd (omega (arith, e, low)))
      ∙ closed.same (2 + fix.slot) (λ e. absurd (omega (arith, e, low))) in
      let other : c (1 - fix.slot) ≡ s1.content (1 - fix.slot) =
      stays (1 - fix.slot) (no_place (1 - fix.slot) (omega (arith, low))) (λ e. absurd (omega (arith, e, low))) in
      let shut : is_open c (1 - fix.slot) ≡ false = open_at c s1.content (1 - fix.slot) false other closed.shut in
      record {
        taken = inl (old_taken c gate head (λ is. absurd (cc)));
        others = λ k four out. stays k out (λ e. absurd (omega (arith, e, low))) ∙ closed.same k (λ e. absurd (omega (arith, e, low)));
      }

  -- pages and head are synced
  pub record Staged (s3 : DiskState) : Type 0 where
    pub settled : IsSettled s3
    pub shut : is_open s3.content (1 - fix.slot) ≡ false
    pub same : (k : ℕ) → k ≢ 1 - fix.slot → k ≢ 2 + (1 - fix.slot) → (IsPlace count place k → ⊥) → s3.content k ≡ s.content k
    pub head : s3.content (2 + (1 - fix.slot)) ≡ head_of (next_of fix.sequence) root
    pub pages : HasPages count place page s3.content

  pub now_staged : (s1 s2 s3 : DiskState) → Closed s1 → ChangesOnly (IsPlace count place) s1 s2 → HasPages count place page s2.content
      → ChangesOnly (λ k. k ≡ 2 + (1 - fix.slot)) s2 s3 → IsSettled s3 → s3.content (2 + (1 - fix.slot)) ≡ head_of (next_of fix.sequence) root → Staged s3
  now_staged s1 s2 s3 closed places pages heads settled head = record {
    settled = settled;
    shut =
        open_at s3.content s1.content (1 - fix.slot) false
        (from_closed (1 - fix.slot) (no_place (1 - fix.slot) (omega (arith, low))) (λ e. absurd (omega (arith, e, low)))) closed.shut;
    same = λ k gate ne out. from_closed k out ne ∙ closed.same k gate;
    head = head;
    pages = λ j below. heads.content (place j) (λ e. let le = are.low j below in absurd (omega (arith, e, low, le))) ∙ pages j below;
  }
    where
      from_closed : (k : ℕ) → (IsPlace count place k → ⊥) → k ≢ 2 + (1 - fix.slot) → s3.content k ≡ s1.content k
      from_closed k out ne = heads.content k ne ∙ places.content k out

  -- the new slot is taken once its gate is open
  new_taken : (s3 : DiskState) → Staged s3 → (c : Blocks) → ((k : ℕ) → k ≢ 1 - fix.slot → c k ≡ s3.content k) → is_open c (1 - fix.slot) ≡ true
      → IsTaken c (1 - fix.slot) (next_of fix.sequence) root × HasPages count place page c
  new_taken s3 staged c same is = (
    record {
      number = omega (arith, low);
      open_gate = is;
      head = record {
        bytes = same (2 + (1 - fix.slot)) (λ e. absurd (omega (arith, e, low))) ∙ staged.head;
        sequence_low = (next_range fix.sequence fits.holds.taken.head.sequence_high).0;
        sequence_high = (next_range fix.sequence fits.holds.taken.head.sequence_high).1;
        root_low = are.root_low;
        root_high = are.root_high;
      };
      other = λ _. record {
        old_sequence = fix.sequence;
        old_root = fix.root;
        head = subst (λ (b : List ℕ). IsHead b fix.sequence fix.root) (sym (older_head ∙ ap (λ (k : ℕ). s.content k) at_two)) fits.holds.taken.head;
        older = refl;
      };
    },
    λ j below. same (place j) (λ e. let le = are.low j below in absurd (omega (arith, e, low, le))) ∙ staged.pages j below,
  )
    where
      at_two : 3 - (1 - fix.slot) ≡ 2 + fix.slot
      at_two = omega (arith, low)

      older_head : c (3 - (1 - fix.slot)) ≡ s.content (3 - (1 - fix.slot))
      older_head = same (3 - (1 - fix.slot)) (λ e. absurd (omega (arith, e, low)))
          ∙ staged.same (3 - (1 - fix.slot)) (λ e. absurd (omega (arith, e, low))) (λ e. absurd (omega (arith, e, low)))
          (no_place (3 - (1 - fix.slot)) (omega (arith, low)))

  -- while the gate is opened
  pub opening : (s3 : DiskState) → Staged s3 → (c : Blocks) → ((k : ℕ) → k ≢ 1 - fix.slot → c k ≡ s3.content k) → P c
  opening s3 staged c same = either (is_open c (1 - fix.slot)) refl
    where
      stays : (k : ℕ) → k < 4 → k ≢ 1 - fix.slot → k ≢ 2 + (1 - fix.slot) → c k ≡ s.content k
      stays k four gate head = same k gate ∙ staged.same k gate head (no_place k four)

      others : (k : ℕ) → 4 ≤ k → (IsPlace count place k → ⊥) → c k ≡ s.content k
      others k four out =
          same k (λ e. absurd (omega (arith, e, low))) ∙ staged.same k (λ e. absurd (omega (arith, e, low))) (λ e. absurd (omega (arith, e, low))) out

      either : (b : Bool) → is_open c (1 - fix.slot) ≡ b → P c
      either true is = record { taken = inr (new_taken s3 staged c same is); others = others }
      either false is = record {
        taken = inl (old_taken c (stays fix.slot (omega (arith, low)) (λ e. absurd (omega (arith, e, low))) (λ e. absurd (omega (arith, e, low))))
            (stays (2 + fix.slot) (omega (arith, low)) (λ e. absurd (omega (arith, e, low))) (λ e. absurd (omega (arith, e, low))))
            (λ is_true. absurd (cc)));
        others = others;
      }

  -- and synced
  pub now_new : (s3 s4 : DiskState) → Staged s3 → ChangesOnly (λ k. k ≡ 1 - fix.slot) s3 s4 → IsSettled s4 → s4.content (1 - fix.slot) ≡ gate_of true
      → HasNew (after fix root) count place page s s4
  now_new s3 s4 staged gate settled written = record {
    gate = written;
    fits = record {
      settled = settled;
      holds = record {
        taken = (new_taken s3 staged s4.content gate.content is).0;
        other = ap (λ (n : ℕ). is_open s4.content n) back ∙ old_open;
      };
    };
    pages = (new_taken s3 staged s4.content gate.content is).1;
    others =
        λ k four out. gate.content k (λ e. absurd (omega (arith, e, low)))
        ∙ staged.same k (λ e. absurd (omega (arith, e, low))) (λ e. absurd (omega (arith, e, low))) out;
  }
    where
      is : is_open s4.content (1 - fix.slot) ≡ true
      is = gate_is s4.content (1 - fix.slot) true written

      back : 1 - (1 - fix.slot) ≡ fix.slot
      back = omega (arith, low)

      old_open : is_open s4.content fix.slot ≡ true
      old_open = open_at s4.content s.content fix.slot true
          (gate.content fix.slot (λ e. absurd (omega (arith, e, low)))
          ∙ staged.same fix.slot (λ e. absurd (omega (arith, e, low))) (λ e. absurd (omega (arith, e, low))) (no_place fix.slot (omega (arith, low))))
          fits.holds.taken.open_gate

  -- before the commit
  pub at_start : (image : Blocks) → IsImage s image → P image
  at_start image is = closing image (λ k out synced. is k synced)

  module _ {D : Type 0} (state : D → Option DiskState) (moment : D → ℕ) (left_since : D → ℕ → Blocks → Type 0) where
    pub part1 : (r w y : ℕ) (d0 d1 : D) → Step state moment left_since d0 d1 (GateOf fix) r w y s → Leaves moment left_since d0 d1 P
    part1 r w y d0 d1 step = leaves_weaker state moment left_since d0 d1 (AgreesOutside (GateOf fix) s) P closing step.leaves

    pub part2 : (r w y : ℕ) (d1 d2 : D) (s1 : DiskState) → Closed s1 → Step state moment left_since d1 d2 (IsPlace count place) r w y s1
        → Leaves moment left_since d1 d2 P
    part2 r w y d1 d2 s1 closed step =
        leaves_weaker state moment left_since d1 d2 (AgreesOutside (IsPlace count place) s1) P
        (λ c outside. writing s1 closed c (λ k out ne. outside k out (closed.settled k))) step.leaves

    pub part3 : (r w y : ℕ) (d2 d3 : D) (s1 s2 : DiskState) → Closed s1 → ChangesOnly (IsPlace count place) s1 s2
        → Step state moment left_since d2 d3 (λ k. k ≡ 2 + (1 - fix.slot)) r w y s2 → Leaves moment left_since d2 d3 P
    part3 r w y d2 d3 s1 s2 closed places step =
        leaves_weaker state moment left_since d2 d3 (AgreesOutside (λ k. k ≡ 2 + (1 - fix.slot)) s2) P
        (λ c outside. writing s1 closed c (λ k out ne. outside k ne (places.written k out (closed.settled k)) ∙ places.content k out)) step.leaves

    pub part4 : (r w y : ℕ) (d3 d4 : D) (s3 : DiskState) → Staged s3 → Step state moment left_since d3 d4 (λ k. k ≡ 1 - fix.slot) r w y s3
        → Leaves moment left_since d3 d4 P
    part4 r w y d3 d4 s3 staged step =
        leaves_weaker state moment left_since d3 d4 (AgreesOutside (λ k. k ≡ 1 - fix.slot) s3) P
        (λ c outside. opening s3 staged c (λ k ne. outside k ne (staged.settled k))) step.leaves

    module _ (w1 : ℕ) (d0 d1 : D) (step1 : Step state moment left_since d0 d1 (GateOf fix) 0 w1 1 s) where
      pub upto1 : Leaves moment left_since d0 d1 P
      upto1 = part1 0 w1 1 d0 d1 step1

      module _ (settled1 : IsSettled step1.reached) (shut1 : IsTrue fix.other_open → step1.reached.content (1 - fix.slot) ≡ gate_of false) (d2 : D)
          (step2 : Step state moment left_since d1 d2 (IsPlace count place) 0 count 0 step1.reached) where
        closed : Closed step1.reached
        closed = now_closed step1.reached step1.only settled1 (λ is. gate_is step1.reached.content (1 - fix.slot) false (shut1 is))

        pub upto2 : Leaves moment left_since d0 d2 P
        upto2 = leaves_more state moment left_since d0 d1 d2 P upto1 (part2 0 count 0 d1 d2 step1.reached closed step2)

        module _ (d3 : D) (step3 : Step state moment left_since d2 d3 (λ k. k ≡ 2 + (1 - fix.slot)) 0 1 1 step2.reached) where
          pub upto3 : Leaves moment left_since d0 d3 P
          upto3 = leaves_more state moment left_since d0 d2 d3 P upto2 (part3 0 1 1 d2 d3 step1.reached step2.reached closed step2.only step3)

          module _ (pages : HasPages count place page step2.reached.content) (settled3 : IsSettled step3.reached)
              (head : step3.reached.content (2 + (1 - fix.slot)) ≡ head_of (next_of fix.sequence) root)
              (d4 : D) (step4 : Step state moment left_since d3 d4 (λ k. k ≡ 1 - fix.slot) 0 1 1 step3.reached) where
            staged : Staged step3.reached
            staged = now_staged step1.reached step2.reached step3.reached closed step2.only pages step3.only settled3 head

            pub upto4 : Leaves moment left_since d0 d4 P
            upto4 = leaves_more state moment left_since d0 d3 d4 P upto3 (part4 0 1 1 d3 d4 step3.reached staged step4)

            pub all_new : IsSettled step4.reached → step4.reached.content (1 - fix.slot) ≡ gate_of true
                → HasNew (after fix root) count place page s step4.reached
            all_new settled4 opened = now_new step3.reached step4.reached staged step4.only settled4 opened
