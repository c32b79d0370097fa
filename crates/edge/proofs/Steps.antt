-- How a run of disk calls goes on.
use Rattle.std.proofs.Common.{◌≡◌, inl, inr, ⊎_elim, ℕ, ◌+◌, ◌≤◌, List, Option, Some, Result, Ok, Err, OnOk, OnErr, refl, ◌∙◌, ap, subst, arith}
use Rattle.std.specs.Option.{option_map}
use Rattle.edge.specs.Disk.{Blocks, DiskState, after_read, after_write, after_lost_write, after_sync, after_failed_sync, IsFailedWrite, IsImage, MayLeave}
use Rattle.edge.specs.Disk.{Elapses}
use Rattle.edge.specs.Moments.{ChangesOnly, AgreesOutside, Leaves, LeavesOnly, Nowhere, Step, HasMade}
use Rattle.edge.proofs.Changes.{changes_nothing, changes_written, changes_lost, changes_more, changes_within, image_agrees, agrees_before}
use Rattle.edge.proofs.Counts.{made_none, at_most, at_most_more, at_most_of}

module _ {D : Type 0} (state : D → Option DiskState) (moment : D → ℕ) (left_since : D → ℕ → Blocks → Type 0) where
  abbrev Passes : D → D → Type 0
  Passes old new = Elapses (moment old) (moment new) (left_since old) (left_since new) (MayLeave (state new))

  -- what holds of each image of a part of a run
  pub leaves_weaker : (old new : D) (P Q : Blocks → Type 0) → ((image : Blocks) → P image → Q image) → Leaves moment left_since old new P
      → Leaves moment left_since old new Q
  leaves_weaker old new P Q weaker part = record {
    later = part.later;
    before = λ t image le left. ⊎_elim (λ was. inl was) (λ has. inr (weaker image has)) (part.before t image le left);
  }

  pub leaves_more : (old mid new : D) (P : Blocks → Type 0) → Leaves moment left_since old mid P → Leaves moment left_since mid new P
      → Leaves moment left_since old new P
  leaves_more old mid new P first second = record {
    later = omega (arith, first.later, second.later);
    before = λ t image le left. ⊎_elim (first.before t image le) (λ has. inr has) (second.before t image (omega (arith, le, first.later)) left);
  }

  pub leaves_none : (old : D) (P : Blocks → Type 0) → Leaves moment left_since old old P
  leaves_none old P = record { later = omega arith; before = λ t image le left. inl left }

  -- one call
  one_step : (r w y : ℕ) (old new : D) (changed : ℕ → Type 0) (s t : DiskState) → state new ≡ Some t → ChangesOnly changed s t → HasMade r w y s t
      → Passes old new → Step state moment left_since old new changed r w y s
  one_step r w y old new changed s t told only made time = record {
    calls = at_most r w y s t made;
    reached = t;
    told = told;
    only = only;
    leaves = record {
      later = time.later;
      before = λ m image le left. ⊎_elim (λ was. inl was)
          (λ now. inr (image_agrees changed s t image only (subst (λ (o : Option DiskState). MayLeave o image) told now))) (time.nothing_else m image le left);
    };
  }

  -- no call
  pub no_step : (old : D) (changed : ℕ → Type 0) (s : DiskState) → state old ≡ Some s → Step state moment left_since old old changed 0 0 0 s
  no_step old changed s told =
      record {
        calls = at_most 0 0 0 s s (made_none s);
        reached = s;
        told = told;
        only = changes_nothing changed s;
        leaves =
            leaves_none old (AgreesOutside changed s);
      }

  pub read_step : (old new : D) (changed : ℕ → Type 0) (s : DiskState) → state old ≡ Some s → state new ≡ option_map after_read (state old) → Passes old new
      → Step state moment left_since old new changed 1 0 0 s
  read_step old new changed s told is time =
      one_step 1 0 0 old new changed s (after_read s) (is ∙ ap (option_map after_read) told)
      (record { content = λ block out. refl; written = λ block out synced. synced }) (record { reads = refl; writes = refl; syncs = refl }) time

  pub wrote_step : (old new : D) (changed : ℕ → Type 0) (at : ℕ) (bytes : List ℕ) (s : DiskState) → changed at → state old ≡ Some s
      → state new ≡ option_map (after_write at bytes) (state old) → Passes old new → Step state moment left_since old new changed 0 1 0 s
  wrote_step old new changed at bytes s there told is time =
      one_step 0 1 0 old new changed s (after_write at bytes s) (is ∙ ap (option_map (after_write at bytes)) told) (changes_written changed at bytes s there)
      (record { reads = refl; writes = refl; syncs = refl }) time

  pub failed_step : (old new : D) (changed : ℕ → Type 0) (at : ℕ) (bytes : List ℕ) (s : DiskState) → changed at → state old ≡ Some s
      → IsFailedWrite at bytes (state old) (state new) → Passes old new → Step state moment left_since old new changed 0 1 0 s
  failed_step old new changed at bytes s there told (inl lost) time =
      one_step 0 1 0 old new changed s (after_lost_write at s) (lost ∙ ap (option_map (after_lost_write at)) told) (changes_lost changed at s there)
      (record { reads = refl; writes = refl; syncs = refl }) time
  failed_step old new changed at bytes s there told (inr done) time = wrote_step old new changed at bytes s there told done time

  -- a sync, which may fail
  pub sync_step : {T E : Type 0} (result : Result T E) (old new : D) (changed : ℕ → Type 0) (s : DiskState) → state old ≡ Some s
      → OnOk result (state new ≡ option_map after_sync (state old)) → OnErr result (state new ≡ option_map after_failed_sync (state old))
      → Passes old new → Step state moment left_since old new changed 0 0 1 s
  sync_step (Ok _) old new changed s told ok err time =
      one_step 0 0 1 old new changed s (after_sync s) (ok ∙ ap (option_map after_sync) told)
      (record { content = λ block out. refl; written = λ block out synced. refl }) (record { reads = refl; writes = refl; syncs = refl }) time
  sync_step (Err _) old new changed s told ok err time =
      one_step 0 0 1 old new changed s (after_failed_sync s) (err ∙ ap (option_map after_failed_sync) told)
      (record { content = λ block out. refl; written = λ block out synced. synced }) (record { reads = refl; writes = refl; syncs = refl }) time

  -- one part after another
  pub step_more : (r w y r2 w2 y2 : ℕ) (old mid new : D) (changed : ℕ → Type 0) (s : DiskState) (first : Step state moment left_since old mid changed r w y s)
      → Step state moment left_since mid new changed r2 w2 y2 first.reached → Step state moment left_since old new changed (r + r2) (w + w2) (y + y2) s
  step_more r w y r2 w2 y2 old mid new changed s first second = record {
    reached = second.reached;
    told = second.told;
    only = changes_more changed s first.reached second.reached first.only second.only;
    leaves = leaves_more old mid new (AgreesOutside changed s) first.leaves
        (leaves_weaker mid new (AgreesOutside changed first.reached) (AgreesOutside changed s) (λ image. agrees_before changed s first.reached image first.only)
        second.leaves);
    calls = at_most_more r w y r2 w2 y2 s first.reached second.reached first.calls second.calls;
  }

  -- the same of more blocks and calls
  pub step_within : (r w y r2 w2 y2 : ℕ) (old new : D) (changed more : ℕ → Type 0) (s : DiskState) → ((block : ℕ) → changed block → more block) → r ≤ r2
      → w ≤ w2 → y ≤ y2
      → Step state moment left_since old new changed r w y s → Step state moment left_since old new more r2 w2 y2 s
  step_within r w y r2 w2 y2 old new changed more s within reads writes syncs step = record {
    reached = step.reached;
    told = step.told;
    only = changes_within changed more s step.reached within step.only;
    leaves =
        leaves_weaker old new (AgreesOutside changed s) (AgreesOutside more s) (λ image agrees block out. agrees block (λ there. out (within block there)))
        step.leaves;
    calls = at_most_of r w y r2 w2 y2 s step.reached reads writes syncs step.calls;
  }

  -- a whole run after another
  pub only_more : (old mid new : D) (P Q R : Blocks → Type 0) → ((image : Blocks) → P image → R image) → ((image : Blocks) → Q image → R image)
      → LeavesOnly moment left_since old mid P → LeavesOnly moment left_since mid new Q → LeavesOnly moment left_since old new R
  only_more old mid new P Q R first second a b = record {
    part = record {
      later = omega (arith, a.part.later, b.part.later);
      before = λ t image le left. ⊎_elim
          (λ was. ⊎_elim (λ older. inl older) (λ has. inr (first image has)) (a.part.before t image le was))
          (λ has. inr (second image has)) (b.part.before t image (omega (arith, le, a.part.later)) left);
    };
    each = λ image left. ⊎_elim (λ was. first image (a.each image was)) (λ has. second image has) (b.part.before (moment old) image a.part.later left);
  }

  module _ (only_now : (d : D) (image : Blocks) → left_since d (moment d) image → MayLeave (state d) image) where
    -- a part of a run is a run of its own where its first images have P
    pub from_start : (old new : D) (s : DiskState) (P : Blocks → Type 0) → state old ≡ Some s → ((image : Blocks) → IsImage s image → P image)
        → Leaves moment left_since old new P → LeavesOnly moment left_since old new P
    from_start old new s P told has part = record {
      part = part;
      each = λ image left. ⊎_elim (λ was. has image (subst (λ (o : Option DiskState). MayLeave o image) told (only_now old image was))) (λ now. now)
          (part.before (moment old) image (omega arith) left);
    }

    -- calls that write nothing
    pub reads_only : (r w y : ℕ) (old new : D) (s : DiskState) (P : Blocks → Type 0) → state old ≡ Some s → ((image : Blocks) → IsImage s image → P image)
        → Step state moment left_since old new Nowhere r w y s → LeavesOnly moment left_since old new P
    reads_only r w y old new s P told has step = from_start old new s P told has
        (leaves_weaker old new (AgreesOutside Nowhere s) P (λ image agrees. has image (λ block synced. agrees block (λ none. none) synced)) step.leaves)

  -- what a crash may leave now it may have left in the run
  pub at_exit : ((d : D) (t : ℕ) (image : Blocks) → t ≤ moment d → MayLeave (state d) image → left_since d t image)
      → (old new : D) (P : Blocks → Type 0) → LeavesOnly moment left_since old new P → (image : Blocks) → MayLeave (state new) image → P image
  at_exit counts_now old new P only image may = only.each image (counts_now new (moment old) image only.part.later may)
