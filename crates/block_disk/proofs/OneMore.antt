-- One block more of a run.
use Rattle.std.proofs.Common.{◌≡◌, inl, inr, ℕ, zero, suc, ◌+◌, ◌<◌, List, Option, None, Some, refl, sym, ◌∙◌, ap, arith, add-one}
use Rattle.std.specs.Option.{option_map}
use Rattle.std.proofs.lemmas.Bool.{cases_eq}
use Rattle.edge.specs.Disk.{Blocks, DiskState, with_block, after_read, after_write}
use Rattle.edge.proofs.Changes.{block_other, block_there}
use Rattle.block_disk.specs.Runs.{block_of, HoldsRun, after_reads, after_writes}

-- reads change no content
pub reads_content : (k : ℕ) (s : DiskState) (block : ℕ) → (after_reads k s).content block ≡ s.content block
reads_content zero s block = refl
reads_content (suc k) s block = reads_content k s block

pub reads_next : (k : ℕ) (old mid new : Option DiskState) → mid ≡ option_map (after_reads k) old → new ≡ option_map after_read mid
    → new ≡ option_map (after_reads (k + 1)) old
reads_next k old mid new so_far one = one ∙ ap (option_map after_read) so_far ∙ joined old ∙ ap (λ (n : ℕ). option_map (after_reads n) old) (sym (add-one k))
  where
    joined : (old : Option DiskState) → option_map after_read (option_map (after_reads k) old) ≡ option_map (after_reads (suc k)) old
    joined None = refl
    joined (Some s) = refl

pub writes_next : (k at : ℕ) (bytes block : List ℕ) (old mid new : Option DiskState) → block ≡ block_of k bytes → mid ≡ option_map (after_writes k at bytes) old
    → new ≡ option_map (after_write (at + k) block) mid → new ≡ option_map (after_writes (k + 1) at bytes) old
writes_next k at bytes block old mid new is so_far one =
    one ∙ ap (option_map (after_write (at + k) block)) so_far
    ∙ ap (λ (b : List ℕ). option_map (after_write (at + k) b) (option_map (after_writes k at bytes) old)) is
    ∙ joined old ∙ ap (λ (n : ℕ). option_map (after_writes n at bytes) old) (sym (add-one k))
  where
    joined : (old : Option DiskState)
        → option_map (after_write (at + k) (block_of k bytes)) (option_map (after_writes k at bytes) old) ≡ option_map (after_writes (suc k) at bytes) old
    joined None = refl
    joined (Some s) = refl

-- one block more is held
pub holds_read : (content : Blocks) (at k : ℕ) (bytes more : List ℕ) → HoldsRun content at k bytes → ((j : ℕ) → j < k → block_of j more ≡ block_of j bytes)
    → content (at + k) ≡ block_of k more → HoldsRun content at (k + 1) more
holds_read content at k bytes more held others there = λ j below. elim (cases_eq j k) [
  | inl same ↦ ap (λ (i : ℕ). content (at + i)) same ∙ there ∙ ap (λ (i : ℕ). block_of i more) (sym same)
  | inr other ↦ held j (omega arith) ∙ sym (others j (omega arith))
]

pub holds_written : (content : Blocks) (at k : ℕ) (bytes : List ℕ) → HoldsRun content at k bytes
    → HoldsRun (with_block content (at + k) (block_of k bytes)) at (k + 1) bytes
holds_written content at k bytes held = λ j below. elim (cases_eq j k) [
  | inl same ↦ ap (λ (i : ℕ). with_block content (at + k) (block_of k bytes) (at + i)) same ∙ block_there content (at + k) (block_of k bytes)
      ∙ ap (λ (i : ℕ). block_of i bytes) (sym same)
  | inr other ↦ block_other content (at + k) (block_of k bytes) (at + j) (λ same. other (omega arith)) ∙ held j (omega arith)
]
