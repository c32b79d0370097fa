-- What memory keeps of the writes to a disk holds the same as all of them, lost ones among them.
use Rattle.std.proofs.Common.{◌≡◌, inl, inr, ℕ, List, [], ◌∷◌, ◌++◌, refl, sym, ◌∙◌, ap}
use Rattle.std.proofs.lemmas.Bool.{cases_eq}
use Rattle.edge.specs.declared.log.Written.{Written}
use Rattle.edge.specs.Disk.{Blocks, DiskState, with_block, with_mark}
use Rattle.edge.specs.Log.{now_of, written_at, lost_at, block_after, zeros, blank, HoldsSame, mark_last, synced_part}
use Rattle.edge.proofs.Changes.{block_other, block_there}
use Rattle.edge.proofs.Noted.{now_noted, now_marked}
use Rattle.edge.proofs.Kept.{block_now, part_of}

abbrev content : DiskState → Blocks
content s = s.content

abbrev synced : DiskState → Blocks
synced s = s.synced

-- a write of the bytes that stand there changes no content
same_block : (blocks : Blocks) (at : ℕ) (bytes : List ℕ) → bytes ≡ blocks at → with_block blocks at bytes ≡ blocks
same_block blocks at bytes is = λ i block. each block i
  where
    each : (block : ℕ) → with_block blocks at bytes block ≡ blocks block
    each block = elim (cases_eq block at) [
      | inl same ↦ ap (with_block blocks at bytes) same ∙ block_there blocks at bytes ∙ is ∙ ap blocks (sym same)
      | inr other ↦ block_other blocks at bytes block other
    ]

-- a write that was lost
abbrev pub marked : ℕ → DiskState → DiskState
marked at s = record s { written = with_mark s.written at }

pub now_lost : (log later : List Written) (at : ℕ) → later ≡ log ++ lost_at log at ∷ [] → now_of later ≡ marked at (now_of log)
now_lost log later at is =
    let s = now_of log in
    now_noted log later at (block_after log at zeros) is
    ∙ ap (λ (blocks : Blocks). record s { content = blocks; written = with_mark s.written at })
    (same_block s.content at (block_after log at zeros) (sym (block_now blank log at)))

pub same_noted : (kept log kept_later later : List Written) (at : ℕ) (bytes : List ℕ) → HoldsSame (now_of kept) (now_of log)
    → kept_later ≡ kept ++ written_at at bytes ∷ [] → later ≡ log ++ written_at at bytes ∷ [] → HoldsSame (now_of kept_later) (now_of later)
same_noted kept log kept_later later at bytes same is_kept is =
    let of_kept = now_noted kept kept_later at bytes is_kept in
    let of_log = now_noted log later at bytes is in
    record {
      content = ap content of_kept ∙ ap (λ (blocks : Blocks). with_block blocks at bytes) same.content ∙ sym (ap content of_log);
      synced = ap synced of_kept ∙ same.synced ∙ sym (ap synced of_log);
    }

pub same_lost : (kept log later : List Written) (at : ℕ) → HoldsSame (now_of kept) (now_of log) → later ≡ log ++ lost_at log at ∷ []
    → HoldsSame (now_of kept) (now_of later)
same_lost kept log later at same is =
    let of_log = now_lost log later at is in
    record { content = same.content ∙ sym (ap content of_log); synced = same.synced ∙ sym (ap synced of_log) }

pub same_settled : (kept log kept_later later : List Written) → HoldsSame (now_of kept) (now_of log) → kept_later ≡ mark_last kept → later ≡ mark_last log
    → HoldsSame (now_of kept_later) (now_of later)
same_settled kept log kept_later later same is_kept is =
    let of_kept = ap now_of is_kept ∙ now_marked blank kept refl in
    let of_log = ap now_of is ∙ now_marked blank log refl in
    record {
      content = ap content of_kept ∙ same.content ∙ sym (ap content of_log);
      synced = ap synced of_kept ∙ same.content ∙ sym (ap synced of_log);
    }

pub same_cut : (kept log kept_later later : List Written) → HoldsSame (now_of kept) (now_of log) → kept_later ≡ synced_part kept → later ≡ synced_part log
    → HoldsSame (now_of kept_later) (now_of later)
same_cut kept log kept_later later same is_kept is =
    let of_kept = part_of kept kept_later is_kept in
    let of_log = part_of log later is in
    record { content = of_kept.content ∙ same.synced ∙ sym of_log.content; synced = of_kept.synced ∙ same.synced ∙ sym of_log.synced }
