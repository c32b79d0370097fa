-- What a list of writes leaves on a disk that was all zeros, now and at each moment before.
use Rattle.std.specs.Prelude.{◌≡◌, ◌⊎◌, ◌||◌, ◌==◌, ℕ, Bool, true, false, if◌then◌else◌, List, [], ◌∷◌, ◌++◌, length, drop, replicate}
use mathlib.Core.Logic.{inl, inr}
use Rattle.edge.specs.declared.log.Written.{Written}
use Rattle.edge.specs.Disk.{Blocks, DiskState, IsImage, with_block, with_mark}

abbrev pub zeros : List ℕ
zeros = replicate 512 0

-- a disk that holds zeros and was never called
abbrev pub blank : DiskState
blank = record { content = λ _. zeros; synced = λ _. zeros; written = λ _. false; reads = 0; writes = 0; syncs = 0 }

-- a write that no sync has followed
abbrev pub written_at : ℕ → List ℕ → Written
written_at at bytes = record { at = at; bytes = bytes; synced = false }

-- nothing is left to sync
abbrev pub settled : DiskState → DiskState
settled s = record s { synced = s.content; written = λ _. false }

-- content and blocks written after one write
abbrev pub wrote : DiskState → Written → DiskState
wrote s w = record s { content = with_block s.content w.at w.bytes; written = with_mark s.written w.at }

-- and after the sync that may have followed it
abbrev pub step : DiskState → Written → DiskState
step s w = record s {
  content = with_block s.content w.at w.bytes;
  synced = (if w.synced then with_block s.content w.at w.bytes else s.synced);
  written = (if w.synced then (λ _. false) else with_mark s.written w.at);
}

-- what is there after these writes
abbrev pub now_from : DiskState → List Written → DiskState
now_from s [] = s
now_from s (w ∷ ws) = now_from (step s w) ws

-- the moment between a write and its sync
abbrev pub before_sync : DiskState → Written → List DiskState
before_sync s w = if w.synced then wrote s w ∷ [] else []

-- what was there before, the oldest first
abbrev pub past_from : DiskState → List Written → List DiskState
past_from s [] = []
past_from s (w ∷ ws) = s ∷ (before_sync s w ++ past_from (step s w) ws)

abbrev pub now_of : List Written → DiskState
now_of ws = now_from blank ws

abbrev pub past_of : List Written → List DiskState
past_of ws = past_from blank ws

-- what one block holds after these writes
abbrev pub block_after : List Written → ℕ → List ℕ → List ℕ
block_after [] at bytes = bytes
block_after (w ∷ ws) at bytes = block_after ws at (if at == w.at then w.bytes else bytes)

-- one of these states may leave this image
abbrev pub HadImage : List DiskState → Blocks → Type 0
HadImage [] image = ⊥
HadImage (s ∷ past) image = IsImage s image ⊎ HadImage past image

-- the state now may, or one of the past from the t-th on
abbrev pub LeftSince : List DiskState → DiskState → ℕ → Blocks → Type 0
LeftSince past now t image = IsImage now image ⊎ HadImage (drop t past) image

none_left : (past : List DiskState) (image : Blocks) → HadImage (drop (length past) past) image → ⊥
none_left [] image had = had
none_left (s ∷ past) image had = none_left past image had

pub counts_now_of : (past : List DiskState) (now : DiskState) (t : ℕ) (image : Blocks) → IsImage now image → LeftSince past now t image
counts_now_of past now t image is = inl is

pub only_now_of : (past : List DiskState) (now : DiskState) (image : Blocks) → LeftSince past now (length past) image → IsImage now image
only_now_of past now image (inl is) = is
only_now_of past now image (inr had) = absurd (none_left past image had)

-- a write that was lost: one of the bytes that stood there
abbrev pub lost_at : List Written → ℕ → Written
lost_at ws at = written_at at (block_after ws at zeros)

-- the same content, now and at the last successful sync
pub record HoldsSame (a b : DiskState) : Type 0 where
  pub content : a.content ≡ b.content
  pub synced : a.synced ≡ b.synced

-- a sync follows the last write
abbrev pub mark_last : List Written → List Written
mark_last [] = []
mark_last (w ∷ []) = record w { synced = true } ∷ []
mark_last (w ∷ v ∷ ws) = w ∷ mark_last (v ∷ ws)

-- a sync has followed one of them
abbrev pub any_synced : List Written → Bool
any_synced [] = false
any_synced (w ∷ ws) = w.synced || any_synced ws

-- the writes up to the last that a sync has followed
abbrev pub synced_part : List Written → List Written
synced_part [] = []
synced_part (w ∷ ws) = if any_synced (w ∷ ws) then w ∷ synced_part ws else []
