-- What a crash leaves of the writes to a disk in memory.
use Rattle.std.proofs.Common.{◌≡◌, ◌==◌, ℕ, zero, suc, ◌||◌, if◌then◌else◌, Bool, true, false, List, [], ◌∷◌, ◌++◌, length, get_or, set, refl, sym, ◌∙◌, ap}
use Rattle.std.proofs.Common.{subst, arith}
use Rattle.edge.specs.declared.log.Written.{Written}
use Rattle.edge.specs.Disk.{Blocks, DiskState, IsImage, with_block, with_mark}
use Rattle.edge.specs.Log.{now_from, now_of, step, block_after, blank, mark_last, any_synced, synced_part}
use Rattle.edge.proofs.Noted.{now_marked}

pub block_now : (s : DiskState) (ws : List Written) (at : ℕ) → (now_from s ws).content at ≡ block_after ws at (s.content at)
block_now s [] at = refl
block_now s (w ∷ ws) at = block_now (step s w) ws at

pub set_last : (ws : List Written) (i : ℕ) (d : Written) → suc i ≡ length ws → set ws i (record (get_or ws i d) { synced = true }) ≡ mark_last ws
set_last [] i d is = absurd (omega arith)
set_last (w ∷ []) zero d is = refl
set_last (w ∷ []) (suc i) d is = absurd (omega arith)
set_last (w ∷ v ∷ ws) zero d is = absurd (omega arith)
set_last (w ∷ v ∷ ws) (suc i) d is = ap (λ (l : List Written). w ∷ l) (set_last (v ∷ ws) i d (omega arith))

none_part : (ws : List Written) → any_synced ws ≡ false → synced_part ws ≡ []
none_part [] none = refl
none_part (w ∷ ws) none = ap (λ (b : Bool). if b then w ∷ synced_part ws else []) none

some_part : (w : Written) (ws : List Written) → any_synced (w ∷ ws) ≡ true → synced_part (w ∷ ws) ≡ w ∷ synced_part ws
some_part w ws some = ap (λ (b : Bool). if b then w ∷ synced_part ws else []) some

later_none : (w : Written) (ws : List Written) → any_synced (w ∷ ws) ≡ false → any_synced ws ≡ false
later_none w ws none = or_right w.synced (any_synced ws) none
  where
    or_right : (a b : Bool) → a || b ≡ false → b ≡ false
    or_right true b is = absurd (cc)
    or_right false b is = is

first_none : (w : Written) (ws : List Written) → any_synced (w ∷ ws) ≡ false → w.synced ≡ false
first_none w ws none = or_left w.synced (any_synced ws) none
  where
    or_left : (a b : Bool) → a || b ≡ false → a ≡ false
    or_left true b is = is
    or_left false b is = refl

-- writes that no sync has followed leave what was synced
none_synced : (s : DiskState) (ws : List Written) → any_synced ws ≡ false → (now_from s ws).synced ≡ s.synced
none_synced s [] none = refl
none_synced s (w ∷ ws) none =
    none_synced (step s w) ws (later_none w ws none)
    ∙ ap (λ (b : Bool). if b then with_block s.content w.at w.bytes else s.synced) (first_none w ws none)

-- what is left is what was synced
pub record IsSyncedPart (all left : DiskState) : Type 0 where
  pub content : left.content ≡ all.synced
  pub synced : left.synced ≡ all.synced
  pub written : left.written ≡ (λ _. false)

part_synced : (s : DiskState) (ws : List Written) → any_synced ws ≡ true → IsSyncedPart (now_from s ws) (now_from s (synced_part ws))
part_synced s [] some = absurd (cc)
part_synced s (w ∷ ws) some =
    subst (λ (l : List Written). IsSyncedPart (now_from s (w ∷ ws)) (now_from s l)) (sym (some_part w ws some))
    (either (any_synced ws) refl (part_synced (step s w) ws))
  where
    one : (b : Bool) → any_synced ws ≡ false → w.synced || any_synced ws ≡ true → w.synced ≡ true
    one b is both = or_first w.synced (any_synced ws) is both
      where
        or_first : (a b : Bool) → b ≡ false → a || b ≡ true → a ≡ true
        or_first true b shut open_one = refl
        or_first false b shut open_one = absurd (cc)

    either : (b : Bool) → any_synced ws ≡ b → (any_synced ws ≡ true → IsSyncedPart (now_from (step s w) ws) (now_from (step s w) (synced_part ws)))
        → IsSyncedPart (now_from (step s w) ws) (now_from (step s w) (synced_part ws))
    either true is more = more is
    either false is more =
        let done : w.synced ≡ true = one true is some in
        let block_now_there : (if w.synced then with_block s.content w.at w.bytes else s.synced) ≡ with_block s.content w.at w.bytes =
        ap (λ (b : Bool). if b then with_block s.content w.at w.bytes else s.synced) done in
        let all = none_synced (step s w) ws is in
        subst (λ (l : List Written). IsSyncedPart (now_from (step s w) ws) (now_from (step s w) l)) (sym (none_part ws is)) (record {
          content = sym (all ∙ block_now_there);
          synced = sym all;
          written = ap (λ (b : Bool). if b then (λ _. false) else with_mark s.written w.at) done;
        })

-- what is left of writes to a disk of zeros
pub part_of : (ws left : List Written) → left ≡ synced_part ws → IsSyncedPart (now_of ws) (now_of left)
part_of ws left is = subst (λ (l : List Written). IsSyncedPart (now_of ws) (now_of l)) (sym is) (either (any_synced ws) refl)
  where
    either : (b : Bool) → any_synced ws ≡ b → IsSyncedPart (now_of ws) (now_of (synced_part ws))
    either true some = part_synced blank ws some
    either false no_sync =
        subst (λ (l : List Written). IsSyncedPart (now_of ws) (now_of l)) (sym (none_part ws no_sync))
        (record { content = sym (none_synced blank ws no_sync); synced = sym (none_synced blank ws no_sync); written = refl })

any_push : (ws : List Written) (w : Written) → w.synced ≡ false → any_synced (ws ++ w ∷ []) ≡ any_synced ws
any_push [] w not_yet = ap (λ (b : Bool). b || false) not_yet
any_push (v ∷ ws) w not_yet = ap (λ (b : Bool). v.synced || b) (any_push ws w not_yet)

any_push_yes : (ws : List Written) (w : Written) → w.synced ≡ true → any_synced (ws ++ w ∷ []) ≡ true
any_push_yes [] w done = ap (λ (b : Bool). b || false) done
any_push_yes (v ∷ ws) w done = or_yes v.synced (any_synced (ws ++ w ∷ [])) (any_push_yes ws w done)
  where
    or_yes : (a b : Bool) → b ≡ true → a || b ≡ true
    or_yes true b is = refl
    or_yes false b is = is

-- a write that no sync has followed is cut, and one that a sync followed stays
pub part_push : (ws : List Written) (w : Written) → w.synced ≡ false → synced_part (ws ++ w ∷ []) ≡ synced_part ws
part_push [] w not_yet = ap (λ (b : Bool). if b || false then w ∷ [] else []) not_yet
part_push (v ∷ ws) w not_yet = λ i. if v.synced || any_push ws w not_yet i then v ∷ part_push ws w not_yet i else []

pub part_whole : (ws : List Written) (w : Written) → w.synced ≡ true → synced_part (ws ++ w ∷ []) ≡ ws ++ w ∷ []
part_whole [] w done = ap (λ (b : Bool). if b || false then w ∷ [] else []) done
part_whole (v ∷ ws) w done = some_part v (ws ++ w ∷ []) (any_push_yes (v ∷ ws) w done) ∙ ap (λ (l : List Written). v ∷ l) (part_whole ws w done)

-- a block that was not written since the last sync holds what it held there
abbrev IsSame : DiskState → Type 0
IsSame s = (block : ℕ) → s.written block ≡ false → s.content block ≡ s.synced block

unwritten : (s : DiskState) (at : ℕ) (bytes : List ℕ) (block : ℕ) → IsSame s → with_mark s.written at block ≡ false
    → with_block s.content at bytes block ≡ s.synced block
unwritten s at bytes block same is = choose (block == at) (s.written block) (s.content block) (s.synced block) (same block) is
  where
    choose : (here written : Bool) (content synced : List ℕ) → (written ≡ false → content ≡ synced) → (if here then true else written) ≡ false
        → (if here then bytes else content) ≡ synced
    choose true written content synced same is = absurd (cc)
    choose false written content synced same is = same is

same_step : (s : DiskState) (w : Written) → IsSame s → IsSame (step s w)
same_step s w same block is = either w.synced is
  where
    either : (done : Bool) → (if done then (λ (_ : ℕ). false) else with_mark s.written w.at) block ≡ false
        → with_block s.content w.at w.bytes block ≡ (if done then with_block s.content w.at w.bytes else s.synced) block
    either true _ = refl
    either false is = unwritten s w.at w.bytes block same is

same_now : (s : DiskState) (ws : List Written) → IsSame s → IsSame (now_from s ws)
same_now s [] same = same
same_now s (w ∷ ws) same = same_now (step s w) ws (same_step s w same)

-- what was synced is an image
pub lost_image : (ws left : List Written) → left ≡ synced_part ws → IsImage (now_of ws) (now_of left).content
lost_image ws left is block unwritten =
    ap (λ (content : Blocks). content block) (part_of ws left is).content
    ∙ sym (same_now blank ws (λ at none. refl) block unwritten)

-- and so is what a read gives
pub kept_image : (ws left : List Written) → left ≡ mark_last ws → IsImage (now_of ws) (now_of left).content
kept_image ws left is block unwritten = ap (λ (s : DiskState). s.content block) (ap now_of is ∙ now_marked blank ws refl)
