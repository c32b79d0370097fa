-- One more write, or the sync after it, joins those that a disk in memory has had.
use Rattle.std.proofs.Common.{◌≡◌, ◌⊎◌, inl, inr, ⊎_elim, ℕ, zero, suc, ◌≤◌, Bool, true, false, List, [], ◌∷◌, ◌++◌, length, drop, refl, sym, ◌∙◌, ap, subst}
use Rattle.std.proofs.Common.{arith, append_assoc, length-append}
use Rattle.edge.specs.declared.log.Written.{Written}
use Rattle.edge.specs.Disk.{Blocks, DiskState, IsImage, Elapses}
use Rattle.edge.specs.Log.{now_from, past_from, now_of, past_of, written_at, wrote, step, before_sync, settled, blank, HadImage, LeftSince, mark_last}

keeps : (past : List DiskState) (v : DiskState) (c : Blocks) → HadImage past c → HadImage (past ++ v ∷ []) c
keeps [] v c had = absurd had
keeps (p ∷ past) v c (inl here) = inl here
keeps (p ∷ past) v c (inr there) = inr (keeps past v c there)

adds : (past : List DiskState) (v : DiskState) (c : Blocks) → HadImage (past ++ v ∷ []) c → HadImage past c ⊎ IsImage v c
adds [] v c (inl here) = inr here
adds [] v c (inr none) = absurd none
adds (p ∷ past) v c (inl here) = inl (inl here)
adds (p ∷ past) v c (inr there) = ⊎_elim (λ had. inl (inr had)) (λ new. inr new) (adds past v c there)

newest : (past : List DiskState) (v : DiskState) (c : Blocks) → IsImage v c → HadImage (past ++ v ∷ []) c
newest [] v c is = inl is
newest (p ∷ past) v c is = inr (newest past v c is)

drop_push : (t : ℕ) (past : List DiskState) (v : DiskState) → t ≤ length past → drop t (past ++ v ∷ []) ≡ drop t past ++ v ∷ []
drop_push zero past v le = refl
drop_push (suc t) [] v le = absurd (omega arith)
drop_push (suc t) (p ∷ past) v le = drop_push t past v (omega arith)

pub elapses_same : (past : List DiskState) (now : DiskState) → Elapses (length past) (length past) (LeftSince past now) (LeftSince past now) (IsImage now)
elapses_same past now = record { later = omega arith; nothing_else = λ t c le left. inl left; keeps = λ t c le left. left }

pub elapses_push : (past : List DiskState) (old new : DiskState)
    → Elapses (length past) (length (past ++ old ∷ [])) (LeftSince past old) (LeftSince (past ++ old ∷ []) new) (IsImage new)
elapses_push past old new = record {
  later = omega (arith, length-append past (old ∷ []));
  nothing_else =
      λ t c le left. ⊎_elim (λ now. inr now)
      (λ had. inl (was t c (adds (drop t past) old c (subst (λ (l : List DiskState). HadImage l c) (drop_push t past old le) had)))) left;
  keeps =
      λ t c le left. inr (subst (λ (l : List DiskState). HadImage l c) (sym (drop_push t past old le))
      (⊎_elim (λ now. newest (drop t past) old c now) (keeps (drop t past) old c) left));
}
  where
    was : (t : ℕ) (c : Blocks) → HadImage (drop t past) c ⊎ IsImage old c → LeftSince past old t c
    was t c (inl had) = inr had
    was t c (inr new) = inl new

now_push : (s : DiskState) (ws : List Written) (at : ℕ) (bytes : List ℕ)
    → now_from s (ws ++ written_at at bytes ∷ []) ≡ wrote (now_from s ws) (written_at at bytes)
now_push s [] at bytes = refl
now_push s (w ∷ ws) at bytes = now_push (step s w) ws at bytes

past_push : (s : DiskState) (ws : List Written) (at : ℕ) (bytes : List ℕ) → past_from s (ws ++ written_at at bytes ∷ []) ≡ past_from s ws ++ now_from s ws ∷ []
past_push s [] at bytes = refl
past_push s (w ∷ ws) at bytes =
    ap (λ (l : List DiskState). s ∷ (before_sync s w ++ l)) (past_push (step s w) ws at bytes)
    ∙ ap (λ (l : List DiskState). s ∷ l) (sym (append_assoc (before_sync s w) (past_from (step s w) ws) (now_from (step s w) ws ∷ [])))

pub now_noted : (ws later : List Written) (at : ℕ) (bytes : List ℕ) → later ≡ ws ++ written_at at bytes ∷ []
    → now_of later ≡ wrote (now_of ws) (written_at at bytes)
now_noted ws later at bytes is = ap now_of is ∙ now_push blank ws at bytes

pub elapses_noted : (ws later : List Written) (at : ℕ) (bytes : List ℕ) → later ≡ ws ++ written_at at bytes ∷ []
    → Elapses (length (past_of ws)) (length (past_of later)) (LeftSince (past_of ws) (now_of ws)) (LeftSince (past_of later) (now_of later))
    (IsImage (now_of later))
elapses_noted ws later at bytes is =
    subst (λ (p : List DiskState).
    Elapses (length (past_of ws)) (length p) (LeftSince (past_of ws) (now_of ws)) (LeftSince p (now_of later)) (IsImage (now_of later)))
    (sym (ap past_of is ∙ past_push blank ws at bytes))
    (elapses_push (past_of ws) (now_of ws) (now_of later))

pub now_marked : (s : DiskState) (ws : List Written) → s ≡ settled s → now_from s (mark_last ws) ≡ settled (now_from s ws)
now_marked s [] same = same
now_marked s (w ∷ []) same = refl
now_marked s (w ∷ v ∷ ws) same = marked_more (step s w) v ws
  where
    marked_more : (s : DiskState) (w : Written) (ws : List Written) → now_from s (mark_last (w ∷ ws)) ≡ settled (now_from s (w ∷ ws))
    marked_more s w [] = refl
    marked_more s w (v ∷ ws) = marked_more (step s w) v ws

-- a sync has followed the last write
abbrev ends_synced : List Written → Bool
ends_synced [] = true
ends_synced (w ∷ []) = w.synced
ends_synced (w ∷ v ∷ ws) = ends_synced (v ∷ ws)

past_marked : (s : DiskState) (w : Written) (ws : List Written) → ends_synced (w ∷ ws) ≡ false
    → past_from s (mark_last (w ∷ ws)) ≡ past_from s (w ∷ ws) ++ now_from s (w ∷ ws) ∷ []
past_marked s w [] not_yet = rw not_yet refl
past_marked s w (v ∷ ws) not_yet =
    ap (λ (l : List DiskState). s ∷ (before_sync s w ++ l)) (past_marked (step s w) v ws not_yet)
    ∙ ap (λ (l : List DiskState). s ∷ l) (sym (append_assoc (before_sync s w) (past_from (step s w) (v ∷ ws)) (now_from (step s w) (v ∷ ws) ∷ [])))

same_marked : (ws : List Written) → ends_synced ws ≡ true → mark_last ws ≡ ws
same_marked [] is = refl
same_marked (w ∷ []) is = ap (λ (b : Bool). record w { synced = b } ∷ []) (sym is)
same_marked (w ∷ v ∷ ws) is = ap (λ (l : List Written). w ∷ l) (same_marked (v ∷ ws) is)

abbrev Later : List Written → List Written → Type 0
Later ws later =
    Elapses (length (past_of ws)) (length (past_of later)) (LeftSince (past_of ws) (now_of ws)) (LeftSince (past_of later) (now_of later))
    (IsImage (now_of later))

-- a sync is a moment of its own, where a write came before it
elapses_either : (ws : List Written) (b : Bool) → ends_synced ws ≡ b → Later ws (mark_last ws)
elapses_either [] b is = elapses_same [] blank
elapses_either (w ∷ ws) true is = subst (Later (w ∷ ws)) (sym (same_marked (w ∷ ws) is)) (elapses_same (past_of (w ∷ ws)) (now_of (w ∷ ws)))
elapses_either (w ∷ ws) false is =
    subst (λ (p : List DiskState).
    Elapses (length (past_of (w ∷ ws))) (length p) (LeftSince (past_of (w ∷ ws)) (now_of (w ∷ ws))) (LeftSince p (now_of (mark_last (w ∷ ws))))
    (IsImage (now_of (mark_last (w ∷ ws)))))
    (sym (past_marked blank w ws is))
    (elapses_push (past_of (w ∷ ws)) (now_of (w ∷ ws)) (now_of (mark_last (w ∷ ws))))

pub elapses_marked : (ws later : List Written) → later ≡ mark_last ws → Later ws later
elapses_marked ws later is = subst (Later ws) (sym is) (elapses_either ws (ends_synced ws) refl)
