-- Pages that are copied, freed, and built of their entries.
use Rattle.std.proofs.lemmas.List.{append-nil, drop_all, drop_more, take_more, length-replicate}
use Rattle.page_pool.proofs.Sound.{low}
use Rattle.page_pool.specs.Pool.{read_by}
use Rattle.page_table.proofs.Common.{◌⊎◌, inl, inr, true, Bool}
use Rattle.page_table.proofs.Common.{◌≡◌, ◌≢◌, ◌+◌, ◌-◌, ◌/◌, ◌<◌, ◌≤◌, ℕ, zero, suc, List, [], ◌∷◌, ◌++◌, length, get_or, take, drop, replicate, Option, Some, None, refl, sym}
use Rattle.page_table.proofs.Common.{◌∙◌, ap, arith, ForSome, Pages, Shown, Tell, Known, seen, content, table, count_of, bytes_of, shown_of, home_of, pasted, IsPool, Stays, Adds, Writes, one_same, Names, entries_of, entries_in}
use Rattle.page_table.proofs.Common.{book_of, told, child, content_of, hit, occ, Hands, names, both, nothing, place, shown, Frames, over, Moves, Holds, Owns, Takes}
use Rattle.page_table.proofs.Common.{heirs}
use Rattle.page_table.proofs.Counting.{names_none, heirs_sum, occ-append, own_at, zeros_none, entries_length}
use Rattle.page_table.proofs.Framing.{frames_of}
use Rattle.page_table.proofs.Moving.{holds_then, holds_part, held_live, held_entries, held_pinned, pinned_entries, held_four, beside_single, beside_shown, stays_then, moves_on, moves_like}
use Rattle.page_table.proofs.Moving.{moves_with, moves_close, moves_adds, shown_none, shown_where}

-- bytes in the place of all
pub pasted_whole : (was bytes : List ℕ) → length was ≡ 512 → length bytes ≡ 512 → pasted was 0 bytes ≡ bytes
pasted_whole was bytes long also =
    ap (λ (l : List ℕ). bytes ++ l) (drop_all (0 + length bytes) was (omega (arith, long, also))) ∙ append-nil bytes

-- a page that was made
pub adds_writes : (p0 p1 p2 : Pages) (q : ℕ) (was bytes : Shown) → Adds p0 p1 q was → Writes p1 p2 q bytes → Adds p0 p2 q bytes
adds_writes p0 p1 p2 q was bytes adds writes = record {
  free = adds.free;
  low = adds.low;
  counts = λ x. writes.counts x ∙ adds.counts x;
  shows = writes.shows;
  changed = writes.changed;
  others = λ x out. stays_then (adds.others x out) (writes.others x out);
}

module _ (p0 p1 : Pages) (q : ℕ) where
  pub added_single : (bytes : Shown) → Adds p0 p1 q bytes → count_of p1 q ≡ 1
  added_single bytes adds = omega (arith, adds.counts q, adds.free, one_same q q refl)

  pub added_other : (p : ℕ) (bytes : Shown) → Adds p0 p1 q bytes → 1 ≤ count_of p0 p → p ≢ q
  added_other p bytes adds live e = let here : count_of p0 p ≡ count_of p0 q = ap (count_of p0) e in absurd (omega (arith, here, live, adds.free))

  -- beside what is in hand
  pub added : (bytes : Shown) (mine : Hands) → Adds p0 p1 q bytes → IsPool p1 → Moves p0 p1 mine (both mine (names 0 (Some q ∷ [])))
  added bytes mine adds sound = moves_like (λ h p. omega arith) (λ h p. omega arith) (moves_with mine (moves_adds p0 p1 q bytes sound adds))

-- one name more for what an entry of a page in hand names
pub shares_next : {p0 p1 p2 : Pages} (height p k : ℕ) {o : Option ℕ} → 1 ≤ height → height ≤ 2 → Holds p0 (names height (Some p ∷ [])) → k < 128
    → child (book_of p0) (Some p) k ≡ o
    → Moves p0 p1 (names height (Some p ∷ [])) (both (names height (Some p ∷ [])) (heirs height (take k ((book_of p0).entries p))))
    → Moves p1 p2 (names height (Some p ∷ [])) (both (names height (Some p ∷ [])) (heirs height (o ∷ [])))
    → Moves p0 p2 (names height (Some p ∷ [])) (both (names height (Some p ∷ [])) (heirs height (take (k + 1) ((book_of p0).entries p))))
shares_next {p0} height p k {o} up low held small is first second =
    let es : Names = (book_of p0).entries p in
    moves_on first (moves_like (λ h x. refl) (λ h x. let more = heirs_sum height (take k es) (o ∷ []) (take (k + 1) es) (λ y.
    let here : hit y (child (book_of p0) (Some p) k) ≡ hit y o = ap (hit y) is in
    let next = take_more es k None (omega (arith, small, held_entries p0 height p up low held)) in
    rw next (omega (arith, here, occ-append y (take k es) (get_or es k None ∷ [])))) h x in omega (arith, more))
    (moves_with (heirs height (take k es)) second))

-- a page on a way of one's own is there
pub owned_some : (pages : Pages) (h : ℕ) (o : Option ℕ) (k : ℕ) → Owns pages h o k → (x : ℕ) × (o ≡ Some x) × (count_of pages x ≡ 1)
owned_some pages zero None k own = absurd (omega (arith, own))
owned_some pages zero (Some x) k own = (x, refl, own)
owned_some pages (suc h) None k own = absurd (omega (arith, own.0))
owned_some pages (suc h) (Some x) k own = (x, refl, own.0)

-- What a copy has to be: a content page with the same bytes where they are known, or a root or table page with the same entries.
abbrev pub IsCopy : Tell → Pages → ℕ → Option ℕ → Shown → Type 0
IsCopy tell p0 zero of shows = Known tell p0 → seen tell shows ≡ seen tell (content_of (told p0) of)
IsCopy tell p0 (suc h) of shows = ((k : ℕ) → get_or (entries_in shows) k None ≡ child (book_of p0) of k) × (length (entries_in shows) ≡ 128)

pub is_copy : (tell : Tell) (p0 : Pages) (height : ℕ) (of : Option ℕ) (shows : Shown) → 1 ≤ height
    → ((k : ℕ) → get_or (entries_in shows) k None ≡ child (book_of p0) of k) → length (entries_in shows) ≡ 128 → IsCopy tell p0 height of shows
is_copy tell p0 zero of shows up same long = absurd (omega (arith, up))
is_copy tell p0 (suc h) of shows up same long = (same, long)

-- a page of zeros is one of none
pub zeros_copy : (tell : Tell) (p0 : Pages) (height : ℕ) → 1 ≤ height → IsCopy tell p0 height None (table (replicate 512 0))
zeros_copy tell p0 height up = is_copy tell p0 height None (table (replicate 512 0)) up (λ k. zeros_none 512 k)
    (entries_length (replicate 512 0) ∙ ap (λ (n : ℕ). n / 4) (length-replicate {A = ℕ} 512 0))

-- a page with the bytes of another is one of that
pub node_copy : (tell : Tell) (p0 : Pages) (height p : ℕ) → 1 ≤ height → height ≤ 2 → Holds p0 (names height (Some p ∷ []))
    → IsCopy tell p0 height (Some p) (table (bytes_of None p0 p))
node_copy tell p0 height p up low holds =
    let same : entries_in (shown_of p0 p) ≡ entries_of (bytes_of None p0 p) = pinned_entries (shown_of p0 p) (held_pinned p0 height p up low holds) in
    is_copy tell p0 height (Some p) (table (bytes_of None p0 p)) up (λ k. ap (λ (es : Names). get_or es k None) (sym same))
    (ap length (sym same) ∙ held_entries p0 height p up low holds)

-- a copy shows what the page shows, and as a root page has four entries
copy_same : (tell : Tell) (p0 p1 : Pages) (q height : ℕ) (of : Option ℕ) (shows : Shown) → height ≤ 2 → Adds p0 p1 q shows → IsCopy tell p0 height of shows → IsPool p1
    → Holds p0 (names height (of ∷ [])) → Known tell p0 → (k : ℕ) → seen tell (shown p1 height (Some q) k) ≡ seen tell (shown p0 height of k)
copy_same tell p0 p1 q zero of shows low adds copy sound holds known k = ap (seen tell) adds.shows ∙ copy known
copy_same tell p0 p1 q (suc h) None shows low adds copy sound holds known k =
    ap (λ (s : Shown). seen tell (shown p1 h (get_or (entries_in s) (place h k) None) k)) adds.shows
    ∙ ap (λ (o : Option ℕ). seen tell (shown p1 h o k)) (copy.0 (place h k)) ∙ ap (seen tell) (shown_none p0 p1 h k)
copy_same tell p0 p1 q (suc h) (Some p) shows low adds copy sound holds known k =
    ap (λ (s : Shown). seen tell (shown p1 h (get_or (entries_in s) (place h k) None) k)) adds.shows
    ∙ ap (λ (o : Option ℕ). seen tell (shown p1 h o k)) (copy.0 (place h k) ∙ sym (ap (λ (s : Shown). get_or (entries_in s) (place h k) None)
    (adds.others p (added_other p0 p1 q p _ adds (held_live p0 (suc h) p low holds))).shows))
    ∙ ap (seen tell) (beside_shown (names (suc h) (Some p ∷ [])) (moves_adds p0 p1 q _ sound adds) (holds_part nothing (λ h x. omega arith) holds) (suc h) p k low
    (omega (arith, own_at (suc h) p)))

copy_four : (tell : Tell) (p0 : Pages) (height : ℕ) (of : Option ℕ) (shows : Shown) → IsCopy tell p0 height of shows → Holds p0 (names height (of ∷ []))
    → height ≡ 2 → (k : ℕ) → 4 ≤ k → get_or (entries_in shows) k None ≡ None
copy_four tell p0 zero of shows copy holds top k past = absurd (omega (arith, top))
copy_four tell p0 (suc h) None shows copy holds top k past = copy.0 k
copy_four tell p0 (suc h) (Some p) shows copy holds top k past = copy.0 k ∙ held_four p0 (suc h) p holds top k past

copy_full : (tell : Tell) (p0 : Pages) (height : ℕ) (of : Option ℕ) (shows : Shown) → IsCopy tell p0 height of shows → 1 ≤ height → length (entries_in shows) ≡ 128
copy_full tell p0 zero of shows copy up = absurd (omega (arith, up))
copy_full tell p0 (suc h) of shows copy up = copy.1

-- It was made beside the other, which lost a name to those that its entries have.
pub takes : (tell : Tell) {p0 p1 p2 : Pages} (q height : ℕ) (of : Option ℕ) (shows : Shown) → height ≤ 2 → Adds p0 p1 q shows → IsCopy tell p0 height of shows → IsPool p1
    → Holds p0 (names height (of ∷ [])) → ((x : ℕ) → Stays p1 p2 x) → (Known tell p0 → Known tell p2) → (es : Names)
    → Moves p1 p2 (names height (of ∷ [])) (heirs height es)
    → ((x : ℕ) → occ x ((book_of p2).entries q) ≡ occ x es) → ForSome of (λ p. 2 ≤ count_of p0 p) → Takes tell p0 p2 height of q
takes tell {p0} {p1} {p2} q height of shows low adds copy sound holds stays knows es leaves same shared =
    let add = added p0 p1 q _ (names height (of ∷ [])) adds sound in
    let single : count_of p2 q ≡ 1
    = beside_single _ leaves (holds_then add holds) 0 q (omega arith) (omega (arith, own_at 0 q)) (added_single p0 p1 q _ adds) in
    let bytes : shown_of p2 q ≡ shows = (stays q).shows ∙ adds.shows in
    record {
      moves = moves_on add (moves_on (moves_with (names 0 (Some q ∷ [])) leaves) (moves_like (λ h p. omega arith) (λ h p. refl)
          (moves_close p2 q height es low single (λ top k past. ap (λ (s : Shown). get_or (entries_in s) k None) bytes ∙ copy_four tell p0 height of shows copy holds top k past) same
          (λ up. ap (λ (s : Shown). length (entries_in s)) bytes ∙ copy_full tell p0 height of shows copy up) (λ up. (stays q).home ∙ adds.changed))));
      knows = knows;
      shows = λ known k. ap (seen tell) (shown_where p1 p2 (λ h x. ℕ) (λ h x on. (stays x).shows) (λ h x k y on is. on) height (Some q) (λ x is. 0) k)
          ∙ copy_same tell p0 p1 q height of shows low adds copy sound holds known k;
      keeps = λ k own. let t = owned_some p0 height of k own in absurd (omega (arith, t.2, shared t.0 t.1));
      single = single;
    }

heirs_down : (height : ℕ) (es : Names) → 1 ≤ height → (h p : ℕ) → heirs height es h p ≡ names (height - 1) es h p
heirs_down zero es up h p = absurd (omega (arith, up))
heirs_down (suc height) es up h p = ap (λ (n : ℕ). names n es h p) (omega arith)

-- the first of the names that are left
module _ (bytes : List ℕ) (k height : ℕ) {o : Option ℕ} (up : 1 ≤ height) (long : length bytes ≡ 512) (small : k < 128)
    (is : get_or (entries_of bytes) k None ≡ o) where
  abbrev pub left : Names
  left = drop (k + 1) (entries_of bytes)

  pub first_left : (h p : ℕ) → heirs height (drop k (entries_of bytes)) h p ≡ names (height - 1) (o ∷ []) h p + heirs height left h p
  first_left h p =
      let next = drop_more (entries_of bytes) k None (omega (arith, entries_length bytes, long, small)) ∙ ap (λ (e : Option ℕ). e ∷ left) is in
      let sum = heirs_sum height (o ∷ []) left (drop k (entries_of bytes)) (λ x.
      let here : occ x (drop k (entries_of bytes)) ≡ occ x (o ∷ left) = ap (occ x) next in omega (arith, here)) h p in
      omega (arith, sum, heirs_down height (o ∷ []) up h p)

-- lists with the same entries name each page equally often
pub occ_alike : (p : ℕ) (es fs : Names) → ((j : ℕ) → get_or es j None ≡ get_or fs j None) → occ p es ≡ occ p fs
occ_alike p [] [] same = refl
occ_alike p [] (f ∷ fs) same = let here : 0 ≡ hit p f = ap (hit p) (same 0) in omega (arith, here, occ_alike p [] fs (λ j. same (suc j)))
occ_alike p (e ∷ es) [] same = let here : hit p e ≡ 0 = ap (hit p) (same 0) in omega (arith, here, occ_alike p es [] (λ j. same (suc j)))
occ_alike p (e ∷ es) (f ∷ fs) same = let here : hit p e ≡ hit p f = ap (hit p) (same 0) in omega (arith, here, occ_alike p es fs (λ j. same (suc j)))

-- a root page that was built is that of one space more
pub frames_built : (tell : Tell) (old new : Pages) (r : ℕ) → (Known tell old → Known tell new) → Moves old new nothing (names 2 (Some r ∷ []))
    → Frames (over old tell) (over new tell) [] (Some r ∷ [])
frames_built tell old new r knows m = frames_of tell old new [] (Some r ∷ []) knows (moves_like (λ h p. sym (names_none 2 [] (λ x. refl) h p)) (λ h p. refl) m)

-- a page that stays in memory, with its bytes
pub table_shown : (shows : Shown) → shows.pinned ≡ true → length (seen None shows) ≡ 512 → table (pasted (seen None shows) 0 []) ≡ shows
table_shown shows pin long = by shows.held refl
  where
    by : (h : List ℕ ⊎ ℕ) → shows.held ≡ h → table (pasted (seen None shows) 0 []) ≡ shows
    by (inl bytes) is = ap (λ (x : List ℕ). table (pasted x 0 [])) (ap (read_by None) is)
        ∙ ap (λ (b : Bool). record { pinned = b; held = inl bytes }) (sym pin) ∙ ap (λ (h : List ℕ ⊎ ℕ). record { pinned = shows.pinned; held = h }) (sym is)
    by (inr block) is = let none : length (seen None shows) ≡ 0 = ap (λ (h : List ℕ ⊎ ℕ). length (read_by None h)) is in absurd (omega (arith, none, long))
