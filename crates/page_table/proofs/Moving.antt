-- What the calls of a pool do to names in hand, whatever else stands over it: what pages show, and what is still held.
use Rattle.page_table.proofs.Common.{◌≡◌, ◌≢◌, ◌+◌, ◌<◌, ◌≤◌, ℕ, zero, suc, List, [], ◌∷◌, length, get_or, Option, Some, None, inl, inr, refl, sym, ◌∙◌}
use Rattle.page_table.proofs.Common.{ap, subst, arith, cases_eq, none-some, same_Some, Pages, Shown, Tell, seen, count_of, bytes_of, shown_of, home_of, IsPool, Stays, Adds, Shares, Drops}
use Rattle.page_table.proofs.Common.{Writes, one_same, Names, entries_of, entries_in, book_of, child, occ, named, Hands, names, both, nothing, total, Agrees, AgreeIn}
use Rattle.page_table.proofs.Common.{place, shown, KeepsHomes, Moves, Holds, heirs, numbers, ◌⊎◌, if◌then◌else◌, true, false, Bool}
use Rattle.std.proofs.Math.Logic.{∥∥₁_map, ∥∥₁_elim}
use Rattle.std.proofs.Props.{props}
use mathlib.Core.Sum.{⊎_set}
use Rattle.std.proofs.lemmas.Bool.Decides.{nat_tests}
use Rattle.page_pool.proofs.Sound.{home_lives, low}
use Rattle.page_table.proofs.Counting.{occ_get, named_one, total_names, total_at, names_at, own_at, own_in, step, turns, entries_length}

pub shown_none : (old new : Pages) (h k : ℕ) → shown new h None k ≡ shown old h None k
shown_none old new zero k = refl
shown_none old new (suc h) k = shown_none old new h k

-- the bytes of each page on the way are as they were
pub shown_where : (old new : Pages) (On : ℕ → ℕ → Type 0) → ((h x : ℕ) → On h x → shown_of new x ≡ shown_of old x)
    → ((h x k y : ℕ) → On (suc h) x → child (book_of old) (Some x) k ≡ Some y → On h y)
    → (h : ℕ) (o : Option ℕ) → ((x : ℕ) → o ≡ Some x → On h x) → (k : ℕ) → shown new h o k ≡ shown old h o k
shown_where old new On same down h None on k = shown_none old new h k
shown_where old new On same down zero (Some x) on k = same zero x (on x refl)
shown_where old new On same down (suc h) (Some x) on k =
    ap (λ (s : Shown). shown new h (get_or (entries_in s) (place h k) None) k) (same (suc h) x (on x refl))
    ∙ shown_where old new On same down h (child (book_of old) (Some x) (place h k)) (λ y is. down h x (place h k) y (on x refl) is) k

-- a page on the way down from one that stands at a height
module _ (pages : Pages) (hands : Hands) (a : Agrees (book_of pages) hands) where
  pub child_named : (x k y : ℕ) → 1 ≤ a.height x → child (book_of pages) (Some x) k ≡ Some y → 1 ≤ named (book_of pages) a.height y
  child_named x k y up is =
      omega (arith, named_one (book_of pages) a.height y x up (a.within x up), occ_get ((book_of pages).entries x) k y is)

  pub child_high : (h x k y : ℕ) → a.height x ≡ suc h → child (book_of pages) (Some x) k ≡ Some y → a.height y ≡ h
  child_high h x k y high is = omega (arith, high, a.entry x y (omega (arith, high)) (occ_get ((book_of pages).entries x) k y is))

pub stays_then : {p0 p1 p2 : Pages} {x : ℕ} → Stays p0 p1 x → Stays p1 p2 x → Stays p0 p2 x
stays_then first second = record { shows = second.shows ∙ first.shows; home = second.home ∙ first.home }

pub homes_then : {p0 p1 p2 : Pages} → KeepsHomes p0 p1 → KeepsHomes p1 p2 → KeepsHomes p0 p2
homes_then first second = record { stays = λ p b is. let s = second.stays p b is in stays_then (first.stays p b (sym s.home ∙ is)) s }

-- names in hand in another form
pub in_like : {pages : Pages} {a b : Hands} → ((h p : ℕ) → b h p ≡ a h p) → AgreeIn pages a → AgreeIn pages b
in_like like agree = record {
  sound = agree.sound;
  shares = step _ _ _ _ agree.shares (λ p. omega (arith, like 0 p, like 1 p, like 2 p)) (λ q up. refl) agree.shares.live
      (λ h p low among. agree.shares.held h p low (omega (arith, among, like h p))) agree.shares.marks;
}

-- the same pages
still : {pages : Pages} {a b : Hands} → ((rest : Hands) → AgreeIn pages (both a rest) → AgreeIn pages (both b rest)) → Moves pages pages a b
still turn = record {
  homes = record { stays = λ p b is. record { shows = refl; home = refl } };
  frame = λ rest agree. record { agrees = turn rest agree; same = λ h x k low among. refl; home = λ h x low among. refl; single = λ h x low among once. once };
}

pub moves_none : (pages : Pages) (a : Hands) → Moves pages pages a a
moves_none pages a = still (λ rest agree. agree)

-- one after the other, in another form, beside others
pub moves_on : {p0 p1 p2 : Pages} {a b c : Hands} → Moves p0 p1 a b → Moves p1 p2 b c → Moves p0 p2 a c
moves_on first second = record {
  homes = homes_then first.homes second.homes;
  frame = λ rest agree.
      let f = first.frame rest agree in
      let s = second.frame rest f.agrees in
      record {
        agrees = s.agrees;
        same = λ h x k low among. s.same h x k low among ∙ f.same h x k low among;
        home = λ h x low among. s.home h x low among ∙ f.home h x low among;
        single = λ h x low among once. s.single h x low among (f.single h x low among once);
      };
}

pub moves_like : {old new : Pages} {a b c d : Hands} → ((h p : ℕ) → a h p ≡ b h p) → ((h p : ℕ) → d h p ≡ c h p) → Moves old new a c → Moves old new b d
moves_like before after m = moves_on (still (λ rest. in_like (λ h p. omega (arith, before h p))))
    (moves_on m (still (λ rest. in_like (λ h p. omega (arith, after h p)))))

pub moves_with : {old new : Pages} {a b : Hands} (more : Hands) → Moves old new a b → Moves old new (both a more) (both b more)
moves_with more m = record {
  homes = m.homes;
  frame = λ rest agree.
      let f = m.frame (both more rest) (in_like (λ h p. omega arith) agree) in
      record {
        agrees = in_like (λ h p. omega arith) f.agrees;
        same = λ h x k low among. f.same h x k low (omega (arith, among));
        home = λ h x low among. f.home h x low (omega (arith, among));
        single = λ h x low among. f.single h x low (omega (arith, among));
      };
}

pub number_low : {pages : Pages} {p : ℕ} → IsPool pages → 1 ≤ count_of pages p → p < numbers
unfolding numbers
number_low {pages} {p} sound live = low pages p sound live

-- A page that has one name: as a root or table page its entries are its own, as a content page what they name is in hand.
pub moves_open : (pages : Pages) (q height : ℕ) → height ≤ 2 → count_of pages q ≡ 1
    → Moves pages pages (names height (Some q ∷ [])) (both (names 0 (Some q ∷ [])) (heirs height ((book_of pages).entries q)))
moves_open pages q zero fits single = still (λ rest. in_like (λ h p. omega arith))
moves_open pages q (suc h) fits single = still (λ rest agree.
    let es = (book_of pages).entries q in
    let a = (in_like {b = both (both (names (suc h) (Some q ∷ [])) nothing) rest} (λ n p. omega arith) agree).shares in
    let high : a.height q ≡ suc h = a.held (suc h) q fits (omega (arith, own_at (suc h) q)) in
    record {
      sound = agree.sound;
      shares = turns (book_of pages) q (suc h) 0 nothing (names h es) rest a fits (omega arith) (number_low agree.sound (omega (arith, single))) single
          (λ p. omega (arith, total_names h es p (omega (arith, fits))))
          (λ n p among. let at : n ≡ h = grind (arith, nat_tests, among) in
          omega (arith, a.entry q p (omega (arith, high)) (grind (arith, nat_tests, among)), high, at))
          (λ p up. absurd (omega (arith, up))) (λ e. absurd (omega (arith, e))) (λ up. absurd (omega (arith, up))) (λ up. absurd (omega (arith, up)));
    })

pub moves_close : (pages : Pages) (q height : ℕ) (es : Names) → height ≤ 2 → count_of pages q ≡ 1
    → (height ≡ 2 → (k : ℕ) → 4 ≤ k → child (book_of pages) (Some q) k ≡ None) → ((p : ℕ) → occ p ((book_of pages).entries q) ≡ occ p es)
    → (1 ≤ height → length ((book_of pages).entries q) ≡ 128) → (1 ≤ height → home_of pages q ≡ None)
    → Moves pages pages (both (names 0 (Some q ∷ [])) (heirs height es)) (names height (Some q ∷ []))
moves_close pages q zero es fits single few same full marked = still (λ rest. in_like (λ h p. omega arith))
moves_close pages q (suc h) es fits single few same full marked = still (λ rest agree. in_like {a = both (both (names (suc h) (Some q ∷ [])) nothing) rest}
    (λ n p. omega arith) (record {
      sound = agree.sound;
      shares = turns (book_of pages) q 0 (suc h) (names h es) nothing rest agree.shares (omega arith) fits
          (number_low agree.sound (omega (arith, single))) single (λ p. omega (arith, total_names h es p (omega (arith, fits)), same p))
          (λ n p among. absurd (omega (arith, among)))
          (λ p up among. omega (arith, agree.shares.held h p (omega (arith, fits)) (omega (arith, among, same p, names_at h es p)))) few
          (λ up. full (omega arith)) (λ up p among changed. marked (omega arith));
    }))

-- What a call on page q does: it stays, or nothing that stays names it.
record Fits (old new : Pages) (before after rest : Hands) (q : ℕ) (a : Agrees (book_of old) (both before rest)) : Type 0 where
  held : (h x : ℕ) → h ≤ 2 → 1 ≤ after h x → a.height x ≡ h
  live : (x : ℕ) → 1 ≤ a.height x → 1 ≤ count_of new x
  stays : (Stays old new q) ⊎ ((a.height q ≡ 0) × (total rest q + named (book_of old) a.height q ≡ 0))
  fresh : (x : ℕ) → count_of old x ≡ 1 → total before x + named (book_of old) a.height x ≡ 0 → total after x ≡ 0

moves_fits : (old new : Pages) (before after : Hands) (q : ℕ) → IsPool new → ((b : ℕ) → home_of new q ≡ Some b → Stays old new q)
    → ((x : ℕ) → x ≢ q → Stays old new x) → ((x : ℕ) → count_of new x + total before x ≡ count_of old x + total after x)
    → ((rest : Hands) (a : Agrees (book_of old) (both before rest)) → Fits old new before after rest q a) → Moves old new before after
moves_fits old new before after q sound home others counted fits = record {
  homes = record {
    stays = λ x b is. elim (cases_eq x q) [
      | inl e ↦ subst (Stays old new) (sym e) (home b (ap (home_of new) (sym e) ∙ is))
      | inr ne ↦ others x ne
    ];
  };
  frame = λ rest agree.
      let a = agree.shares in
      let f = fits rest a in
      let Named : ℕ → Type 0 = λ x. 1 ≤ a.height x + (total rest x + named (book_of old) a.height x) in
      let stays : (x : ℕ) → Named x → Stays old new x = λ x on. elim (cases_eq x q) [
        | inl e ↦ elim f.stays [
          | inl same ↦ subst (Stays old new) (sym e) same
          | inr away ↦ absurd (let at : Named q = subst Named e on in omega (arith, at, away.0, away.1))
        ]
        | inr ne ↦ others x ne
      ] in
      let child_on : (x p : ℕ) → 1 ≤ a.height x → 1 ≤ occ p ((book_of old).entries x) → Named p
      = λ x p up among. omega (arith, named_one (book_of old) a.height p x up (a.within x up), among) in
      record {
        agrees = record {
          sound = sound;
          shares = step (book_of old) (book_of new) (both before rest) (both after rest) a (λ x. omega (arith, counted x))
              (λ x up. ap entries_in (stays x (omega (arith, up))).shows) f.live
              (λ h x fits among. grind (arith, among, f.held h x fits, a.held h x fits))
              (λ x p up among changed. (stays x (omega (arith, up))).home ∙ a.marks x p up among (sym (stays p (child_on x p up among)).home ∙ changed));
        };
        same = λ h x k fits among. shown_where old new (λ n y. (a.height y ≡ n) × (Named y)) (λ n y on. (stays y on.1).shows) (λ n y i z on is.
            (child_high old _ a n y i z on.0 is, omega (arith, child_named old _ a y i z (omega (arith, on.0)) is))) h (Some x) (λ y is.
            subst (λ (n : ℕ). (a.height n ≡ h) × (Named n)) (same_Some x y is)
            (a.held h x fits (omega (arith, among)), omega (arith, among, total_at rest h x fits))) k;
        home = λ h x fits among. (stays x (omega (arith, among, total_at rest h x fits))).home;
        single = λ h x fits among once. grind (arith, once, counted x, a.counts x, total_at rest h x fits, among, f.fresh x once);
      };
}

-- a page more, or other bytes of a content page that has one name, in hand
module _ (old new : Pages) (q : ℕ) (shows : Shown) (sound : IsPool new) where
  pub moves_adds : Adds old new q shows → Moves old new nothing (names 0 (Some q ∷ []))
  moves_adds adds = moves_fits old new nothing (names 0 (Some q ∷ [])) q sound (λ b is. absurd (none-some b (sym adds.changed ∙ is))) adds.others
      (λ x. omega (arith, adds.counts x)) (λ rest a.
      let bottom : a.height q ≡ 0 = elim (cases_eq (a.height q) 0) [ inl is ↦ is | inr up ↦ absurd (omega (arith, a.live q (omega (arith, up)), adds.free)) ] in
      record {
        held = λ h x fits own. let at = own_in 0 q h x own in ap a.height at.1 ∙ bottom ∙ sym at.0;
        live = λ x up. omega (arith, a.live x up, adds.counts x);
        stays = inr (bottom, omega (arith, a.counts q, adds.free));
        fresh = λ x once none. grind (arith, nat_tests, once, adds.free);
      })

  pub moves_writes : Writes old new q shows → count_of old q ≡ 1 → Moves old new (names 0 (Some q ∷ [])) (names 0 (Some q ∷ []))
  moves_writes writes single = moves_fits old new (names 0 (Some q ∷ [])) (names 0 (Some q ∷ [])) q sound
      (λ b is. absurd (none-some b (sym writes.changed ∙ is))) writes.others (λ x. omega (arith, writes.counts x)) (λ rest a. record {
        held = λ h x fits own. a.held h x fits (omega (arith, own));
        live = λ x up. omega (arith, a.live x up, writes.counts x);
        stays = inr (a.held 0 q (omega arith) (omega (arith, one_same q q refl)), omega (arith, a.counts q, single, one_same q q refl));
        fresh = λ x once none. omega (arith, none);
      })

-- one name more of a page that stands at a height
pub moves_known : (old new : Pages) (mine : Hands) (p height : ℕ) → IsPool new → Shares old new p → height ≤ 2
    → ((rest : Hands) (a : Agrees (book_of old) (both mine rest)) → (a.height p ≡ height) × (1 ≤ total mine p + named (book_of old) a.height p))
    → Moves old new mine (both mine (names height (Some p ∷ [])))
moves_known old new mine p height sound shares low known = moves_fits old new mine (both mine (names height (Some p ∷ []))) p sound
    (λ b is. shares.each p) (λ x ne. shares.each x)
    (λ x. omega (arith, shares.counts x, total_names height (Some p ∷ []) x low)) (λ rest a. record {
      held = λ h x fits among. grind (arith, nat_tests, among, (known rest a).0, a.held h x fits);
      live = λ x up. omega (arith, a.live x up, shares.counts x);
      stays = inl (shares.each p);
      fresh = λ x once none. grind (arith, nat_tests, none, (known rest a).1, total_names height (Some p ∷ []) x low);
    })

-- one name more for what an entry of a page in hand names
pub moves_shares : (old new : Pages) (q k p height : ℕ) → IsPool new → Shares old new p → 1 ≤ height → height ≤ 2 → child (book_of old) (Some q) k ≡ Some p
    → Moves old new (names height (Some q ∷ [])) (both (names height (Some q ∷ [])) (heirs height (Some p ∷ [])))
moves_shares old new q k p zero sound shares up low is = absurd (omega (arith, up))
moves_shares old new q k p (suc h) sound shares up low is =
    moves_known old new (names (suc h) (Some q ∷ [])) p h sound shares (omega (arith, low)) (λ rest a.
    let high = a.held (suc h) q low (omega (arith, own_at (suc h) q)) in
    let named_p = child_named old _ a q k p (omega (arith, high)) is in
    (child_high old _ a h q k p high is, omega (arith, named_p)))

-- one name less of a content page, or of a page that has others
pub moves_drops : (old new : Pages) (p height : ℕ) → IsPool new → Drops old new p → height ≤ 2 → (height ≡ 0) ⊎ (2 ≤ count_of old p)
    → Moves old new (names height (Some p ∷ [])) nothing
moves_drops old new p height sound drops low which = moves_fits old new (names height (Some p ∷ [])) nothing p sound
    (λ b is. drops.stays p (home_lives new p b sound is)) drops.others
    (λ x. omega (arith, drops.counts x, total_names height (Some p ∷ []) x low)) (λ rest a.
    let high : a.height p ≡ height = a.held height p low (omega (arith, own_at height p)) in
    record {
      held = λ h x fits none. absurd (omega (arith, none));
      live = λ x up. grind (arith, nat_tests, up, high, which, a.live x up, drops.counts x);
      stays = elim (cases_eq (count_of old p) 1) [
        | inl last ↦ inr (grind (arith, high, which, last), omega (arith, a.counts p, total_names height (Some p ∷ []) p low, one_same p p refl, last))
        | inr ne ↦ inl (drops.stays p (omega (arith, ne, drops.counts p, one_same p p refl)))
      ];
      fresh = λ x once none. omega arith;
    })

pub at_least : {A : Type 0} (m n : ℕ) → ∥ A ∥₁ → (A → m ≤ n) → m ≤ n
at_least m n some f = ∥∥₁_elim some (search props) f

pub equal : {A : Type 0} (m n : ℕ) → ∥ A ∥₁ → (A → m ≡ n) → m ≡ n
equal m n some f = ∥∥₁_elim some (search props) f

pub holds_then : {old new : Pages} {a b : Hands} → Moves old new a b → Holds old a → Holds new b
holds_then m holds = record { some = ∥∥₁_map holds.some (λ t. (t.0, (m.frame t.0 t.1).agrees)) }

-- some of the names
pub holds_part : {pages : Pages} {a b : Hands} (more : Hands) → ((h p : ℕ) → a h p ≡ b h p + more h p) → Holds pages a → Holds pages b
holds_part more like holds = record { some = ∥∥₁_map holds.some (λ t. (both more t.0, in_like (λ h p. omega (arith, like h p)) t.1)) }

pub held_as : {pages : Pages} (height : ℕ) {o now : Option ℕ} → o ≡ now → Holds pages (names height (o ∷ [])) → Holds pages (names height (now ∷ []))
held_as {pages} height is = subst (λ (o : Option ℕ). Holds pages (names height (o ∷ []))) is

-- a page in hand lives
pub held_live : (pages : Pages) (height p : ℕ) → height ≤ 2 → Holds pages (names height (Some p ∷ [])) → 1 ≤ count_of pages p
held_live pages height p low holds = at_least 1 (count_of pages p) holds.some (λ t.
    omega (arith, t.1.shares.counts p, total_names height (Some p ∷ []) p low, one_same p p refl))

-- and so do the pages that it names
pub heir_live : (pages : Pages) (height q k p : ℕ) → 1 ≤ height → height ≤ 2 → Holds pages (names height (Some q ∷ []))
    → child (book_of pages) (Some q) k ≡ Some p → 1 ≤ count_of pages p
heir_live pages height q k p up low holds is = at_least 1 (count_of pages p) holds.some (λ t.
    let a = t.1.shares in
    omega (arith, a.counts p, child_named pages _ a q k p (omega (arith, up, a.held height q low (omega (arith, own_at height q)))) is))

-- a root page has four entries
pub held_four : (pages : Pages) (height q : ℕ) → Holds pages (names height (Some q ∷ [])) → height ≡ 2 → (k : ℕ) → 4 ≤ k
    → child (book_of pages) (Some q) k ≡ None
held_four pages height q holds top k past = ∥∥₁_elim holds.some (search props) (λ t.
    t.1.shares.four q k (t.1.shares.held height q (omega (arith, top)) (omega (arith, own_at height q)) ∙ top) past)

-- a root or table page in hand has 128 entries, and stays in memory
pub held_entries : (pages : Pages) (height p : ℕ) → 1 ≤ height → height ≤ 2 → Holds pages (names height (Some p ∷ [])) → length ((book_of pages).entries p) ≡ 128
held_entries pages height p up low holds = equal _ _ holds.some (λ t.
    let a = t.1.shares in a.full p (omega (arith, up, a.held height p low (omega (arith, own_at height p)))))

pub entries_pinned : (shows : Shown) → 1 ≤ length (entries_in shows) → shows.pinned ≡ true
entries_pinned shows some = by shows.pinned refl
  where
    by : (b : Bool) → shows.pinned ≡ b → shows.pinned ≡ true
    by true is = is
    by false is = let none : length (entries_in shows) ≡ 0 = ap (λ (b : Bool). length (if b then entries_of (seen None shows) else [])) is in absurd (omega (arith, none, some))

pub held_pinned : (pages : Pages) (height p : ℕ) → 1 ≤ height → height ≤ 2 → Holds pages (names height (Some p ∷ [])) → (shown_of pages p).pinned ≡ true
held_pinned pages height p up low holds = entries_pinned (shown_of pages p) (omega (arith, held_entries pages height p up low holds))

-- and so do the table pages that it names
pub heir_pinned : (pages : Pages) (h q k p : ℕ) → 1 ≤ h → suc h ≤ 2 → Holds pages (names (suc h) (Some q ∷ []))
    → child (book_of pages) (Some q) k ≡ Some p → (shown_of pages p).pinned ≡ true
heir_pinned pages h q k p up low holds is = entries_pinned (shown_of pages p) (at_least _ _ holds.some (λ t.
    let a = t.1.shares in
    let high : a.height p ≡ h = child_high pages _ a h q k p (a.held (suc h) q low (omega (arith, own_at (suc h) q))) is in
    omega (arith, a.full p (omega (arith, high, up)))))

-- the entries of a page that stays in memory
pub pinned_entries : (shows : Shown) → shows.pinned ≡ true → entries_in shows ≡ entries_of (seen None shows)
pinned_entries shows is = ap (λ (b : Bool). if b then entries_of (seen None shows) else []) is

shown_set : IsSet Shown
shown_set = hlevel (props, ⊎_set)

-- what stands beside a call: its bytes, and that it has one name
module _ {old new : Pages} {a b : Hands} (more : Hands) (m : Moves old new a b) (holds : Holds old (both a more)) where
  pub beside_single : (h q : ℕ) → h ≤ 2 → 1 ≤ more h q → count_of old q ≡ 1 → count_of new q ≡ 1
  beside_single h q low among once = equal _ _ holds.some (λ t.
      (m.frame (both more t.0) (in_like (λ x p. omega arith) t.1)).single h q low (omega (arith, among)) once)

  pub beside_shown : (h q k : ℕ) → h ≤ 2 → 1 ≤ more h q → shown new h (Some q) k ≡ shown old h (Some q) k
  beside_shown h q k low among = ∥∥₁_elim holds.some (shown_set _ _) (λ t.
      (m.frame (both more t.0) (in_like (λ x p. omega arith) t.1)).same h q k low (omega (arith, among)))

  pub beside_home : (h q : ℕ) → h ≤ 2 → 1 ≤ more h q → home_of new q ≡ home_of old q
  beside_home h q low among = ∥∥₁_elim holds.some (search props) (λ t.
      (m.frame (both more t.0) (in_like (λ x p. omega arith) t.1)).home h q low (omega (arith, among)))
