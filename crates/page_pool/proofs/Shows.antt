-- What pages show.
use Rattle.std.proofs.Common.{◌≡◌, ◌≢◌, ◌⊎◌, inl, inr, ℕ, ◌+◌, ◌≤◌, Bool, true, false, ◌||◌, List, take, drop, length, Contains, Option, Some, None, is_some, is_none, IsSome, get_or, set, refl, sym, ◌∙◌, ap, subst, arith}
use Rattle.std.specs.Prelude.{option_map}
use Rattle.std.specs.Option.{ForSome}
use Rattle.std.proofs.lemmas.Option.{same_Some, none-some}
use Rattle.std.proofs.lemmas.Bool.{cases_eq}
use Rattle.page_pool.specs.declared.page.Page.{Page}
use Rattle.page_pool.specs.Pool.{Pages, page_at, counted, count_of, home_in, home_of, kept_in, held_in, at_home, away_in, Shown, shown_in, shown_of, Tell, of_block, read_by, seen, bytes_of, pasted, table}
use Rattle.page_pool.specs.Pool.{IsPage, IsPool, Known, Backed, Stays, Writes, HasBytes, PastesBytes, IsWritten, IsBrought, IsSettled, Settles, DropsClean, Adds, AddsPage, AddsStored}
use Rattle.page_pool.proofs.Sound.{pasted_long, updates_set, Updates}

-- a page with these bytes in memory
pub kept_held : (pages : Pages) (p : ℕ) (page : Page) (bytes : List ℕ) → page_at pages p ≡ Some page → kept_in page ≡ Some bytes
    → shown_of pages p ≡ record { pinned = page.pinned; held = inl bytes }
kept_held pages p page bytes at kept = ap shown_in at ∙ ap (λ (k : Option (List ℕ)). record { pinned = page.pinned; held = held_in k page.home }) kept

pub kept_bytes : (tell : Tell) (pages : Pages) (p : ℕ) (page : Page) (bytes : List ℕ) → page_at pages p ≡ Some page → kept_in page ≡ Some bytes
    → bytes_of tell pages p ≡ bytes
kept_bytes tell pages p page bytes at kept = ap (seen tell) (kept_held pages p page bytes at kept)

-- a page has bytes in memory, or not
pub here : (page : Page) → IsSome page.bytes → (bytes : List ℕ) × (kept_in page ≡ Some bytes)
here page some = by page.bytes refl some
  where
    by : (o : Option _) → page.bytes ≡ o → IsSome o → (bytes : List ℕ) × (option_map (λ b. b.value) page.bytes ≡ Some bytes)
    by None is some = absurd (cc)
    by (Some b) is some = (b.value, ap (option_map (λ b. b.value)) is)

pub not_away : (p : ℕ) (page : Page) → IsPage p page → away_in page ≡ None → IsSome page.bytes
not_away p page sound away = by page.bytes refl page.home refl
  where
    by : (o : Option _) → page.bytes ≡ o → (h : Option ℕ) → page.home ≡ h → IsSome page.bytes
    by (Some b) is h at = ap is_some is
    by None is (Some h) at = absurd (cc (away, is, at))
    by None is None at = grind (arith, is, at, sound.here)

pub is_away : (page : Page) (block : ℕ) → away_in page ≡ Some block → (kept_in page ≡ None) × (page.home ≡ Some block)
is_away page block away = by page.bytes refl
  where
    by : (o : Option _) → page.bytes ≡ o → (option_map (λ b. b.value) page.bytes ≡ None) × (page.home ≡ Some block)
    by (Some b) is = absurd (cc (away, is))
    by None is = (ap (option_map (λ b. b.value)) is, cc (away, is))

module _ (pages : Pages) (p : ℕ) (page : Page) (block : ℕ) (at : page_at pages p ≡ Some page) (away : away_in page ≡ Some block) where
  pub away_home : home_of pages p ≡ Some block
  away_home = ap home_in at ∙ (is_away page block away).1

  pub away_shown : shown_of pages p ≡ record { pinned = page.pinned; held = inr block }
  away_shown = ap shown_in at ∙ ap (λ (k : Option (List ℕ)). record { pinned = page.pinned; held = held_in k page.home }) (is_away page block away).0
      ∙ ap (λ (h : Option ℕ). record { pinned = page.pinned; held = at_home h }) (is_away page block away).1

  pub away_bytes : (tell : Tell) → bytes_of tell pages p ≡ of_block tell block
  away_bytes tell = ap (seen tell) away_shown

-- bytes that were read
pub read_here : (tell : Tell) (pages : Pages) (p : ℕ) (page : Page) (n at : ℕ) (into : List ℕ) → page_at pages p ≡ Some page → IsSome page.bytes
    → ForSome (kept_in page) (λ bytes. into ≡ take n (drop at bytes)) → into ≡ take n (drop at (bytes_of tell pages p))
read_here tell pages p page n at into is some each =
    let h = here page some in each h.0 h.1 ∙ ap (λ (bytes : List ℕ). take n (drop at bytes)) (sym (kept_bytes tell pages p page h.0 is h.1))

-- pages with the same slots
pub same_home : (old new : Pages) → new.slots ≡ old.slots → (p : ℕ) → home_of new p ≡ home_of old p
same_home old new same p = ap (λ (slots : List (Option Page)). home_in (get_or slots p None)) same

-- what is known stays known
pub known_after : (tell later : Tell) (old new : Pages) (block : ℕ) → later ≡ tell
    → ((p b : ℕ) → home_of new p ≡ Some b → home_of old p ≡ Some b)
    → ((entry : ℕ × List ℕ) → Contains new.clean entry → Contains old.clean entry ⊎ ((entry.0 ≡ block) × (IsSome tell → entry.1 ≡ of_block tell block)))
    → Known tell old → Known later new
known_after tell later old new block same homes clean known = subst (λ (t : Tell). Known t new) (sym same) (record {
  told = known.told;
  kept = λ p b bytes home has. elim (clean (b, bytes) has) [
    | inl was ↦ known.kept p b bytes (homes p b home) was
    | inr put ↦ put.1 known.told ∙ ap (of_block tell) (sym put.0)
  ];
})

pub backed_after : {holds later : ℕ → Bool} (old new : Pages) → ((block : ℕ) → holds block ≡ true → later block ≡ true)
    → ((p b : ℕ) → home_of new p ≡ Some b → home_of old p ≡ Some b) → Backed holds old → Backed later new
backed_after old new more homes backed = record { each = λ p b is. more b (backed.each p b (homes p b is)) }

-- a page is another one now
pub record SetAt (old new : Pages) (p : ℕ) (was now : Page) : Type 0 where
  pub slots : new.slots ≡ set old.slots p (Some now)
  pub at : page_at old p ≡ Some was

module _ (old new : Pages) (p : ℕ) (was now : Page) (s : SetAt old new p was now) where
  up : Updates old.slots new.slots p (Some now)
  up = subst (λ (slots : List (Option Page)). Updates old.slots slots p (Some now)) (sym s.slots) (updates_set old.slots p was now s.at)

  pub set_at : page_at new p ≡ Some now
  set_at = up.changed

  pub set_others : (x : ℕ) → x ≢ p → Stays old new x
  set_others x ne = record { shows = ap shown_in (up.others x ne); home = ap home_in (up.others x ne) }

  pub set_counts : now.count ≡ was.count → (x : ℕ) → count_of new x ≡ count_of old x
  set_counts same x = elim (cases_eq x p) [
    | inl e ↦ ap (count_of new) e ∙ ap counted set_at ∙ same ∙ sym (ap counted s.at) ∙ ap (count_of old) (sym e)
    | inr ne ↦ ap counted (up.others x ne)
  ]

  -- what has no home now has none
  pub set_homes : now.home ≡ None → (x b : ℕ) → home_of new x ≡ Some b → home_of old x ≡ Some b
  set_homes none x b is = elim (cases_eq x p) [
    | inl e ↦ absurd (none-some b (sym (ap (home_of new) e ∙ ap home_in set_at ∙ none) ∙ is))
    | inr ne ↦ sym (ap home_in (up.others x ne)) ∙ is
  ]

pub stays_slots : (old mid new : Pages) (x : ℕ) → mid.slots ≡ old.slots → Stays mid new x → Stays old new x
stays_slots old mid new x same s = record {
  shows = s.shows ∙ ap (λ (slots : List (Option Page)). shown_in (get_or slots x None)) same;
  home = s.home ∙ ap (λ (slots : List (Option Page)). home_in (get_or slots x None)) same;
}

pub same_count : (old new : Pages) → new.slots ≡ old.slots → (x : ℕ) → count_of new x ≡ count_of old x
same_count old new same x = ap (λ (slots : List (Option Page)). counted (get_or slots x None)) same

pub same_at : (old new : Pages) → new.slots ≡ old.slots → (x : ℕ) → page_at new x ≡ page_at old x
same_at old new same x = ap (λ (slots : List (Option Page)). get_or slots x None) same

-- pages that are brought, written and settled are pages
kept_some : (page : Page) (bytes : List ℕ) → kept_in page ≡ Some bytes → is_some page.bytes ≡ true
kept_some page bytes kept = by page.bytes refl
  where
    by : (o : Option _) → page.bytes ≡ o → is_some page.bytes ≡ true
    by (Some b) is = ap is_some is
    by None is = absurd (none-some bytes (sym (ap (option_map (λ b. b.value)) is) ∙ kept))

no_home : (pinned : Bool) (home : Option ℕ) → home ≡ None → (pinned || is_none home) ≡ true
no_home true home none = refl
no_home false home none = ap is_none none

pub brought_page : (p : ℕ) (was now : Page) (bytes : List ℕ) → length bytes ≡ 512 → IsBrought was now bytes → IsPage p was → IsPage p now
brought_page p was now bytes long b is = record {
  low = is.low;
  named = omega (arith, is.named, b.count);
  here = kept_some now bytes b.kept ∙ sym (no_home now.pinned now.home b.home);
  long = λ x e. ap length (same_Some x bytes (sym e ∙ b.kept)) ∙ long;
}

pub written_kept : (was now : Page) (at : ℕ) (from bytes : List ℕ) → IsWritten was now at from → kept_in was ≡ Some bytes
    → kept_in now ≡ Some (pasted bytes at from)
written_kept was now at from bytes w kept = w.bytes ∙ ap (option_map (λ (b : List ℕ). pasted b at from)) kept

pub written_page : (p : ℕ) (was now : Page) (at : ℕ) (from : List ℕ) → at + length from ≤ 512 → IsSome was.bytes → IsWritten was now at from → IsPage p was
    → IsPage p now
written_page p was now at from within some w is =
    let h = here was some in
    let kept = written_kept was now at from h.0 w h.1 in
    let long = is.long h.0 h.1 in
    record {
      low = is.low;
      named = omega (arith, is.named, w.count);
      here = kept_some now _ kept ∙ sym (no_home now.pinned now.home w.home);
      long = λ x e. ap length (same_Some x (pasted h.0 at from) (sym e ∙ kept)) ∙ pasted_long h.0 at from (omega (arith, within, long)) ∙ long;
    }

pub settled_page : (p : ℕ) (was now : Page) (block : ℕ) → IsSettled was now block → IsPage p was → IsPage p now
settled_page p was now block s is = by was.pinned refl
  where
    by : (b : Bool) → was.pinned ≡ b → IsPage p now
    by true pin = record {
      low = is.low;
      named = omega (arith, is.named, s.count);
      here = ap is_some (s.table pin) ∙ is.here ∙ ap (λ (b : Bool). b || is_none was.home) pin ∙ sym (ap (λ (b : Bool). b || is_none now.home) (s.pinned ∙ pin));
      long = λ x e. is.long x (sym (ap (option_map (λ b. b.value)) (s.table pin)) ∙ e);
    }
    by false pin = record {
      low = is.low;
      named = omega (arith, is.named, s.count);
      here = ap is_some (s.content pin) ∙ sym (ap (λ (b : Bool). b || is_none now.home) (s.pinned ∙ pin) ∙ ap is_none s.home);
      long = λ x e. absurd (none-some x (sym (ap (option_map (λ b. b.value)) (s.content pin)) ∙ e));
    }

-- a page that shows bytes has them in memory
pub inl-inr : {A B : Type 0} (a : A) (b : B) → ◌≡◌ {A = A ⊎ B} (inl a) (inr b) → ⊥
inl-inr a b e = cc

pub held_here : (pages : Pages) (p : ℕ) (page : Page) (bytes : List ℕ) → IsPool pages → page_at pages p ≡ Some page → (shown_of pages p).held ≡ inl bytes → IsSome page.bytes
held_here pages p page bytes sound at held = by page.bytes refl page.home refl
  where
    is : IsPage p page
    is = sound.each p page at

    shows : held_in (kept_in page) page.home ≡ inl bytes
    shows = sym (ap (λ (s : Shown). s.held) (ap shown_in at)) ∙ held

    by : (o : Option _) → page.bytes ≡ o → (h : Option ℕ) → page.home ≡ h → IsSome page.bytes
    by (Some b) got h home = ap is_some got
    by None got (Some block) home = let e : ◌≡◌ {A = List ℕ ⊎ ℕ} (inl bytes) (inr block) = sym shows ∙ ap (λ (k : Option (List ℕ)). held_in k page.home) (ap (option_map (λ b. b.value)) got) ∙ ap at_home home in absurd (inl-inr bytes block e)
    by None got None home = is.here ∙ no_home page.pinned page.home home

-- a page that has its bytes in memory is written
module _ (tell : Tell) (old mid new : Pages) (p : ℕ) (was now : Page) (at : ℕ) (from : List ℕ) (sound : IsPool mid) (s : SetAt mid new p was now)
    (has : HasBytes tell old mid p) where
  pub is_here : IsSome was.bytes
  is_here = held_here mid p was has.bytes sound s.at has.held

  pub pastes : IsWritten was now at from → PastesBytes tell old new p at from
  pastes w =
      let h = here was is_here in
      let shows = kept_held new p now (pasted h.0 at from) (set_at mid new p was now s) (written_kept was now at from h.0 w h.1) in
      let is : Known tell old → h.0 ≡ bytes_of tell old p = λ known. sym (kept_bytes tell mid p was h.0 s.at h.1) ∙ ap (read_by tell) has.held ∙ has.same known in
      record {
        pinned = ap (λ (x : Shown). x.pinned) shows ∙ w.pinned ∙ sym (ap (λ (x : Shown). x.pinned) (kept_held mid p was h.0 s.at h.1)) ∙ has.pinned;
        bytes = pasted h.0 at from;
        held = ap (λ (x : Shown). x.held) shows;
        same = λ known. (ap (λ (b : List ℕ). pasted b at from) (is known), sym (ap length (is known)) ∙ (sound.each p was s.at).long h.0 h.1);
      }

-- what is known stays known where a page loses its home
pub known_again : (tell : Tell) (old new : Pages) → ((p b : ℕ) → home_of new p ≡ Some b → home_of old p ≡ Some b) → new.clean ≡ old.clean
    → Known tell old → Known tell new
known_again tell old new homes clean known = known_after tell tell old new 0 refl homes
    (λ entry has. inl (subst (λ (es : List (ℕ × List ℕ)). Contains es entry) clean has)) known

-- a page that was made
pub adds_of : (old new : Pages) (p : ℕ) (pins : Bool) (bytes : List ℕ) → AddsPage old new p None pins (Some bytes)
    → Adds old new p (record { pinned = pins; held = inl bytes })
adds_of old new p pins bytes a = record { free = a.free; low = a.low; counts = a.counts; shows = a.shows; changed = a.home; others = a.others }

pub stored_of : (old mid new : Pages) (p block : ℕ) → DropsClean old mid block → AddsPage mid new p (Some block) false None → AddsStored old new p block
stored_of old mid new p block d a = record {
  free = sym (same_count old mid d.slots p) ∙ a.free;
  low = a.low;
  counts = λ x. omega (arith, a.counts x, same_count old mid d.slots x);
  shows = a.shows;
  home = a.home;
  others = λ x ne. stays_slots old mid new x d.slots (a.others x ne);
  clean = λ entry has. d.clean entry (subst (λ (es : List (ℕ × List ℕ)). Contains es entry) a.clean has);
}

-- a root or table page that was written
pub pokes : (tell : Tell) (old new : Pages) (p : ℕ) (was now : Page) (at : ℕ) (from : List ℕ) → IsPool old → SetAt old new p was now → IsSome was.bytes
    → was.pinned ≡ true → now.count ≡ was.count → IsWritten was now at from → Writes old new p (table (pasted (bytes_of tell old p) at from))
pokes tell old new p was now at from sound s some pin count w =
    let h = here was some in
    let shows = kept_held new p now (pasted h.0 at from) (set_at old new p was now s) (written_kept was now at from h.0 w h.1) in
    record {
      counts = set_counts old new p was now s count;
      shows = shows ∙ ap (λ (b : Bool). record { pinned = b; held = inl (pasted h.0 at from) }) (w.pinned ∙ pin)
          ∙ ap (λ (b : List ℕ). table (pasted b at from)) (sym (kept_bytes tell old p was h.0 s.at h.1));
      changed = ap home_in (set_at old new p was now s) ∙ w.home;
      others = set_others old new p was now s;
    }

pub kept_long : (tell : Tell) (pages : Pages) (p : ℕ) (page : Page) → IsPool pages → page_at pages p ≡ Some page → IsSome page.bytes
    → length (bytes_of tell pages p) ≡ 512
kept_long tell pages p page sound at some =
    let h = here page some in ap length (kept_bytes tell pages p page h.0 at h.1) ∙ (sound.each p page at).long h.0 h.1

-- a page that stays in memory or is changed has its bytes there
pub must_here : (pages : Pages) (p : ℕ) (page : Page) → IsPool pages → page_at pages p ≡ Some page
    → ((shown_of pages p).pinned ≡ true) ⊎ (home_of pages p ≡ None) → IsSome page.bytes
must_here pages p page sound at which = elim which [
  | inl pin ↦ (sound.each p page at).here ∙ ap (λ (b : Bool). b || is_none page.home) (sym (ap (λ (x : Shown). x.pinned) (ap shown_in at)) ∙ pin)
  | inr none ↦ (sound.each p page at).here ∙ no_home page.pinned page.home (sym (ap home_in at) ∙ none)
]

-- and it is not read from behind the pool
pub must_stay : (pages : Pages) (p : ℕ) (page : Page) (block : ℕ) → IsPool pages → page_at pages p ≡ Some page → away_in page ≡ Some block
    → ((shown_of pages p).pinned ≡ true) ⊎ (home_of pages p ≡ None) → ⊥
must_stay pages p page block sound at away which =
    let h = here page (must_here pages p page sound at which) in none-some h.0 (sym (is_away page block away).0 ∙ h.1)

-- a page that is settled
pub settles : (old mid new : Pages) (p block : ℕ) (was now : Page) → IsPool mid → DropsClean old mid block → SetAt mid new p was now → new.clean ≡ mid.clean
    → home_of old p ≡ None → IsSettled was now block → Settles old new p block
settles old mid new p block was now sound d s clean changed is =
    let shown_mid : shown_of mid p ≡ shown_of old p = ap shown_in (same_at old mid d.slots p) in
    let none : was.home ≡ None = sym (ap home_in s.at) ∙ same_home old mid d.slots p ∙ changed in
    let h = here was ((sound.each p was s.at).here ∙ no_home was.pinned was.home none) in
    let pin_is : was.pinned ≡ (shown_of old p).pinned = sym (ap (λ (x : Shown). x.pinned) (ap shown_in s.at)) ∙ ap (λ (x : Shown). x.pinned) shown_mid in
    let at = set_at mid new p was now s in
    record {
      counts = λ x. set_counts mid new p was now s is.count x ∙ same_count old mid d.slots x;
      table = λ pin.
          let kept : kept_in now ≡ Some h.0 = ap (option_map (λ b. b.value)) (is.table (pin_is ∙ pin)) ∙ h.1 in
          kept_held new p now h.0 at kept ∙ ap (λ (b : Bool). record { pinned = b; held = inl h.0 }) is.pinned ∙ sym (kept_held mid p was h.0 s.at h.1) ∙ shown_mid;
      content = λ pin. ap shown_in at
          ∙ ap (λ (k : Option (List ℕ)). record { pinned = now.pinned; held = held_in k now.home }) (ap (option_map (λ b. b.value)) (is.content (pin_is ∙ pin)))
          ∙ ap (λ (o : Option ℕ). record { pinned = now.pinned; held = at_home o }) is.home
          ∙ ap (λ (b : Bool). record { pinned = b; held = inr block }) (is.pinned ∙ pin_is ∙ pin);
      home = ap home_in at ∙ is.home;
      others = λ x ne. stays_slots old mid new x d.slots (set_others mid new p was now s x ne);
      clean = λ entry has. d.clean entry (subst (λ (es : List (ℕ × List ℕ)). Contains es entry) clean has);
    }

-- a page more has no home
pub homes_adds : (old new : Pages) (p : ℕ) (shows : Shown) → Adds old new p shows → (x b : ℕ) → home_of new x ≡ Some b → home_of old x ≡ Some b
homes_adds old new p shows a x b is = elim (cases_eq x p) [
  | inl e ↦ absurd (none-some b (sym (ap (home_of new) e ∙ a.changed) ∙ is))
  | inr ne ↦ sym (a.others x ne).home ∙ is
]

pub homes_writes : (old new : Pages) (p : ℕ) (shows : Shown) → Writes old new p shows → (x b : ℕ) → home_of new x ≡ Some b → home_of old x ≡ Some b
homes_writes old new p shows a x b is = elim (cases_eq x p) [
  | inl e ↦ absurd (none-some b (sym (ap (home_of new) e ∙ a.changed) ∙ is))
  | inr ne ↦ sym (a.others x ne).home ∙ is
]
