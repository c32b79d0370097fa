-- How many pages the spaces have, and calls on spaces, whatever the rest of the spaces is.
use Rattle.std.proofs.Math.Logic.{∥∥₁_map}
use Rattle.std.proofs.lemmas.List.{get_or_past, length-append, append_assoc}
use Rattle.page_pool.proofs.Sound.{count_live}
use Rattle.page_pool.proofs.Used.{used_sum}
use Rattle.page_pool.specs.Pool.{Backed}
use Rattle.page_table.proofs.Common.{KeepsHomes, Bool, true}
use Rattle.page_table.proofs.Common.{◌≡◌, ◌+◌, ◌*◌, ◌<◌, ◌≤◌, ℕ, zero, suc, [], ◌∷◌, length, get_or, Option, Some, None, inl, inr, refl, sym, ◌∙◌, ap, arith}
use Rattle.page_table.proofs.Common.{cases_eq, Pages, Shown, Tell, Over, over, Knows, seen, home_of, count_of, shown_of, used_of, one, sum, one_same, one_other, Names, book_of, hit, occ, inner, named, names}
use Rattle.page_table.proofs.Common.{Agrees, Agree, HasFewNames, ◌-◌, ◌/◌, ◌%◌, List, ◌++◌, subst, none-some, ForSome, child, Hands, both, nothing, shown}
use Rattle.page_table.proofs.Common.{content_at, Frames, Stands, Moves, Holds, named_page, Ready, numbers, most_spaces}
use Rattle.page_table.proofs.Counting.{sum_same, sum_at, sum_put, named_one, entries_length, hit_some, occ-append, names_sum, names_same, names_none}
use Rattle.page_table.proofs.Moving.{number_low, at_least, equal, held_as, in_like, homes_then, moves_like, moves_none, shown_none, child_named, child_high}

pub sum_zero : (n : ℕ) → sum (λ p. 0) n ≡ 0
sum_zero zero = refl
sum_zero (suc n) = omega (arith, sum_zero n)

sum_most : (f g : ℕ → ℕ) (n : ℕ) → ((p : ℕ) → f p ≤ g p) → sum f n ≤ sum g n
sum_most f g zero most = omega arith
sum_most f g (suc n) most = omega (arith, most 0, sum_most (λ p. f (suc p)) (λ p. g (suc p)) n (λ p. most (suc p)))

sum_plus : (f g h : ℕ → ℕ) (n : ℕ) → ((p : ℕ) → h p ≡ f p + g p) → sum h n ≡ sum f n + sum g n
sum_plus f g h zero is = refl
sum_plus f g h (suc n) is = omega (arith, is 0, sum_plus (λ p. f (suc p)) (λ p. g (suc p)) (λ p. h (suc p)) n (λ p. is (suc p)))

-- what so many names of pages of this height are worth: for each the page and all that is below it
abbrev worth : ℕ → ℕ → ℕ
worth zero n = n
worth (suc zero) n = 129 * n
worth (suc (suc h)) n = 517 * n

worth_plus : (h a b c : ℕ) → c ≡ a + b → worth h c ≡ worth h a + worth h b
worth_plus zero a b c is = is
worth_plus (suc zero) a b c is = omega (arith, is)
worth_plus (suc (suc h)) a b c is = omega (arith, is)

abbrev below : ℕ → ℕ
below zero = 0
below (suc zero) = 128
below (suc (suc h)) = 516

worth_below : (h n : ℕ) → (1 ≤ h → 1 ≤ n) → n + below h ≤ worth h n
worth_below zero n some = omega arith
worth_below (suc zero) n some = omega (arith, some (omega arith))
worth_below (suc (suc h)) n some = omega (arith, some (omega arith))

module _ (height : ℕ → ℕ) where
  abbrev worths : (ℕ → ℕ) → ℕ
  worths f = sum (λ p. worth (height p) (f p)) numbers

  worths_plus : (f g h : ℕ → ℕ) → ((p : ℕ) → h p ≡ f p + g p) → worths h ≡ worths f + worths g
  worths_plus f g h is = sum_plus _ _ _ numbers (λ p. worth_plus (height p) (f p) (g p) (h p) (is p))

  worths_none : (f : ℕ → ℕ) → ((p : ℕ) → f p ≡ 0) → worths f ≡ 0
  worths_none f none = sum_same (λ p. 0) _ numbers (λ p. omega (arith, worth_plus (height p) (f p) (f p) (f p) (omega (arith, none p)))) ∙ sum_zero numbers

  worths_hit : (h : ℕ) (o : Option ℕ) → ((q : ℕ) → o ≡ Some q → (height q ≡ h) × (q < numbers)) → worths (λ p. hit p o) ≤ worth h 1
  worths_hit h None each = omega (arith, worths_none (λ p. 0) (λ p. refl))
  worths_hit h (Some q) each =
      let one_at = sum_put (λ p. 0) (λ p. worth (height p) (one p q)) numbers q (each q refl).1
      (λ p ne. omega (arith, worth_plus (height p) (one p q) (one p q) (one p q) (omega (arith, one_other p q (λ e. ne (sym e)))))) in
      omega (arith, one_at, sum_zero numbers, ap (worth (height q)) (one_same q q refl), ap (λ (n : ℕ). worth n 1) (each q refl).0)

  -- names of pages of one height, of which no more than the first so many name a page
  worths_occ : (h m : ℕ) (es : Names) → ((k : ℕ) → m ≤ k → get_or es k None ≡ None) → ((q : ℕ) → 1 ≤ occ q es → (height q ≡ h) × (q < numbers))
      → worths (λ p. occ p es) ≤ worth h m
  worths_occ h m [] few each = omega (arith, worths_none (λ p. 0) (λ p. refl))
  worths_occ h zero (e ∷ es) few each =
      let apart = worths_plus (λ p. hit p e) (λ p. occ p es) (λ p. occ p (e ∷ es)) (λ p. refl) in
      let rest = worths_occ h zero es (λ k up. few (suc k) (omega arith)) (λ q among. each q (omega (arith, among))) in
      omega (arith, apart, worths_none (λ p. hit p e) (λ p. ap (hit p) (few 0 (omega arith))), rest)
  worths_occ h (suc m) (e ∷ es) few each =
      let apart = worths_plus (λ p. hit p e) (λ p. occ p es) (λ p. occ p (e ∷ es)) (λ p. refl) in
      let first = worths_hit h e (λ q is. let here : hit q e ≡ 1 = ap (hit q) is ∙ one_same q q refl in each q (omega (arith, here))) in
      let rest = worths_occ h m es (λ k up. few (suc k) (omega (arith, up))) (λ q among. each q (omega (arith, among))) in
      omega (arith, apart, first, rest, worth_plus h 1 m (suc m) (omega arith))

  worths_sum : (f : ℕ → Names) (g : ℕ → ℕ) (n : ℕ) → ((q : ℕ) → worths (λ p. occ p (f q)) ≤ g q) → worths (λ p. sum (λ q. occ p (f q)) n) ≤ sum g n
  worths_sum f g zero each = omega (arith, worths_none (λ p. 0) (λ p. refl))
  worths_sum f g (suc n) each =
      let apart = worths_plus (λ p. occ p (f 0)) (λ p. sum (λ q. occ p (f (suc q))) n) (λ p. sum (λ q. occ p (f q)) (suc n)) (λ p. refl) in
      omega (arith, apart, each 0, worths_sum (λ q. f (suc q)) (λ q. g (suc q)) n (λ q. each (suc q)))

module _ (pages : Pages) (roots : Names) (agree : Agree pages roots) where
  abbrev a : Agrees (book_of pages) (names 2 roots)
  a = agree.agrees.shares

  number : (p : ℕ) → 1 ≤ count_of pages p → p < numbers
  number p live = number_low agree.agrees.sound live

  entry_number : (q p : ℕ) → 1 ≤ a.height q → 1 ≤ occ p ((book_of pages).entries q) → p < numbers
  entry_number q p up among = number p (omega (arith, a.counts p, named_one (book_of pages) a.height p q up (a.within q up), among))

  entries_worth : (q h : ℕ) → a.height q ≡ h → worths a.height (λ p. occ p (inner h ((book_of pages).entries q))) ≤ below h
  entries_worth q zero is = omega (arith, worths_none a.height (λ p. 0) (λ p. refl))
  entries_worth q (suc zero) is =
      let few = a.full q (omega (arith, is)) in
      worths_occ a.height 0 128 ((book_of pages).entries q)
      (λ k up. get_or_past ((book_of pages).entries q) k None (omega (arith, up, few)))
      (λ p among. (omega (arith, a.entry q p (omega (arith, is)) among, is), entry_number q p (omega (arith, is)) among))
  entries_worth q (suc (suc h)) is = worths_occ a.height 1 4 ((book_of pages).entries q)
      (λ k up. a.four q k (omega (arith, is, a.low q)) up)
      (λ p among. (omega (arith, a.entry q p (omega (arith, is)) among, is, a.low q), entry_number q p (omega (arith, is)) among))

  sum_counts : sum (count_of pages) numbers ≤ 517 * length roots
  sum_counts = omega (
    arith,
    sum_plus (count_of pages) (λ p. below (a.height p)) (λ p. count_of pages p + below (a.height p)) numbers (λ p. refl),
    sum_most (λ p. count_of pages p + below (a.height p)) (λ p. worth (a.height p) (count_of pages p)) numbers (λ p. worth_below (a.height p) _ (a.live p)),
    worths_plus a.height (λ p. occ p roots) (named (book_of pages) a.height) (count_of pages) (λ p. omega (arith, a.counts p)),
    worths_occ a.height 2 (length roots) roots (λ k up. get_or_past roots k None up) (λ q among.
        (a.held 2 q (omega arith) (omega (arith, among)), number q (omega (arith, a.counts q, among)))),
    worths_sum a.height (λ q. inner (a.height q) ((book_of pages).entries q)) (λ q. below (a.height q)) numbers (λ q. entries_worth q (a.height q) refl),
  )

  pub few_pages : used_of pages ≤ 517 * length roots
  few_pages =
      let used = used_sum numbers pages (count_of pages) (λ p live. let some = count_live pages p agree.agrees.sound live in (number p some, some)) in
      omega (arith, sum_counts, used)

  pub few_names : HasFewNames pages
  few_names p = elim (cases_eq (count_of pages p) 0) [
    | inl none ↦ omega (arith, none)
    | inr some ↦ omega (arith, sum_at (count_of pages) numbers p (number p (omega (arith, some))), sum_counts, agree.few)
  ]

pub append_names : (a b : Names) (h p : ℕ) → names 2 (a ++ b) h p ≡ names 2 a h p + names 2 b h p
append_names a b h p = names_sum 2 a b (a ++ b) (λ x. occ-append x a b) h p

-- a content that is shown is the same where its pages are
pub content_same : (old new : Over) (mine later : Option ℕ) → ((k : ℕ) → seen new.tell (shown new.pool 2 later k) ≡ seen old.tell (shown old.pool 2 mine k))
    → (n : ℕ) → content_at new later n ≡ content_at old mine n
content_same old new mine later same n = ap (λ (bytes : List ℕ). get_or bytes (n % 512) 0) (same (n / 512))

each_shown : (old new : Pages) (root : Option ℕ) → ForSome root (λ r. (k : ℕ) → shown new 2 (Some r) k ≡ shown old 2 (Some r) k)
    → (k : ℕ) → shown new 2 root k ≡ shown old 2 root k
each_shown old new None each = shown_none old new 2
each_shown old new (Some r) each = each r refl

pub frames_of : (tell : Tell) (old new : Pages) (before after : Names) → (Knows (over old tell) → Knows (over new tell)) → Moves old new (names 2 before) (names 2 after)
    → Frames (over old tell) (over new tell) before after
frames_of tell old new before after knows m = record {
  tell = refl;
  knows = knows;
  homes = m.homes;
  frame = λ rest a room.
      let f = m.frame (names 2 rest) (in_like (λ h p. sym (append_names before rest h p)) a.agrees) in
      record {
        agrees = record { few = room; agrees = in_like (append_names after rest) f.agrees };
        same = λ root among. content_same (over old tell) (over new tell) root root
            (λ k. ap (seen tell) (each_shown old new root (λ r is k. f.same 2 r k (omega arith) (omega (arith, among r is))) k));
      };
}

pub holds_of : (pages : Pages) (mine : Names) (more : ℕ) → Stands pages mine more → Holds pages (names 2 mine)
holds_of pages mine more stands =
    record { some = ∥∥₁_map stands.some (λ t. (names 2 t.0, in_like (λ h p. sym (append_names mine t.0 h p)) t.1.agrees)) }

-- a table's root page is in hand, and there is room for the pages of the spaces, and for their names
pub ready_of : {pages : Pages} {root now : Option ℕ} {more : ℕ} → root ≡ now → Stands pages (root ∷ []) more → Ready pages (names 2 (now ∷ []))
ready_of {pages} {root} {now} {more} is stands = record {
  held = held_as 2 is (holds_of pages (root ∷ []) more stands);
  few = λ p. at_least _ _ stands.some (λ t. few_names pages ((root ∷ []) ++ t.0) t.1 p);
  room = at_least _ _ stands.some (λ t. omega (arith, few_pages pages ((root ∷ []) ++ t.0) t.1, t.1.few));
}

-- the same names, in any order
pub record Same (a b : Names) : Type 0 where
  pub long : length a ≡ length b
  pub occs : (p : ℕ) → occ p a ≡ occ p b

pub reorder : (pages : Pages) (a b : Names) → Same a b → Agree pages a → Agree pages b
reorder pages a b s g = record { few = omega (arith, s.long, g.few); agrees = in_like (names_same 2 a b (λ p. sym (s.occs p))) g.agrees }

pub same_app : (a b c d : Names) → Same a b → Same c d → Same (a ++ c) (b ++ d)
same_app a b c d s t = record {
  long = omega (arith, length-append a c, length-append b d, s.long, t.long);
  occs = λ p. omega (arith, occ-append p a c, occ-append p b d, s.occs p, t.occs p);
}

pub same_self : (a : Names) → Same a a
same_self a = record { long = refl; occs = λ p. refl }

-- a call in another order, beside others, after another call, and none
pub frames_same : (old new : Over) (a b c d : Names) → Same a b → Same c d → Frames old new a c → Frames old new b d
frames_same old new a b c d s t f = record {
  tell = f.tell;
  knows = f.knows;
  homes = f.homes;
  frame = λ rest g room.
      let back : Same (b ++ rest) (a ++ rest) = let u = same_app a b rest rest s (same_self rest) in record { long = sym u.long; occs = λ p. sym (u.occs p) } in
      let k = f.frame rest (reorder old.pool (b ++ rest) (a ++ rest) back g) (omega (arith, room, length-append c rest, length-append d rest, t.long)) in
      record { agrees = reorder new.pool (c ++ rest) (d ++ rest) (same_app c d rest rest t (same_self rest)) k.agrees; same = k.same };
}

pub frames_more : (old new : Over) (a b more : Names) → Frames old new a b → Frames old new (a ++ more) (b ++ more)
frames_more old new a b more f = record {
  tell = f.tell;
  knows = f.knows;
  homes = f.homes;
  frame = λ rest g room.
      let k = f.frame (more ++ rest) (subst (Agree old.pool) (append_assoc a more rest) g)
      (subst (λ (l : Names). length l ≤ most_spaces) (append_assoc b more rest) room) in
      record {
        agrees = subst (Agree new.pool) (sym (append_assoc b more rest)) k.agrees;
        same = λ root among. k.same root (λ x is. omega (arith, occ-append x more rest, among x is));
      };
}

-- in between there are at most as many spaces as before, or as afterwards
pub frames_then : (p0 p1 p2 : Over) (a b c : Names) → length b ≤ length a + (length c - length a) → Frames p0 p1 a b → Frames p1 p2 b c → Frames p0 p2 a c
frames_then p0 p1 p2 a b c few f g = record {
  tell = g.tell ∙ f.tell;
  knows = λ known. g.knows (f.knows known);
  homes = homes_then f.homes g.homes;
  frame = λ rest agree room.
      let k = f.frame rest agree (omega (arith, few, agree.few, room, length-append a rest, length-append b rest, length-append c rest)) in
      let l = g.frame rest k.agrees room in
      record { agrees = l.agrees; same = λ root among n. l.same root among n ∙ k.same root among n };
}

pub frames_none : (pages : Over) (a : Names) → Frames pages pages a a
frames_none pages a = frames_of pages.tell pages.pool pages.pool a a (λ known. known) (moves_none pages.pool (names 2 a))

pub stands_same : (pages : Pages) (a b : Names) (more : ℕ) → Same a b → Stands pages a more → Stands pages b more
stands_same pages a b more s stands = record {
  some = ∥∥₁_map stands.some (λ t.
      let u = same_app a b t.0 t.0 s (same_self t.0) in
      (t.0, reorder pages (a ++ t.0) (b ++ t.0) u t.1, omega (arith, t.2, u.long)));
}

-- after a call there is the room that its spaces leave
pub stands_after : (old new : Over) (a b : Names) (more less : ℕ) → length b + less ≤ length a + more
    → Frames old new a b → Stands old.pool a more → Stands new.pool b less
stands_after old new a b more less few f stands = record {
  some = ∥∥₁_map stands.some (λ t.
      let room : length (b ++ t.0) + less ≤ most_spaces = omega (arith, few, t.2, length-append a t.0, length-append b t.0) in
      (t.0, (f.frame t.0 t.1 (omega (arith, room))).agrees, room));
}

pub stands_first : (pages : Pages) (a others : Names) (more : ℕ) → Stands pages (a ++ others) more → Stands pages a more
stands_first pages a others more stands = record {
  some = ∥∥₁_map stands.some (λ t.
      let e = append_assoc a others t.0 in
      (others ++ t.0, subst (Agree pages) e t.1, subst (λ (l : Names). length l + more ≤ most_spaces) e t.2));
}

-- a space beside those of the call keeps its bytes
pub beside : (old new : Over) (a b others : Names) (more : ℕ) → length b ≤ length a + more → Frames old new a b
    → Stands old.pool (a ++ others) more → (root : Option ℕ) → ForSome root (λ r. 1 ≤ occ r others) → (n : ℕ) → content_at new root n ≡ content_at old root n
beside old new a b others more few f stands root among n = equal _ _ stands.some (λ t.
    let e = append_assoc a others t.0 in
    let g = subst (Agree old.pool) e t.1 in
    let room : length (a ++ (others ++ t.0)) + more ≤ most_spaces = subst (λ (l : Names). length l + more ≤ most_spaces) e t.2 in
    (f.frame (others ++ t.0) g (omega (arith, few, room, length-append a (others ++ t.0), length-append b (others ++ t.0)))).same root
    (λ x is. omega (arith, occ-append x others t.0, among x is)) n)

-- a name among names
pub named_first : (o : Option ℕ) (more : Names) → ForSome o (λ x. 1 ≤ occ x (o ∷ more))
named_first o more x is = let h : hit x o ≡ 1 = ap (hit x) is ∙ one_same x x refl in omega (arith, h)

pub named_later : (o p : Option ℕ) (more : Names) → ForSome p (λ x. 1 ≤ occ x more) → ForSome p (λ x. 1 ≤ occ x (o ∷ more))
named_later o p more among x is = omega (arith, among x is)

-- whatever holds of the content of a space holds of it after a call that keeps its bytes
pub carries : (old new : Over) (root : Option ℕ) (P : (ℕ → ℕ) → Type 0)
    → ((n : ℕ) → content_at new root n ≡ content_at old root n) → P (content_at old root) → P (content_at new root)
carries old new root P kept held = let same : content_at new root ≡ content_at old root = λ i n. kept n i in subst P (sym same) held

pub frames_nil : (pages : Over) (a b : Names) → ((p : ℕ) → occ p a ≡ 0) → ((p : ℕ) → occ p b ≡ 0) → Frames pages pages a b
frames_nil pages a b none also =
    frames_of pages.tell pages.pool pages.pool a b (λ known. known) (moves_like (λ h p. sym (names_none 2 a none h p)) (names_none 2 b also) (moves_none pages.pool nothing))

-- a page that a space has lives
pub page_live : (pages : Pages) (root : Option ℕ) (more k p : ℕ) → Stands pages (root ∷ []) more → named_page pages root k ≡ Some p → 1 ≤ count_of pages p
page_live pages None more k p stands is = absurd (none-some p is)
page_live pages (Some r) more k p stands is = at_least _ _ (holds_of pages (Some r ∷ []) more stands).some (λ t.
    by t.0 t.1.shares (child (book_of pages) (Some r) (k / 128)) refl is)
  where
    by : (rest : Hands) (a : Agrees (book_of pages) (both (names 2 (Some r ∷ [])) rest)) (o : Option ℕ) → child (book_of pages) (Some r) (k / 128) ≡ o
        → child (book_of pages) o (k % 128) ≡ Some p → 1 ≤ count_of pages p
    by rest a None at is = absurd (none-some p is)
    by rest a (Some t) at is =
        let table = child_high pages _ a 1 r (k / 128) t (a.held 2 r (omega arith) (omega (arith, one_same r r refl))) at in
        omega (arith, a.counts p, child_named pages _ a t (k % 128) p (omega (arith, table)) is)

-- a pool without pages agrees where nothing is named
pub nil_agree : (roots : Names) → ((p : ℕ) → occ p roots ≡ 0) → length roots ≤ most_spaces → Agree (record { slots = []; clean = [] }) roots
nil_agree roots none few = record {
  few = few;
  agrees = in_like {a = nothing} (names_none 2 roots none) (record {
    sound = record { each = λ p page is. absurd (none-some page is) };
    shares = record {
      height = λ p. 0;
      counts = λ p. omega (arith, sum_zero numbers);
      held = λ h p low among. absurd (omega (arith, among));
      entry = λ q p up among. absurd (omega (arith, up));
      live = λ q up. absurd (omega (arith, up));
      within = λ q up. absurd (omega (arith, up));
      low = λ q. omega arith;
      four = λ q k top up. absurd (omega (arith, top));
      full = λ q up. absurd (omega (arith, up));
      marks = λ q p up among. absurd (omega (arith, up));
    };
  });
}

-- the same for all spaces that there are
pub stands_of : (pages : Pages) (mine rest : Names) (more : ℕ) → length (mine ++ rest) + more ≤ most_spaces → ∥ Agree pages (mine ++ rest) ∥₁
    → Stands pages mine more
stands_of pages mine rest more room some = record { some = ∥∥₁_map some (λ a. (rest, a, room)) }

pub agree_after : (old new : Over) (a b rest : Names) → length (b ++ rest) ≤ most_spaces → Frames old new a b → ∥ Agree old.pool (a ++ rest) ∥₁
    → ∥ Agree new.pool (b ++ rest) ∥₁
agree_after old new a b rest room f some = ∥∥₁_map some (λ g. (f.frame rest g room).agrees)

pub agree_same : (pages : Pages) (a b : Names) → Same a b → ∥ Agree pages a ∥₁ → ∥ Agree pages b ∥₁
agree_same pages a b s some = ∥∥₁_map some (reorder pages a b s)

-- a call that keeps the bytes of its own space keeps those of all
pub all_keep : (old new : Over) (mine : Option ℕ) (after rest : Names) → Frames old new (mine ∷ []) after
    → ((n : ℕ) → content_at new mine n ≡ content_at old mine n) → ∥ Agree old.pool (mine ∷ rest) ∥₁ → length (after ++ rest) ≤ most_spaces
    → (root : Option ℕ) → ForSome root (λ x. 1 ≤ occ x (mine ∷ rest)) → (n : ℕ) → content_at new root n ≡ content_at old root n
all_keep old new mine after rest f shows some room None among n =
    equal _ _ some (λ a. (f.frame rest a room).same None (λ x is. absurd (none-some x is)) n)
all_keep old new mine after rest f shows some room (Some x) among n = elim (cases_eq (hit x mine) 0) [
  | inl none ↦ equal _ _ some (λ a. (f.frame rest a room).same (Some x) (λ y is. grind (arith, none, among y is, is)) n)
  | inr hits ↦ subst (λ (o : Option ℕ). content_at new o n ≡ content_at old o n) (hit_some x mine (omega (arith, hits))) (shows n)
]

-- what stands behind the pool holds the homes after a call
pub homes_backed : {holds later : ℕ → Bool} (old new : Pages) → ((block : ℕ) → holds block ≡ true → later block ≡ true) → KeepsHomes old new → Backed holds old → Backed later new
homes_backed old new more homes backed = record { each = λ p b is. more b (backed.each p b (sym (homes.stays p b is).home ∙ is)) }
