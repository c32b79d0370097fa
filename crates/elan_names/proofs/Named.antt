-- What is found among the numbers of a name is what is found among all headings.
use Rattle.std.proofs.Common.{◌≡◌, ℕ, suc, ◌+◌, Bool, true, false, ◌&&◌, if◌then◌else◌, List}
use Rattle.std.proofs.Common.{[], ◌∷◌, ◌++◌, length, Option, Some, None, refl, sym, ap, ◌∙◌, arith}
use Rattle.std.proofs.Common.{◌<◌, ◌≤◌, drop, slice_index_or}
use Rattle.std.specs.Prelude.{slice_get, ◌==◌, is_some}
use Rattle.std.proofs.lemmas.List.{at_drop_more, at_drop_all}
use Rattle.std.specs.Str.{bytes_eq}
use Rattle.std.specs.List.{enumerate_from}
use Rattle.elan_types.specs.declared.elan_type.ElanType.{ElanType}
use Rattle.elan_names.specs.declared.heading.Heading.{Heading}
use Rattle.elan_names.specs.declared.heading.Sort.{Sort}
use Rattle.elan_names.specs.declared.heading.What.{What}
use Rattle.elan_names.specs.declared.heading.What.TheVariants.{Routine, Refinement}
use Rattle.elan_names.specs.Callees.{Body}
use Rattle.std.specs.Option.{option_or}
use Rattle.elan_names.specs.Callables.{Callable, own_callable, own_callables, first, first_heading}
use Rattle.elan_names.specs.Callables.{is_alike, is_routine, is_refined, is_refinement_of, is_called, same_sort, are_many, has_as_many}
use Rattle.elan_names.specs.walks.Numbers.{numbers_from, numbers_named, if_passes, first_among, callable_at, callables_among}

and_left : (a b : Bool) → (a && b) ≡ true → a ≡ true
and_left true b e = refl
and_left false b e = absurd cc

pub and_right : (a b : Bool) → (a && b) ≡ true → b ≡ true
and_right true b e = e
and_right false b e = absurd cc

-- what passes only with a name does not pass without
fails : (a b : Bool) → (a ≡ true → b ≡ true) → b ≡ false → a ≡ false
fails true b h e = absurd (let f : b ≡ true = h refl in cc)
fails false b h e = refl

-- the headings from this number on
abbrev Behind : List Heading → ℕ → List Heading → Type 0
Behind hs k rest = (i : ℕ) → slice_get hs (k + i) ≡ slice_get rest i

next : (hs : List Heading) (k : ℕ) (h : Heading) (rest : List Heading) → Behind hs k (h ∷ rest) → Behind hs (k + 1) rest
next hs k h rest b i = ap (slice_get hs) (let e : (k + 1) + i ≡ k + suc i = omega arith in e) ∙ b (suc i)

here : (hs : List Heading) (k : ℕ) (h : Heading) (rest : List Heading) → Behind hs k (h ∷ rest) → slice_get hs k ≡ Some h
here hs k h rest b = ap (slice_get hs) (let e : k ≡ k + 0 = omega arith in e) ∙ b 0

abbrev pub first_heading_from : ℕ → (Heading → Bool) → List Heading → Option (ℕ × Heading)
first_heading_from n test hs = first (λ b. test b.1) (enumerate_from n hs)

module _ (x : List ℕ) (hs : List Heading) where
  module _ (test : Heading → Bool) (named : (h : Heading) → test h ≡ true → bytes_eq h.name x ≡ true) where
    headings_from : (k : ℕ) (rest : List Heading) → Behind hs k rest → first_among test hs (numbers_from k rest x) ≡ first_heading_from k test rest
    headings_from k [] b = refl
    headings_from k (h ∷ rest) b = by_name (headings_from (k + 1) rest (next hs k h rest b)) (bytes_eq h.name x) refl
      where
        More : Type 0
        More = first_among test hs (numbers_from (k + 1) rest x) ≡ first_heading_from (k + 1) test rest

        by_test : More → (t : Bool) → option_or (if t then Some (k, h) else None) (first_among test hs (numbers_from (k + 1) rest x))
            ≡ (if t then Some (k, h) else first_heading_from (k + 1) test rest)
        by_test more true = refl
        by_test more false = more

        by_name : More → (c : Bool) → bytes_eq h.name x ≡ c
            → first_among test hs (if c then k ∷ numbers_from (k + 1) rest x else numbers_from (k + 1) rest x)
            ≡ (if test h then Some (k, h) else first_heading_from (k + 1) test rest)
        by_name more true e =
            ap (λ (o : Option Heading). option_or (if_passes test k o) (first_among test hs (numbers_from (k + 1) rest x))) (here hs k h rest b)
            ∙ by_test more (test h)
        by_name more false e =
            more ∙ ap (λ (t : Bool). if t then Some (k, h) else first_heading_from (k + 1) test rest) (sym (fails (test h) (bytes_eq h.name x) (named h) e))

    pub headings : first_among test hs (numbers_named hs x) ≡ first_heading test hs
    headings = headings_from 0 hs (λ i. ap (slice_get hs) (let e : 0 + i ≡ i = omega arith in e))

  module _ (test : Callable → Bool) (named : (c : Callable) → test c ≡ true → bytes_eq c.name x ≡ true) where
    same_behind : (ps cs ds : List Callable) → first test cs ≡ first test ds → first test (ps ++ cs) ≡ first test (ps ++ ds)
    same_behind [] cs ds e = e
    same_behind (p ∷ ps) cs ds e = ap (λ (o : Option Callable). if test p then Some p else o) (same_behind ps cs ds e)

    -- of another name
    none_of : (k : ℕ) (y : List ℕ) (w : What) (cs : List Callable) → bytes_eq y x ≡ false → first test (own_callable k y w ++ cs) ≡ first test cs
    none_of k y (Routine sort ps r) cs e = skips (record { sort = sort; name = y; parameters = ps; result = r; callee = Body k }) cs e
      where
        skips : (c : Callable) (cs : List Callable) → bytes_eq c.name x ≡ false → first test (c ∷ cs) ≡ first test cs
        skips c cs f = ap (λ (t : Bool). if t then Some c else first test cs) (fails (test c) (bytes_eq c.name x) (named c) f)
    none_of k y (Refinement home) cs e = refl

    module _ (b : ℕ) where
      callables_from : (k m : ℕ) (rest : List Heading) → Behind hs k rest → m ≡ b + k
          → first test (callables_among b hs (numbers_from k rest x)) ≡ first test (own_callables m rest)
      callables_from k m [] h e = refl
      callables_from k m (g ∷ rest) h e =
          let z : m + 1 ≡ b + (k + 1) = omega arith in
          by_name (callables_from (k + 1) (m + 1) rest (next hs k g rest h) z) (bytes_eq g.name x) refl
        where
          by_name : first test (callables_among b hs (numbers_from (k + 1) rest x)) ≡ first test (own_callables (m + 1) rest)
              → (c : Bool) → bytes_eq g.name x ≡ c
              → first test (callables_among b hs (if c then k ∷ numbers_from (k + 1) rest x else numbers_from (k + 1) rest x))
              ≡ first test (own_callables m (g ∷ rest))
          by_name more true f =
              ap (λ (o : Option Heading). first test (callable_at (b + k) o ++ callables_among b hs (numbers_from (k + 1) rest x))) (here hs k g rest h)
              ∙ ap (λ (n : ℕ). first test (own_callable n g.name g.what ++ callables_among b hs (numbers_from (k + 1) rest x))) (sym e)
              ∙ same_behind (own_callable m g.name g.what) (callables_among b hs (numbers_from (k + 1) rest x)) (own_callables (m + 1) rest) more
          by_name more false f = more ∙ sym (none_of m g.name g.what (own_callables (m + 1) rest) f)

      pub callables : first test (callables_among b hs (numbers_named hs x)) ≡ first test (own_callables b hs)
      callables =
          let z : b ≡ b + 0 = omega arith in
          callables_from 0 b hs (λ i. ap (slice_get hs) (let e : 0 + i ≡ i = omega arith in e)) z

-- ---- tests that pass only with a name

pub alike_named : (sort : Sort) (x : List ℕ) (ts : List ElanType) (h : Heading) → is_alike sort x ts h ≡ true → bytes_eq h.name x ≡ true
alike_named sort x ts h e = and_left (bytes_eq h.name x) (is_routine sort ts h.what) e

pub refined_named : (home : Option ℕ) (x : List ℕ) (h : Heading) → is_refined home x h ≡ true → bytes_eq h.name x ≡ true
refined_named home x h e = and_left (bytes_eq h.name x) (is_refinement_of home h.what) e

-- what is called so, and more
pub called_named : (sort : Sort) (x : List ℕ) (more : Bool) (c : Callable) → (is_called sort x c && more) ≡ true → bytes_eq c.name x ≡ true
called_named sort x more c e = and_right (same_sort sort c.sort) (bytes_eq c.name x) (and_left (is_called sort x c) more e)

-- ---- what look-ups find

pub alike_first : (sort : Sort) (x : List ℕ) (ts : List ElanType) (hs : List Heading)
    → first_among (is_alike sort x ts) hs (numbers_named hs x) ≡ first_heading (is_alike sort x ts) hs
alike_first sort x ts hs = headings x hs (is_alike sort x ts) (alike_named sort x ts)

pub refined_first : (home : Option ℕ) (x : List ℕ) (hs : List Heading)
    → first_among (is_refined home x) hs (numbers_named hs x) ≡ first_heading (is_refined home x) hs
refined_first home x hs = headings x hs (is_refined home x) (refined_named home x)

pub callables_known : (sort : Sort) (x : List ℕ) (count : Option ℕ) (b : ℕ) (hs : List Heading)
    → first (has_as_many sort x count) (callables_among b hs (numbers_named hs x)) ≡ first (has_as_many sort x count) (own_callables b hs)
callables_known sort x count b hs = callables x hs (has_as_many sort x count) (λ c. called_named sort x (are_many count c.parameters) c) b

-- ---- one number after another

module _ (test : Heading → Bool) (hs : List Heading) (w : Option (ℕ × Heading)) (ns : List ℕ) (i : ℕ) (h : first_among test hs (drop i ns) ≡ w) where
  -- the number at this place, and those behind it
  among_open : i < length ns
      → option_or (if_passes test (slice_index_or ns i 0) (slice_get hs (slice_index_or ns i 0))) (first_among test hs (drop (i + 1) ns)) ≡ w
  among_open lt = sym (at_drop_more (first_among test hs) ns i 0 lt) ∙ h

  pub among_found : (r : ℕ × Heading) → i < length ns → if_passes test (slice_index_or ns i 0) (slice_get hs (slice_index_or ns i 0)) ≡ Some r → Some r ≡ w
  among_found r lt e = ap (λ (o : Option (ℕ × Heading)). option_or o (first_among test hs (drop (i + 1) ns))) (sym e) ∙ among_open lt

  pub among_next : i < length ns → if_passes test (slice_index_or ns i 0) (slice_get hs (slice_index_or ns i 0)) ≡ None
      → first_among test hs (drop (i + 1) ns) ≡ w
  among_next lt e = ap (λ (o : Option (ℕ × Heading)). option_or o (first_among test hs (drop (i + 1) ns))) (sym e) ∙ among_open lt

  pub among_end : length ns ≤ i → None ≡ w
  among_end le = sym (at_drop_all (first_among test hs) ns i le) ∙ h

module _ (test : Callable → Bool) (b : ℕ) (hs : List Heading) (w : Option Callable) (ns : List ℕ) (i : ℕ)
    (h : first test (callables_among b hs (drop i ns)) ≡ w) where
  callables_open : i < length ns
      → first test (callable_at (b + slice_index_or ns i 0) (slice_get hs (slice_index_or ns i 0)) ++ callables_among b hs (drop (i + 1) ns)) ≡ w
  callables_open lt = sym (at_drop_more (λ (ms : List ℕ). first test (callables_among b hs ms)) ns i 0 lt) ∙ h

  found_before : (cs ds : List Callable) (c : Callable) → first test cs ≡ Some c → first test (cs ++ ds) ≡ Some c
  found_before [] ds c e = absurd cc
  found_before (d ∷ cs) ds c e = by_test (found_before cs ds c) (test d) e
    where
      by_test : (first test cs ≡ Some c → first test (cs ++ ds) ≡ Some c) → (t : Bool) → (if t then Some d else first test cs) ≡ Some c
          → (if t then Some d else first test (cs ++ ds)) ≡ Some c
      by_test more true f = f
      by_test more false f = more f

  none_before : (cs ds : List Callable) → first test cs ≡ None → first test (cs ++ ds) ≡ first test ds
  none_before [] ds e = refl
  none_before (d ∷ cs) ds e = by_test (none_before cs ds) (test d) e
    where
      by_test : (first test cs ≡ None → first test (cs ++ ds) ≡ first test ds) → (t : Bool) → (if t then Some d else first test cs) ≡ None
          → (if t then Some d else first test (cs ++ ds)) ≡ first test ds
      by_test more true f = absurd cc
      by_test more false f = more f

  pub callables_found : (c : Callable) → i < length ns → first test (callable_at (b + slice_index_or ns i 0) (slice_get hs (slice_index_or ns i 0))) ≡ Some c
      → Some c ≡ w
  callables_found c lt e =
      sym (found_before (callable_at (b + slice_index_or ns i 0) (slice_get hs (slice_index_or ns i 0))) (callables_among b hs (drop (i + 1) ns)) c e)
      ∙ callables_open lt

  pub callables_next : i < length ns → first test (callable_at (b + slice_index_or ns i 0) (slice_get hs (slice_index_or ns i 0))) ≡ None
      → first test (callables_among b hs (drop (i + 1) ns)) ≡ w
  callables_next lt e =
      sym (none_before (callable_at (b + slice_index_or ns i 0) (slice_get hs (slice_index_or ns i 0))) (callables_among b hs (drop (i + 1) ns)) e)
      ∙ callables_open lt

  pub callables_end : length ns ≤ i → None ≡ w
  callables_end le = sym (at_drop_all (λ (ms : List ℕ). first test (callables_among b hs ms)) ns i le) ∙ h

-- ---- what is there, or not

pub none_there : {A : Type 0} (o : Option A) → is_some o ≡ false → o ≡ None
none_there None e = refl
none_there (Some x) e = absurd cc

pub some_there : {A : Type 0} (o : Option A) → is_some o ≡ true → (x : A) × (o ≡ Some x)
some_there None e = absurd cc
some_there (Some x) e = (x, refl)

-- whatever passes has this number
pub number_is : (test : Heading → Bool) (n : ℕ) (o : Option Heading) (r : ℕ × Heading) → if_passes test n o ≡ Some r → r.0 ≡ n
number_is test n None r e = absurd cc
number_is test n (Some h) r e = by_test (test h) e
  where
    by_test : (t : Bool) → (if t then Some (n, h) else None) ≡ Some r → r.0 ≡ n
    by_test true f = let g : (n, h) ≡ r = cc in ap (λ (p : ℕ × Heading). p.0) (sym g)
    by_test false f = absurd cc
