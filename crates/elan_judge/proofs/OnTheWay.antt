-- Whatever refinement is looked at next, what is found of it is what is known in the end; and rounds that begin anywhere on the way
-- find all.
use Rattle.std.proofs.Common.{◌≡◌, ℕ, zero, suc, ◌+◌, ◌-◌, ◌≤◌, Bool, true, false, not, ◌||◌, List, [], ◌∷◌, map, length, Option, Some, None}
use Rattle.std.proofs.Common.{if◌then◌else◌, refl, sym, ap, subst, ◌∙◌, ◌⊎◌, inl, inr, arith}
use Rattle.std.specs.Prelude.{slice_get, slice_index_or, slice_set}
use Rattle.elan_types.specs.declared.core_phrase.Exit.{Exit}
use Rattle.elan_types.specs.declared.core_phrase.Exit.TheVariants as exits
use Rattle.elan_scope.specs.declared.delivery.Delivery.{Delivery}
use Rattle.elan_scope.specs.declared.delivery.Delivery.TheVariants.{Open, Nothing, Of}
use Rattle.elan_judge.specs.Below.elan_names.specs.declared.heading.Heading.{Heading}
use Rattle.elan_scope.specs.declared.known.Known.{Known}
use Rattle.elan_scope.specs.declared.scope.Scope.{Scope}
use Rattle.elan_scope.specs.Known.{delivery_at}
use Rattle.std.specs.Option.{option_or}
use Rattle.elan_scope.specs.Scope.{number_of, left, left_by, exit_from, body_named, is_named}
use Rattle.elan_scope.specs.Phrase.{Phrase, phrase, Parts, none, part}
use Rattle.elan_judge.proofs.InScope.{InScope, AllIn, MayIn}
use Rattle.elan_judge.specs.Refinements.{stated, last_part, last_unit, outcome, unit_delivery, next_all, known_after}
use Rattle.elan_judge.specs.walks.Rounds.{called_if, is_open, any_open}
use Rattle.elan_judge.specs.walks.OnTheWay.{AtMost, LevelAt, bodies_at, IsOnTheWay}
use Rattle.call_graph.proofs.Walks.{In}
use Rattle.elan_judge.proofs.Inferred.{Below}
use Rattle.elan_judge.proofs.Settled.{next_below, next_at, told_at, told_length, at_index, below_trans, step_below, from, From, open_last, calls_are}
use Rattle.elan_judge.proofs.Opened.{waiting}
use Rattle.elan_judge.proofs.Counts.{level_count}
use Rattle.elan_judge.proofs.Steps.{known_with}
use Rattle.elan_judge.proofs.Places.{same_length, IsStated, Places, place_at, level_places}
use Rattle.elan_judge.proofs.Alike.{AllSame, LeftSame, phrase_alike}

-- ---- what a LEAVE leaves

named_is : (hs : List Heading) (o : Option ℕ) (x : List ℕ) (n : ℕ) → body_named hs o x ≡ Some n → o ≡ Some n
named_is hs None x n e = absurd cc
named_is hs (Some m) x n e = by_test (is_named x (slice_get hs m)) e
  where
    by_test : (b : Bool) → (if b then Some m else None) ≡ Some n → Some m ≡ Some n
    by_test true f = f
    by_test false f = absurd cc

left_is : (z : Scope) (x : List ℕ) (e : Exit × ℕ) → left z x ≡ Some e → (z.refinement ≡ Some e.1) ⊎ (number_of z.routine ≡ Some e.1)
left_is z x e h = by_first (body_named z.headings z.refinement x) refl h
  where
    number : (f : Exit) (n : ℕ) → Some (f, n) ≡ Some e → n ≡ e.1
    number f n g = let i : (f, n) ≡ e = cc in ap (λ (p : Exit × ℕ). p.1) i

    by_second : (o : Option ℕ) → body_named z.headings (number_of z.routine) x ≡ o → left_by (exit_from z.refinement) o ≡ Some e
        → number_of z.routine ≡ Some e.1
    by_second None f g = absurd cc
    by_second (Some n) f g =
        named_is z.headings (number_of z.routine) x e.1 (f ∙ ap (λ (m : ℕ). Some m) (number (exit_from z.refinement) n g))

    by_first : (o : Option ℕ) → body_named z.headings z.refinement x ≡ o
        → option_or (left_by exits.Body o) (left_by (exit_from z.refinement) (body_named z.headings (number_of z.routine) x)) ≡ Some e
        → (z.refinement ≡ Some e.1) ⊎ (number_of z.routine ≡ Some e.1)
    by_first None f g = inr (by_second (body_named z.headings (number_of z.routine) x) refl g)
    by_first (Some n) f g = inl (named_is z.headings z.refinement x e.1 (f ∙ ap (λ (m : ℕ). Some m) (number exits.Body n g)))

-- ---- the last unit

parts_in : (z : Scope) (ps : Parts) → AllIn z ps → MayIn z (last_part ps)
parts_in z none h = tt
parts_in z (part p none) h = h.0
parts_in z (part p (part q ps)) h = parts_in z (part q ps) h.1

last_in : (z : Scope) (u : Phrase) → InScope z u → MayIn z (last_unit u)
last_in z (phrase at f ps) h = parts_in z ps h.1

last_alike : (j k : Known) (z : Scope) (calls : j.calls ≡ k.calls) → LeftSame j k z calls → (o : Option Phrase) → MayIn z o
    → AllSame j k z calls (called_if o) → unit_delivery j o ≡ unit_delivery k o
last_alike j k z calls l None i h = refl
last_alike j k z calls l (Some p) i h = ap outcome (phrase_alike j k z calls l p i h)

open_among : (k : Known) (cs : List ℕ) (n : ℕ) → In n cs → delivery_at k n ≡ Open → any_open k cs ≡ true
open_among k [] n i e = absurd i
open_among k (c ∷ cs) n i e =
    elim i [
      | inl f ↦ ap (λ (d : Delivery). is_open d || any_open k cs) (ap (delivery_at k) f ∙ e)
      | inr f ↦ or_right (is_open (delivery_at k c)) (any_open k cs) (open_among k cs n f e)
    ]
  where
    or_right : (a b : Bool) → b ≡ true → (a || b) ≡ true
    or_right true b g = refl
    or_right false b g = g

-- Of all that a unit calls that tells something, something is known.
known_calls : (k : Known) (o : Option Phrase) → (unit_delivery k o ≡ Open → ⊥) → (n : ℕ) → In n (called_if o) → delivery_at k n ≡ Open → ⊥
known_calls k o f n i e = f (waiting k o (open_among k (called_if o) n i e))

open_or : (d : Delivery) → (d ≡ Open) ⊎ (d ≡ Open → ⊥)
open_or Open = inl refl
open_or Nothing = inr (λ e. absurd cc)
open_or (Of t) = inr (λ e. absurd cc)

-- ---- lists

set_length : (ds : List Delivery) (i : ℕ) (d : Delivery) → length (slice_set ds i d) ≡ length ds
set_length [] i d = refl
set_length (c ∷ ds) zero d = refl
set_length (c ∷ ds) (suc i) d = ap suc (set_length ds i d)

set_cases : (ds : List Delivery) (i : ℕ) (d : Delivery) (n : ℕ)
    → (slice_index_or (slice_set ds i d) n Open ≡ slice_index_or ds n Open) ⊎ ((n ≡ i) × (slice_index_or (slice_set ds i d) n Open ≡ d))
set_cases [] i d n = inl refl
set_cases (c ∷ ds) zero d zero = inr (refl, refl)
set_cases (c ∷ ds) zero d (suc n) = inl refl
set_cases (c ∷ ds) (suc i) d zero = inl refl
set_cases (c ∷ ds) (suc i) d (suc n) =
    elim (set_cases ds i d n) [
      | inl e ↦ inl e
      | inr e ↦ inr (ap suc e.0, e.1)
    ]

next_length : (k : Known) (ds : List Delivery) (us : List Phrase) → length (next_all k ds us) ≡ length ds
next_length k [] us = refl
next_length k (d ∷ ds) [] = refl
next_length k (d ∷ ds) (u ∷ us) = ap suc (next_length k ds us)

next_cases : (k : Known) (ds : List Delivery) (us : List Phrase) (i : ℕ)
    → (slice_index_or (next_all k ds us) i Open ≡ slice_index_or ds i Open)
    ⊎ ((u : Phrase) × (slice_get us i ≡ Some u) × (slice_get ds i ≡ Some Open) × (slice_index_or (next_all k ds us) i Open ≡ unit_delivery k (last_unit u)))
next_cases k [] us i = inl refl
next_cases k (d ∷ ds) [] i = inl refl
next_cases k (Open ∷ ds) (u ∷ us) zero = inr (u, refl, refl, refl)
next_cases k (Nothing ∷ ds) (u ∷ us) zero = inl refl
next_cases k (Of t ∷ ds) (u ∷ us) zero = inl refl
next_cases k (Open ∷ ds) (u ∷ us) (suc i) = next_cases k ds us i
next_cases k (Nothing ∷ ds) (u ∷ us) (suc i) = next_cases k ds us i
next_cases k (Of t ∷ ds) (u ∷ us) (suc i) = next_cases k ds us i

same_lists : (as' bs : List Delivery) → length as' ≡ length bs → ((i : ℕ) → slice_index_or as' i Open ≡ slice_index_or bs i Open) → as' ≡ bs
same_lists [] [] e h = refl
same_lists [] (b ∷ bs) e h = absurd (let z : 0 ≡ suc (length bs) = e in omega (arith, z))
same_lists (a ∷ as') [] e h = absurd (let z : suc (length as') ≡ 0 = e in omega (arith, z))
same_lists (a ∷ as') (b ∷ bs) e h =
    ap (λ (d : Delivery). d ∷ as') (h 0)
    ∙ ap (λ (ds : List Delivery). b ∷ ds) (same_lists as' bs (let z : suc (length as') ≡ suc (length bs) = e in omega (arith, z)) (λ i. h (suc i)))

stated_cases : (hs : List Heading) (i : ℕ)
    → (slice_index_or (map (λ h. stated h.what) hs) i Open ≡ Open) ⊎ ((h : Heading) × (slice_get hs i ≡ Some h) × (slice_index_or (map (λ h. stated h.what) hs) i Open ≡ stated h.what))
stated_cases [] i = inl refl
stated_cases (h ∷ hs) zero = inr (h, refl, refl)
stated_cases (h ∷ hs) (suc i) = stated_cases hs i

-- ---- a level

module _ (w : LevelAt) where
  abbrev hs : List Heading
  hs = w.scope.headings

  abbrev us : List Phrase
  us = bodies_at w

  count_is : length hs ≡ length us
  count_is = ap length w.has ∙ level_count w.scope w.level

  places_are : Places hs 0 hs us
  places_are = subst (λ (gs : List Heading). Places gs 0 gs us) (sym w.has) (level_places w.scope w.level w.outside)

  abbrev N : ℕ
  N = length hs

  abbrev K : ℕ → Known
  K n = known_after n hs us

  -- what headings tell is known
  abbrev Tells : Known → Type 0
  Tells k = (i : ℕ) (h : Heading) → slice_get hs i ≡ Some h → (stated h.what ≡ Open → ⊥) → delivery_at k i ≡ stated h.what

  heading_of : (i : ℕ) (u : Phrase) → slice_get us i ≡ Some u → (h : Heading) × (slice_get hs i ≡ Some h)
  heading_of i u e = same_length us hs i u e count_is

  stated_open : (k : Known) → Tells k → (i : ℕ) (h : Heading) → slice_get hs i ≡ Some h → delivery_at k i ≡ Open → stated h.what ≡ Open
  stated_open k t i h e o =
      elim (open_or (stated h.what)) [
        | inl f ↦ f
        | inr f ↦ absurd (f (sym (t i h e f) ∙ o))
      ]

  -- The last unit of a refinement of which nothing is known tells the same where the same is known of all that it calls.
  alike : (j k : Known) → j.calls ≡ k.calls → Tells j → Tells k → (i : ℕ) (u : Phrase) → slice_get us i ≡ Some u → delivery_at j i ≡ Open
      → delivery_at k i ≡ Open → ((n : ℕ) → In n (called_if (last_unit u)) → delivery_at j n ≡ delivery_at k n)
      → unit_delivery j (last_unit u) ≡ unit_delivery k (last_unit u)
  alike j k calls tj tk i u e oj ok same =
      let h = heading_of i u e in
      let z : i ≡ 0 + i = omega arith in
      let p = place_at hs 0 hs us i i h.0 u z places_are h.1 e in
      last_alike j k p.scope calls
      (λ x q l. leaves p.scope (p.stands (stated_open j tj i h.0 h.1 oj)) p.around x q (left_is p.scope x q l))
      (last_unit u) (last_in p.scope u p.in_scope) same
    where
      leaves : (z : Scope) → z.refinement ≡ Some i → ((r : ℕ) → number_of z.routine ≡ Some r → IsStated hs r) → (x : List ℕ) (q : Exit × ℕ)
          → (z.refinement ≡ Some q.1) ⊎ (number_of z.routine ≡ Some q.1) → delivery_at j q.1 ≡ delivery_at k q.1
      leaves z stands around x q l =
          elim l [
            | inl f ↦ (let g : i ≡ q.1 = some_is i q.1 (sym stands ∙ f) in sym (ap (delivery_at j) g) ∙ oj ∙ sym ok ∙ ap (delivery_at k) g)
            | inr f ↦ (let r = around q.1 f in tj q.1 r.0 r.1 r.2 ∙ sym (tk q.1 r.0 r.1 r.2))
          ]
        where
          some_is : (a c : ℕ) → Some a ≡ Some c → a ≡ c
          some_is a c s = cc

  keeps : (k : Known) (ds : List Delivery) (ps : List Phrase) (i : ℕ) (d : Delivery) → slice_get ds i ≡ Some d → (d ≡ Open → ⊥)
      → slice_get (next_all k ds ps) i ≡ Some d
  keeps k [] ps i d e n = e
  keeps k (c ∷ ds) [] i d e n = e
  keeps k (Open ∷ ds) (u ∷ ps) zero d e n = absurd (n (let f : Open ≡ d = cc in sym f))
  keeps k (Nothing ∷ ds) (u ∷ ps) zero d e n = e
  keeps k (Of t ∷ ds) (u ∷ ps) zero d e n = e
  keeps k (Open ∷ ds) (u ∷ ps) (suc i) d e n = keeps k ds ps i d e n
  keeps k (Nothing ∷ ds) (u ∷ ps) (suc i) d e n = keeps k ds ps i d e n
  keeps k (Of t ∷ ds) (u ∷ ps) (suc i) d e n = keeps k ds ps i d e n

  told_after : (n i : ℕ) (h : Heading) → slice_get hs i ≡ Some h → (stated h.what ≡ Open → ⊥) → slice_get (K n).deliveries i ≡ Some (stated h.what)
  told_after zero i h e f = told_at hs i h e
  told_after (suc n) i h e f = keeps (K n) (K n).deliveries us i (stated h.what) (told_after n i h e f) f

  steps_tell : (n : ℕ) → Tells (K n)
  steps_tell n i h e f = at_index (K n).deliveries i (stated h.what) (told_after n i h e f)

  below_end : (n m : ℕ) → Below (K n) (K (m + n))
  below_end n zero = subst (λ (i : ℕ). Below (K n) (K i)) (let z : n ≡ 0 + n = omega arith in z) (refl, λ i. inr refl)
  below_end n (suc m) =
      subst (λ (i : ℕ). Below (K n) (K i)) (let z : suc (m + n) ≡ suc m + n = omega arith in z)
      (below_trans (K n) (K (m + n)) (K (suc (m + n))) (below_end n m) (step_below hs us (m + n)))

  -- what is known after a round
  abbrev pub Round : Known → Known
  Round k = known_with (next_all k k.deliveries us) k.calls

  -- ---- what is found of one refinement

  module _ (k : Known) (s : IsOnTheWay w k) where
    calls_end : (n : ℕ) → k.calls ≡ (K n).calls
    calls_end n = s.calls ∙ sym (calls_are hs us n)

    -- It is what is known in the end, if it is anything.
    pub found_is : (i : ℕ) (u : Phrase) → slice_get us i ≡ Some u → delivery_at k i ≡ Open
        → (unit_delivery k (last_unit u) ≡ Open) ⊎ (unit_delivery k (last_unit u) ≡ delivery_at (K N) i)
    found_is i u e o =
        elim (open_or (unit_delivery k (last_unit u))) [
          | inl f ↦ inl f
          | inr f ↦ (let h = heading_of i u e in let g = from hs us i h.0 u h.1 e N in
              inr (by_end f h.0 h.1 g.0 g.1 g.2 ∙ sym (at_index (K N).deliveries i g.0 g.1)))
        ]
      where
        same_end : (unit_delivery k (last_unit u) ≡ Open → ⊥) → (n : ℕ) → In n (called_if (last_unit u)) → delivery_at k n ≡ delivery_at (K N) n
        same_end f n h =
            elim (s.most n) [
              | inl g ↦ absurd (known_calls k (last_unit u) f n h g)
              | inr g ↦ g
            ]

        at_step : (unit_delivery k (last_unit u) ≡ Open → ⊥) → (j : ℕ) (d : Delivery) → (d ≡ Open → ⊥) → Below (K j) (K N)
            → d ≡ unit_delivery (K j) (last_unit u) → delivery_at (K j) i ≡ Open → unit_delivery k (last_unit u) ≡ d
        at_step f j d known b g oj =
            alike k (K j) (calls_end j) s.tells (steps_tell j) i u e o oj same ∙ sym g
          where
            same : (n : ℕ) → In n (called_if (last_unit u)) → delivery_at k n ≡ delivery_at (K j) n
            same n h =
                elim (b.1 n) [
                  | inl p ↦ absurd (known_calls (K j) (last_unit u) (λ q. known (g ∙ q)) n h p)
                  | inr p ↦ same_end f n h ∙ sym p
                ]

        by_from : (unit_delivery k (last_unit u) ≡ Open → ⊥) → (h : Heading) → (at : slice_get hs i ≡ Some h) → (d : Delivery) → (d ≡ Open → ⊥)
            → From hs us i h u at e N d → unit_delivery k (last_unit u) ≡ d
        by_from f h at d known g =
            elim g [
              | inl q ↦ absurd (known (q ∙ stated_open k s.tells i h at o))
              | inr q ↦ at_step f q.0 d known q.1 q.2 q.3
            ]

        by_end : (unit_delivery k (last_unit u) ≡ Open → ⊥) → (h : Heading) → (at : slice_get hs i ≡ Some h) → (d : Delivery)
            → slice_get (K N).deliveries i ≡ Some d → From hs us i h u at e N d → unit_delivery k (last_unit u) ≡ d
        by_end f h at Open q g =
            let open_end : delivery_at (K N) i ≡ Open = at_index (K N).deliveries i Open q in
            alike k (K N) (calls_end N) s.tells (steps_tell N) i u e o open_end (same_end f) ∙ open_last hs us i h u at e open_end
        by_end f h at Nothing q g = by_from f h at Nothing (λ r. absurd cc) g
        by_end f h at (Of t) q g = by_from f h at (Of t) (λ r. absurd cc) g

    -- ---- one further

    pub after_one : (i : ℕ) (u : Phrase) → slice_get us i ≡ Some u → delivery_at k i ≡ Open → (d : Delivery) → d ≡ unit_delivery k (last_unit u)
        → (ds : List Delivery) → ds ≡ slice_set k.deliveries i d → IsOnTheWay w (known_with ds k.calls)
    after_one i u e o d ed ds es = record {
      calls = s.calls;
      count = ap length es ∙ set_length k.deliveries i d ∙ s.count;
      tells = tells;
      most = most;
    }
      where
        now_at : (n : ℕ) → (slice_index_or ds n Open ≡ delivery_at k n) ⊎ ((n ≡ i) × (slice_index_or ds n Open ≡ d))
        now_at n = subst (λ (l : List Delivery). (slice_index_or l n Open ≡ delivery_at k n) ⊎ ((n ≡ i) × (slice_index_or l n Open ≡ d))) (sym es)
            (set_cases k.deliveries i d n)

        tells : (n : ℕ) (h : Heading) → slice_get hs n ≡ Some h → (stated h.what ≡ Open → ⊥) → slice_index_or ds n Open ≡ stated h.what
        tells n h at f =
            elim (now_at n) [
              | inl g ↦ g ∙ s.tells n h at f
              | inr g ↦ absurd (f (sym (s.tells n h at f) ∙ ap (delivery_at k) g.0 ∙ o))
            ]

        most : (n : ℕ) → (slice_index_or ds n Open ≡ Open) ⊎ (slice_index_or ds n Open ≡ delivery_at (K N) n)
        most n =
            elim (now_at n) [
              | inl g ↦ (elim (s.most n) [
                | inl q ↦ inl (g ∙ q)
                | inr q ↦ inr (g ∙ q)
              ])
              | inr g ↦ (elim (found_is i u e o) [
                | inl q ↦ inl (g.1 ∙ ed ∙ q)
                | inr q ↦ inr (g.1 ∙ ed ∙ q ∙ sym (ap (delivery_at (K N)) g.0))
              ])
            ]

    -- ---- a round

    pub after_round : IsOnTheWay w (Round k)
    after_round = record {
      calls = s.calls;
      count = next_length k k.deliveries us ∙ s.count;
      tells = tells;
      most = most;
    }
      where
        tells : (n : ℕ) (h : Heading) → slice_get hs n ≡ Some h → (stated h.what ≡ Open → ⊥) → delivery_at (Round k) n ≡ stated h.what
        tells n h at f =
            elim (next_below k k.deliveries us n) [
              | inl g ↦ absurd (f (sym (s.tells n h at f) ∙ g))
              | inr g ↦ sym g ∙ s.tells n h at f
            ]

        most : (n : ℕ) → (delivery_at (Round k) n ≡ Open) ⊎ (delivery_at (Round k) n ≡ delivery_at (K N) n)
        most n =
            elim (next_cases k k.deliveries us n) [
              | inl g ↦ (elim (s.most n) [
                | inl q ↦ inl (g ∙ q)
                | inr q ↦ inr (g ∙ q)
              ])
              | inr g ↦ (elim (found_is n g.0 g.1 (at_index k.deliveries n Open g.2)) [
                | inl q ↦ inl (g.3 ∙ q)
                | inr q ↦ inr (g.3 ∙ q)
              ])
            ]

  -- ---- rounds

  pub start : IsOnTheWay w (K 0)
  start = record {
    calls = refl;
    count = told_length hs ∙ count_is;
    tells = steps_tell 0;
    most = λ i. (subst (λ (n : ℕ). Below (K 0) (K n)) (let z : N + 0 ≡ N = omega arith in z) (below_end 0 N)).1 i;
  }

  after_steps : (n : ℕ) → IsOnTheWay w (K n)
  after_steps zero = start
  after_steps (suc n) =
      subst (λ (cs : List (List ℕ)). IsOnTheWay w (known_with (next_all (K n) (K n).deliveries us) cs)) (calls_are hs us n)
      (after_round (K n) (after_steps n))

  module _ (k : Known) (s : IsOnTheWay w k) where
    pub least : AtMost (K 0) k
    least i =
        elim (stated_cases hs i) [
          | inl e ↦ inl e
          | inr q ↦ (elim (open_or (stated q.0.what)) [
            | inl f ↦ inl (q.2 ∙ f)
            | inr f ↦ inr (q.2 ∙ sym (s.tells i q.0 q.1 f))
          ])
        ]

    found_too : (n : ℕ) → AtMost (K n) k → (i : ℕ) (u : Phrase) → slice_get us i ≡ Some u → slice_get (K n).deliveries i ≡ Some Open
        → delivery_at (K (suc n)) i ≡ unit_delivery (K n) (last_unit u) → (unit_delivery (K n) (last_unit u) ≡ Open → ⊥)
        → delivery_at (K (suc n)) i ≡ delivery_at (Round k) i
    found_too n h i u e o q f =
        elim (open_or (delivery_at k i)) [
          | inl ok ↦ (let at = same_length us k.deliveries i u e s.count in
              let c : at.0 ≡ Open = sym (at_index k.deliveries i at.0 at.1) ∙ ok in
              q ∙ alike (K n) k (sym (calls_end k s n)) (steps_tell n) s.tells i u e (at_index (K n).deliveries i Open o) ok same
              ∙ sym (at_index (next_all k k.deliveries us) i (unit_delivery k (last_unit u))
              (next_at k k.deliveries us i Open u (at.1 ∙ ap (λ (d : Delivery). Some d) c) e)))
          | inr known ↦ (elim (next_below k k.deliveries us i) [
            | inl g ↦ absurd (known g)
            | inr g ↦ by_most known g (s.most i) ((after_steps (suc n)).most i)
          ])
        ]
      where
        same : (m : ℕ) → In m (called_if (last_unit u)) → delivery_at (K n) m ≡ delivery_at k m
        same m g =
            elim (h m) [
              | inl p ↦ absurd (known_calls (K n) (last_unit u) f m g p)
              | inr p ↦ p
            ]

        by_most : (delivery_at k i ≡ Open → ⊥) → delivery_at k i ≡ delivery_at (Round k) i
            → (delivery_at k i ≡ Open) ⊎ (delivery_at k i ≡ delivery_at (K N) i)
            → (delivery_at (K (suc n)) i ≡ Open) ⊎ (delivery_at (K (suc n)) i ≡ delivery_at (K N) i) → delivery_at (K (suc n)) i ≡ delivery_at (Round k) i
        by_most known g a b =
            elim a [
              | inl p ↦ absurd (known p)
              | inr p ↦ (elim b [
                | inl r ↦ absurd (f (sym q ∙ r))
                | inr r ↦ r ∙ sym p ∙ g
              ])
            ]

    -- A round begun with no less finds no less.
    pub more : (n : ℕ) → AtMost (K n) k → AtMost (K (suc n)) (Round k)
    more n h i =
        elim (next_cases (K n) (K n).deliveries us i) [
          | inl e ↦ (elim (h i) [
            | inl f ↦ inl (e ∙ f)
            | inr f ↦ (elim (next_below k k.deliveries us i) [
              | inl g ↦ inl (e ∙ f ∙ g)
              | inr g ↦ inr (e ∙ f ∙ g)
            ])
          ])
          | inr q ↦ (elim (open_or (unit_delivery (K n) (last_unit q.0))) [
            | inl f ↦ inl (q.3 ∙ f)
            | inr f ↦ inr (found_too n h i q.0 q.1 q.2 q.3 f)
          ])
        ]

    pub ends : AtMost (K N) k → k ≡ K N
    ends h =
        ap (λ (ds : List Delivery). known_with ds k.calls) lists ∙ ap (λ (cs : List (List ℕ)). known_with (K N).deliveries cs) (calls_end k s N)
      where
        same : (i : ℕ) → delivery_at k i ≡ delivery_at (K N) i
        same i =
            elim (s.most i) [
              | inl o ↦ (elim (h i) [
                | inl p ↦ o ∙ sym p
                | inr p ↦ sym p
              ])
              | inr p ↦ p
            ]

        lists : k.deliveries ≡ (K N).deliveries
        lists = same_lists k.deliveries (K N).deliveries (s.count ∙ sym (after_steps N).count) same

  stays : (k : Known) → IsOnTheWay w k → next_all k k.deliveries us ≡ k.deliveries → (n : ℕ) → AtMost (K n) k → (d m : ℕ) → m ≡ d + n → AtMost (K m) k
  stays k s e n h zero m f = subst (λ (i : ℕ). AtMost (K i) k) (let g : n ≡ m = omega (arith, f) in g) h
  stays k s e n h (suc d) m f =
      subst (λ (i : ℕ). AtMost (K i) k) (let g : suc (d + n) ≡ m = omega (arith, f) in g)
      (subst (λ (l : Known). AtMost (K (suc (d + n))) l) (ap (λ (ds : List Delivery). known_with ds k.calls) e)
      (more k s (d + n) (stays k s e n h d (d + n) refl)))

  -- Where a round changes nothing, all is found.
  pub stable : (k : Known) → IsOnTheWay w k → next_all k k.deliveries us ≡ k.deliveries → (n : ℕ) → n ≤ N → AtMost (K n) k → k ≡ K N
  stable k s e n le h = ends k s (stays k s e n h (N - n) N (let g : N ≡ (N - n) + n = omega (arith, le) in g))

-- ---- what is looked at

-- Nothing is known of a body that is looked at.
pub not_kept : (d : Delivery) (b : Bool) → (not (is_open d) || b) ≡ false → d ≡ Open
not_kept Open b e = refl
not_kept Nothing b e = absurd cc
not_kept (Of t) b e = absurd cc
