-- As many steps as there are bodies find out what all refinements deliver whose last units have a meaning.
use Rattle.std.proofs.Common.{◌≡◌, ℕ, zero, suc, ◌+◌, ◌≤◌, List, [], ◌∷◌, map, length, Option, Some, None, refl, sym, ap, subst, ◌∙◌, ◌⊎◌, inl, inr, arith}
use Rattle.std.specs.Prelude.{slice_get, slice_index_or}
use Rattle.elan_types.specs.declared.elan_type.ElanType.{ElanType}
use Rattle.elan_scope.specs.declared.delivery.Delivery.{Delivery}
use Rattle.elan_scope.specs.declared.delivery.Delivery.TheVariants.{Open, Nothing, Of}
use Rattle.elan_judge.specs.Below.elan_names.specs.declared.heading.Heading.{Heading}
use Rattle.elan_meant.specs.declared.meant.Meant.{Meant}
use Rattle.elan_meant.specs.declared.meant.Meant.TheVariants.{Absent, Variable, Value, Done, Left, Labels, Bodies, Level, Start}
use Rattle.elan_scope.specs.Phrase.{Phrase}
use Rattle.elan_scope.specs.Ruled.{Ruled, gives, breaks, hangs}
use Rattle.elan_scope.specs.Known.{delivery_at}
use Rattle.elan_scope.specs.declared.known.Known.{Known}
use Rattle.elan_judge.specs.Shape.{units}
use Rattle.elan_rules.specs.Meaning.{judged}
use Rattle.elan_judge.specs.Refinements.{stated, last_unit, delivery_of, outcome, unit_delivery, next, next_all, called_in, known_after}
use Rattle.elan_judge.proofs.Inferred.{Below, Last, same_meaning, last_delivers}

-- What a phrase with a meaning delivers is known.
pub not_open : (m : Meant) → delivery_of m ≡ Open → ⊥
not_open Absent e = absurd cc
not_open (Variable at t x) e = absurd cc
not_open (Value at t v) e = absurd cc
not_open (Done as') e = absurd cc
not_open (Left as') e = absurd cc
not_open (Labels ns) e = absurd cc
not_open (Start k) e = absurd cc
not_open (Bodies bs) e = absurd cc
not_open (Level as' bs) e = absurd cc

-- ---- what is open

abbrev opens : List Delivery → ℕ
opens [] = 0
opens (Open ∷ ds) = suc (opens ds)
opens (Nothing ∷ ds) = opens ds
opens (Of t ∷ ds) = opens ds

none_left : (n : ℕ) → 0 ≤ n
none_left n = omega arith

one_more : (m n : ℕ) → m ≤ n → suc m ≤ suc n
one_more m n h = omega (arith, h)

up : (m n : ℕ) → m ≤ n → m ≤ suc n
up m n h = omega (arith, h)

few : (ds : List Delivery) → opens ds ≤ length ds
few [] = none_left 0
few (Open ∷ ds) = one_more (opens ds) (length ds) (few ds)
few (Nothing ∷ ds) = up (opens ds) (length ds) (few ds)
few (Of t ∷ ds) = up (opens ds) (length ds) (few ds)

pub told_length : (hs : List Heading) → length (map (λ h. stated h.what) hs) ≡ length hs
told_length [] = refl
told_length (h ∷ hs) = ap suc (told_length hs)

abbrev Steps : List Delivery → List Delivery → Type 0
Steps ds es = (es ≡ ds) ⊎ (suc (opens es) ≤ opens ds)

fewer : (ds es : List Delivery) → Steps ds es → opens es ≤ opens ds
fewer ds es h =
    elim h [
      | inl e ↦ (let i : opens es ≡ opens ds = ap opens e in omega arith)
      | inr l ↦ (let i = l in omega arith)
    ]

-- a further one is found, or nothing changes
with_head : (d : Delivery) (ds es : List Delivery) → Steps ds es → Steps (d ∷ ds) (d ∷ es)
with_head Open ds es h =
    elim h [
      | inl e ↦ inl (ap (λ (l : List Delivery). Open ∷ l) e)
      | inr l ↦ inr (one_more (suc (opens es)) (opens ds) l)
    ]
with_head Nothing ds es h =
    elim h [
      | inl e ↦ inl (ap (λ (l : List Delivery). Nothing ∷ l) e)
      | inr l ↦ inr l
    ]
with_head (Of t) ds es h =
    elim h [
      | inl e ↦ inl (ap (λ (l : List Delivery). Of t ∷ l) e)
      | inr l ↦ inr l
    ]

found_one : (d : Delivery) (ds es : List Delivery) → Steps ds es → Steps (Open ∷ ds) (d ∷ es)
found_one Open ds es h = with_head Open ds es h
found_one Nothing ds es h = inr (one_more (opens es) (opens ds) (fewer ds es h))
found_one (Of t) ds es h = inr (one_more (opens es) (opens ds) (fewer ds es h))

next_steps : (k : Known) (ds : List Delivery) (us : List Phrase) → Steps ds (next_all k ds us)
next_steps k [] us = inl refl
next_steps k (d ∷ ds) [] = inl refl
next_steps k (Open ∷ ds) (u ∷ us) = found_one (unit_delivery k (last_unit u)) ds (next_all k ds us) (next_steps k ds us)
next_steps k (Nothing ∷ ds) (u ∷ us) = with_head Nothing ds (next_all k ds us) (next_steps k ds us)
next_steps k (Of t ∷ ds) (u ∷ us) = with_head (Of t) ds (next_all k ds us) (next_steps k ds us)

-- ---- places in the lists

pub next_below : (k : Known) (ds : List Delivery) (us : List Phrase) (i : ℕ)
    → (slice_index_or ds i Open ≡ Open) ⊎ (slice_index_or ds i Open ≡ slice_index_or (next_all k ds us) i Open)
next_below k [] us i = inl refl
next_below k (d ∷ ds) [] i = inr refl
next_below k (Open ∷ ds) (u ∷ us) zero = inl refl
next_below k (Nothing ∷ ds) (u ∷ us) zero = inr refl
next_below k (Of t ∷ ds) (u ∷ us) zero = inr refl
next_below k (Open ∷ ds) (u ∷ us) (suc i) = next_below k ds us i
next_below k (Nothing ∷ ds) (u ∷ us) (suc i) = next_below k ds us i
next_below k (Of t ∷ ds) (u ∷ us) (suc i) = next_below k ds us i

pub next_at : (k : Known) (ds : List Delivery) (us : List Phrase) (i : ℕ) (d : Delivery) (u : Phrase) → slice_get ds i ≡ Some d → slice_get us i ≡ Some u
    → slice_get (next_all k ds us) i ≡ Some (next k d u)
next_at k [] us i d u e g = absurd cc
next_at k (c ∷ ds) [] i d u e g = absurd cc
next_at k (Open ∷ ds) (v ∷ us) zero d u e g =
    let h : Open ≡ d = cc in let j : v ≡ u = cc in ap (λ (x : Delivery). Some (next k x v)) h ∙ ap (λ (x : Phrase). Some (next k d x)) j
next_at k (Nothing ∷ ds) (v ∷ us) zero d u e g =
    let h : Nothing ≡ d = cc in let j : v ≡ u = cc in ap (λ (x : Delivery). Some (next k x v)) h ∙ ap (λ (x : Phrase). Some (next k d x)) j
next_at k (Of t ∷ ds) (v ∷ us) zero d u e g =
    let h : Of t ≡ d = cc in let j : v ≡ u = cc in ap (λ (x : Delivery). Some (next k x v)) h ∙ ap (λ (x : Phrase). Some (next k d x)) j
next_at k (Open ∷ ds) (v ∷ us) (suc i) d u e g = next_at k ds us i d u e g
next_at k (Nothing ∷ ds) (v ∷ us) (suc i) d u e g = next_at k ds us i d u e g
next_at k (Of t ∷ ds) (v ∷ us) (suc i) d u e g = next_at k ds us i d u e g

pub told_at : (hs : List Heading) (i : ℕ) (h : Heading) → slice_get hs i ≡ Some h → slice_get (map (λ h. stated h.what) hs) i ≡ Some (stated h.what)
told_at [] i h e = absurd cc
told_at (g ∷ hs) zero h e = let j : g ≡ h = cc in ap (λ (x : Heading). Some (stated x.what)) j
told_at (g ∷ hs) (suc i) h e = told_at hs i h e

pub at_index : (ds : List Delivery) (i : ℕ) (d : Delivery) → slice_get ds i ≡ Some d → slice_index_or ds i Open ≡ d
at_index [] i d e = absurd cc
at_index (c ∷ ds) zero d e = cc
at_index (c ∷ ds) (suc i) d e = at_index ds i d e

-- ---- all steps

pub below_trans : (j k l : Known) → Below j k → Below k l → Below j l
below_trans j k l h g = (h.0 ∙ g.0, λ n. both n (h.1 n) (g.1 n))
  where
    both : (n : ℕ) → (delivery_at j n ≡ Open) ⊎ (delivery_at j n ≡ delivery_at k n) → (delivery_at k n ≡ Open) ⊎ (delivery_at k n ≡ delivery_at l n)
        → (delivery_at j n ≡ Open) ⊎ (delivery_at j n ≡ delivery_at l n)
    both n a b =
        elim a [
          | inl e ↦ inl e
          | inr e ↦ (elim b [
            | inl f ↦ inl (e ∙ f)
            | inr f ↦ inr (e ∙ f)
          ])
        ]

module _ (hs : List Heading) (us : List Phrase) where
  abbrev K : ℕ → Known
  K n = known_after n hs us

  abbrev D : ℕ → List Delivery
  D n = (K n).deliveries

  pub calls_are : (n : ℕ) → (K n).calls ≡ map called_in us
  calls_are zero = refl
  calls_are (suc n) = refl

  pub step_below : (n : ℕ) → Below (K n) (K (suc n))
  step_below n = (calls_are n, λ i. next_below (K n) (D n) us i)

  known_same : (n m : ℕ) → D n ≡ D m → K n ≡ K m
  known_same n m e = known_with n ∙ ap (λ (ds : List Delivery). made ds) e ∙ sym (known_with m)
    where
      made : List Delivery → Known
      made ds = record { deliveries = ds; calls = map called_in us }

      known_with : (n : ℕ) → K n ≡ made (D n)
      known_with zero = refl
      known_with (suc n) = refl

  -- after n steps nothing changes any more, or n are found
  settles : (n : ℕ) → (D (suc n) ≡ D n) ⊎ (suc n + opens (D (suc n)) ≤ opens (D 0))
  settles zero =
      elim (next_steps (K 0) (D 0) us) [
        | inl e ↦ inl e
        | inr l ↦ inr (let i : suc (opens (D 1)) ≤ opens (D 0) = l in omega arith)
      ]
  settles (suc n) =
      elim (settles n) [
        | inl e ↦ inl (ap (λ (k : Known). next_all k k.deliveries us) (known_same (suc n) n e))
        | inr l ↦ (elim (next_steps (K (suc n)) (D (suc n)) us) [
          | inl e ↦ inl e
          | inr m ↦ inr (let i : suc (opens (D (suc (suc n)))) ≤ opens (D (suc n)) = m in let j : suc n + opens (D (suc n)) ≤ opens (D 0) = l in omega arith)
        ])
      ]

  pub settled : D (suc (length hs)) ≡ D (length hs)
  settled =
      elim (settles (length hs)) [
        | inl e ↦ e
        | inr l ↦ absurd (let i : suc (length hs) + opens (D (suc (length hs))) ≤ opens (D 0) = l in
            let j : opens (D 0) ≤ length (map (λ h. stated h.what) hs) = few (map (λ h. stated h.what) hs) in let k = told_length hs in omega arith)
      ]

  -- ---- one body

  module _ (i : ℕ) (h : Heading) (u : Phrase) (has : slice_get hs i ≡ Some h) (does : slice_get us i ≡ Some u) where
    -- it is what the heading tells, or was found in the last unit with what was known then
    abbrev pub From : ℕ → Delivery → Type 0
    From n d =
        (d ≡ stated h.what) ⊎ ((j : ℕ) × Below (K j) (K n) × (d ≡ unit_delivery (K j) (last_unit u)) × (delivery_at (K j) i ≡ Open))

    step_from : (n : ℕ) (d : Delivery) → slice_get (D n) i ≡ Some d → From n d → From (suc n) (next (K n) d u)
    step_from n Open at f = inr (n, step_below n, refl, at_index (D n) i Open at)
    step_from n Nothing at f =
        elim f [
          | inl e ↦ inl e
          | inr g ↦ inr (g.0, below_trans (K g.0) (K n) (K (suc n)) g.1 (step_below n), g.2, g.3)
        ]
    step_from n (Of t) at f =
        elim f [
          | inl e ↦ inl e
          | inr g ↦ inr (g.0, below_trans (K g.0) (K n) (K (suc n)) g.1 (step_below n), g.2, g.3)
        ]

    pub from : (n : ℕ) → (d : Delivery) × (slice_get (D n) i ≡ Some d) × From n d
    from zero = (stated h.what, told_at hs i h has, inl refl)
    from (suc n) = let f = from n in (next (K n) f.0 u, next_at (K n) (D n) us i f.0 u f.1 does, step_from n f.0 f.1 f.2)

    abbrev N : ℕ
    N = length hs

    next_known : (k : Known) (d : Delivery) → (d ≡ Open → ⊥) → next k d u ≡ d
    next_known k Open n = absurd (n refl)
    next_known k Nothing n = refl
    next_known k (Of t) n = refl

    stays : (d : Delivery) → (d ≡ Open → ⊥) → stated h.what ≡ d → (n : ℕ) → slice_get (D n) i ≡ Some d
    stays d f e zero = told_at hs i h has ∙ ap (λ (x : Delivery). Some x) e
    stays d f e (suc n) = next_at (K n) (D n) us i d u (stays d f e n) does ∙ ap (λ (x : Delivery). Some x) (next_known (K n) d f)

    -- what the heading tells
    pub told_found : (stated h.what ≡ Open → ⊥) → delivery_at (K N) i ≡ stated h.what
    told_found f = at_index (D N) i (stated h.what) (stays (stated h.what) f refl N)

    last_is : (o : Option Phrase) (m : Meant) → Last (K N) o m → unit_delivery (K N) o ≡ delivery_of m
    last_is None m l = l
    last_is (Some p) m l = ap outcome l.1 ∙ l.2

    outcome_is : (j : ℕ) (p : Phrase) (m n : Meant) (q : Ruled Meant) (d : Delivery) → judged (K j) p ≡ q → Below (K j) (K N) → d ≡ outcome q → (d ≡ Open → ⊥)
        → judged (K N) p ≡ gives n → delivery_of n ≡ delivery_of m → d ≡ delivery_of m
    outcome_is j p m n (gives l) d g b e f i k = e ∙ ap delivery_of (same_meaning (K j) (K N) b p l n g i) ∙ k
    outcome_is j p m n (breaks z) d g b e f i k = absurd (f e)
    outcome_is j p m n hangs d g b e f i k = absurd (f e)

    earlier_is : (j : ℕ) (o : Option Phrase) (m : Meant) (d : Delivery) → Below (K j) (K N) → d ≡ unit_delivery (K j) o → (d ≡ Open → ⊥) → Last (K N) o m
        → d ≡ delivery_of m
    earlier_is j None m d b e f l = e ∙ l
    earlier_is j (Some p) m d b e f l = outcome_is j p m l.0 (judged (K j) p) d refl b e f l.1 l.2

    -- a refinement delivers what its units deliver
    pub refinement_found : (ps : List (Option Phrase)) (m : Meant) → stated h.what ≡ Open → u ≡ units Open ps → judged (K N) u ≡ gives m
        → delivery_at (K N) i ≡ delivery_of m
    refinement_found ps m untold is e =
        let f = from N in
        at_index (D N) i f.0 f.1 ∙ by_delivery f.0 f.1 f.2
      where
        last : Last (K N) (last_unit u) m
        last = subst (λ (v : Phrase). Last (K N) (last_unit v) m) (sym is) (last_delivers (K N) ps m (subst (λ (v : Phrase). judged (K N) v ≡ gives m) is e))

        some_is : (c d : Delivery) → Some c ≡ Some d → c ≡ d
        some_is c d e = cc

        fixed : (d : Delivery) → slice_get (D N) i ≡ Some d → next (K N) d u ≡ d
        fixed d g = some_is (next (K N) d u) d (sym (next_at (K N) (D N) us i d u g does) ∙ ap (λ (ds : List Delivery). slice_get ds i) settled ∙ g)

        known_from : (d : Delivery) → (d ≡ Open → ⊥) → From N d → d ≡ delivery_of m
        known_from d n f =
            elim f [
              | inl g ↦ absurd (n (g ∙ untold))
              | inr g ↦ earlier_is g.0 (last_unit u) m d g.1 g.2 n last
            ]

        nothing_known : Nothing ≡ Open → ⊥
        nothing_known e = absurd cc

        of_known : (t : ElanType) → Of t ≡ Open → ⊥
        of_known t e = absurd cc

        by_delivery : (d : Delivery) → slice_get (D N) i ≡ Some d → From N d → d ≡ delivery_of m
        by_delivery Open g f = absurd (not_open m (sym (last_is (last_unit u) m last) ∙ fixed Open g))
        by_delivery Nothing g f = known_from Nothing nothing_known f
        by_delivery (Of t) g f = known_from (Of t) (of_known t) f

    -- Where nothing is known of a refinement, its last unit tells nothing.
    pub open_last : delivery_at (K N) i ≡ Open → unit_delivery (K N) (last_unit u) ≡ Open
    open_last e =
        let f = from N in
        let g : f.0 ≡ Open = sym (at_index (D N) i f.0 f.1) ∙ e in
        let at : slice_get (D N) i ≡ Some Open = f.1 ∙ ap (λ (d : Delivery). Some d) g in
        some_open (unit_delivery (K N) (last_unit u)) (sym (next_at (K N) (D N) us i Open u at does) ∙ ap (λ (ds : List Delivery). slice_get ds i) settled ∙ at)
      where
        some_open : (d : Delivery) → Some d ≡ Some Open → d ≡ Open
        some_open d e = cc
