-- A walk from call to call that never comes back does not go on for ever.
use Rattle.std.proofs.Common.{◌≡◌, ℕ, zero, suc, ◌+◌, Bool, true, false, ◌||◌, List, [], ◌∷◌, length, Some, refl, sym, ap, subst, ◌∙◌, ◌⊎◌, inl}
use Rattle.std.specs.List.{list_any}
use Rattle.std.proofs.Common.{inr, arith, eq-eqb, eqb-true}
use Rattle.std.specs.Prelude.{slice_get, slice_index_or, ◌==◌}
use Rattle.call_graph.specs.Chains.{leads}

abbrev pub In : ℕ → List ℕ → Type 0
In n [] = ⊥
In n (x ∷ xs) = (x ≡ n) ⊎ In n xs

either : (a b : Bool) → (a || b) ≡ true → (a ≡ true) ⊎ (b ≡ true)
either true b e = inl refl
either false b e = inr e

or_left : (a b : Bool) → a ≡ true → (a || b) ≡ true
or_left true b e = refl
or_left false b e = absurd cc

or_right : (a b : Bool) → b ≡ true → (a || b) ≡ true
or_right true b e = refl
or_right false b e = e

any_in : (f : ℕ → Bool) (xs : List ℕ) (x : ℕ) → In x xs → f x ≡ true → list_any f xs ≡ true
any_in f [] x h e = absurd h
any_in f (y ∷ xs) x h e =
    elim h [
      | inl i ↦ or_left (f y) (list_any f xs) (ap f i ∙ e)
      | inr i ↦ or_right (f y) (list_any f xs) (any_in f xs x i e)
    ]

in_any : (f : ℕ → Bool) (xs : List ℕ) → list_any f xs ≡ true → (x : ℕ) × In x xs × (f x ≡ true)
in_any f [] e = absurd cc
in_any f (y ∷ xs) e =
    elim (either (f y) (list_any f xs) e) [
      | inl i ↦ (y, inl refl, i)
      | inr i ↦ (let r = in_any f xs i in (r.0, inr r.1, r.2))
    ]

same_is : (a b : ℕ) → (a == b) ≡ true → a ≡ b
same_is a b e = eqb-true a b e

is_same : (a : ℕ) → (a == a) ≡ true
is_same a = eq-eqb a a refl

-- ---- marks

abbrev frees : List Bool → ℕ
frees [] = 0
frees (true ∷ bs) = frees bs
frees (false ∷ bs) = suc (frees bs)

abbrev mark : ℕ → List Bool → List Bool
mark n [] = []
mark zero (b ∷ bs) = true ∷ bs
mark (suc n) (b ∷ bs) = b ∷ mark n bs

mark_length : (n : ℕ) (bs : List Bool) → length (mark n bs) ≡ length bs
mark_length n [] = refl
mark_length zero (b ∷ bs) = refl
mark_length (suc n) (b ∷ bs) = ap suc (mark_length n bs)

mark_frees : (n : ℕ) (bs : List Bool) → slice_get bs n ≡ Some false → suc (frees (mark n bs)) ≡ frees bs
mark_frees n [] e = absurd cc
mark_frees zero (true ∷ bs) e = absurd cc
mark_frees zero (false ∷ bs) e = refl
mark_frees (suc n) (true ∷ bs) e = mark_frees n bs e
mark_frees (suc n) (false ∷ bs) e = ap suc (mark_frees n bs e)

marked : (n m : ℕ) (bs : List Bool) → slice_get (mark n bs) m ≡ Some true → (m ≡ n) ⊎ (slice_get bs m ≡ Some true)
marked n m [] e = absurd cc
marked zero zero (b ∷ bs) e = inl refl
marked zero (suc m) (b ∷ bs) e = inr e
marked (suc n) zero (b ∷ bs) e = inr e
marked (suc n) (suc m) (b ∷ bs) e =
    elim (marked n m bs e) [
      | inl i ↦ inl (ap suc i)
      | inr i ↦ inr i
    ]

abbrev unmarked : {A : Type 0} → List A → List Bool
unmarked [] = []
unmarked (x ∷ xs) = false ∷ unmarked xs

unmarked_length : {A : Type 0} (xs : List A) → length (unmarked xs) ≡ length xs
unmarked_length [] = refl
unmarked_length (x ∷ xs) = ap suc (unmarked_length xs)

unmarked_frees : {A : Type 0} (xs : List A) → frees (unmarked xs) ≡ length xs
unmarked_frees [] = refl
unmarked_frees (x ∷ xs) = ap suc (unmarked_frees xs)

none_marked : {A : Type 0} (xs : List A) (m : ℕ) → slice_get (unmarked xs) m ≡ Some true → ⊥
none_marked [] m e = cc
none_marked (x ∷ xs) zero e = cc
none_marked (x ∷ xs) (suc m) e = none_marked xs m e

-- ---- chains

module _ (calls : List (List ℕ)) where
  abbrev calls_of : ℕ → List ℕ
  calls_of a = slice_index_or calls a []

  leads_self : (i a : ℕ) → leads i calls a a ≡ true
  leads_self zero a = is_same a
  leads_self (suc i) a = or_left (a == a) (list_any (λ c. leads i calls c a) (calls_of a)) (is_same a)

  leads_first : (i a c b : ℕ) → In c (calls_of a) → leads i calls c b ≡ true → leads (suc i) calls a b ≡ true
  leads_first i a c b h e = or_right (a == b) (list_any (λ d. leads i calls d b) (calls_of a)) (any_in (λ d. leads i calls d b) (calls_of a) c h e)

  leads_more : (i a b : ℕ) → leads i calls a b ≡ true → leads (suc i) calls a b ≡ true
  leads_more zero a b e = or_left (a == b) (list_any (λ d. leads zero calls d b) (calls_of a)) e
  leads_more (suc i) a b e =
      elim (either (a == b) (list_any (λ d. leads i calls d b) (calls_of a)) e) [
        | inl f ↦ or_left (a == b) (list_any (λ d. leads (suc i) calls d b) (calls_of a)) f
        | inr f ↦ (let r = in_any (λ d. leads i calls d b) (calls_of a) f in leads_first (suc i) a r.0 b r.1 (leads_more i r.0 b r.2))
      ]

  leads_by : (j i a b : ℕ) → leads i calls a b ≡ true → leads (j + i) calls a b ≡ true
  leads_by zero i a b e = let z : 0 + i ≡ i = omega arith in ap (λ (n : ℕ). leads n calls a b) z ∙ e
  leads_by (suc j) i a b e = let z : suc j + i ≡ suc (j + i) = omega arith in ap (λ (n : ℕ). leads n calls a b) z ∙ leads_more (j + i) a b (leads_by j i a b e)

  leads_last : (i a c d : ℕ) → leads i calls a c ≡ true → In d (calls_of c) → leads (suc i) calls a d ≡ true
  leads_last zero a c d e h = leads_first zero a d d (subst (λ (x : ℕ). In d (calls_of x)) (sym (same_is a c e)) h) (leads_self zero d)
  leads_last (suc i) a c d e h =
      elim (either (a == c) (list_any (λ x. leads i calls x c) (calls_of a)) e) [
        | inl f ↦ leads_first (suc i) a d d (subst (λ (x : ℕ). In d (calls_of x)) (sym (same_is a c f)) h) (leads_self (suc i) d)
        | inr f ↦ (let r = in_any (λ x. leads i calls x c) (calls_of a) f in leads_first (suc i) a r.0 d r.1 (leads_last i r.0 c d r.2 h))
      ]

-- a call that goes on, and does not lead back
pub record Call (calls : List (List ℕ)) (n : ℕ) (Goes : ℕ → Type 0) (c : ℕ) : Type 0 where
  pub to : ℕ
  pub called : In to (slice_index_or calls c [])
  pub away : leads n calls to c ≡ false
  pub goes : Goes to

-- a walk that goes on for so many steps at least
module _ (calls : List (List ℕ)) (n : ℕ) (Goes : ℕ → ℕ → Type 0) (step : (f c : ℕ) → Goes (suc f) c → Call calls n (Goes f) c)
    (small : (f c : ℕ) → Goes f c → (marks : List Bool) → length marks ≡ n → (b : Bool) × (slice_get marks c ≡ Some b)) where
  -- a number that was passed: its call led here in so many calls
  abbrev Passed : ℕ → ℕ → ℕ → Type 0
  Passed m c i = (to : ℕ) × (leads n calls to m ≡ false) × (leads i calls to c ≡ true)

  not_back : (i f c : ℕ) → i + f ≡ n → Passed c c i → ⊥
  not_back i f c e h =
      both (leads n calls h.0 c)
      (let z : f + i ≡ n = (let j = e in omega arith) in ap (λ (m : ℕ). leads m calls h.0 c) (sym z) ∙ leads_by calls f i h.0 c h.2) h.1
    where
      both : (b : Bool) → b ≡ true → b ≡ false → ⊥
      both b h g = cc

  passed_on : (i m c to : ℕ) → In to (slice_index_or calls c []) → Passed m c i → Passed m to (suc i)
  passed_on i m c to k h = (h.0, h.1, leads_last calls i h.0 c to h.2 k)

  abbrev AllPassed : List Bool → ℕ → ℕ → Type 0
  AllPassed marks c i = (m : ℕ) → slice_get marks m ≡ Some true → Passed m c i

  passed : (marks : List Bool) (c i to : ℕ) → In to (slice_index_or calls c []) → leads n calls to c ≡ false → AllPassed marks c i
      → AllPassed (mark c marks) to (suc i)
  passed marks c i to k away p m t =
      elim (marked c m marks t) [
        | inl s ↦ subst (λ (x : ℕ). Passed x to (suc i)) (sym s) (to, away, leads_self calls (suc i) to)
        | inr s ↦ passed_on i m c to k (p m s)
      ]

  walk : (f : ℕ) (marks : List Bool) (c i : ℕ) → frees marks ≡ f → i + f ≡ n → length marks ≡ n → AllPassed marks c i → Goes f c → ⊥
  walk zero marks c i e g l p h = by_mark (small zero c h marks l).0 (small zero c h marks l).1
    where
      by_mark : (b : Bool) → slice_get marks c ≡ Some b → ⊥
      by_mark true t = not_back i 0 c g (p c t)
      by_mark false t = let z : suc (frees (mark c marks)) ≡ 0 = mark_frees c marks t ∙ e in absurd (omega (arith, z))
  walk (suc j) marks c i e g l p h = by_mark (walk j (mark c marks) (step j c h).to (suc i)) (small (suc j) c h marks l).0 (small (suc j) c h marks l).1
    where
      by_mark : (frees (mark c marks) ≡ j → suc i + j ≡ n → length (mark c marks) ≡ n → AllPassed (mark c marks) (step j c h).to (suc i)
          → Goes j (step j c h).to → ⊥) → (b : Bool) → slice_get marks c ≡ Some b → ⊥
      by_mark rest true t = not_back i (suc j) c g (p c t)
      by_mark rest false t =
          let z : suc (frees (mark c marks)) ≡ suc j = mark_frees c marks t ∙ e in
          let y : frees (mark c marks) ≡ j = omega (arith, z) in
          let x : suc i + j ≡ n = omega (arith, g) in
          rest y x (mark_length c marks ∙ l) (passed marks c i (step j c h).to (step j c h).called (step j c h).away p) (step j c h).goes

  -- There is no such walk of as many steps as there are numbers.
  pub no_walk : {A : Type 0} (xs : List A) → length xs ≡ n → (c : ℕ) → Goes n c → ⊥
  no_walk xs l c h =
      walk n (unmarked xs) c 0 (unmarked_frees xs ∙ l) (let z : 0 + n ≡ n = omega arith in z) (unmarked_length xs ∙ l) (λ m e. absurd (none_marked xs m e)) h
