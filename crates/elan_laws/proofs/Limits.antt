-- What a limit of depth does to a rule.
use Rattle.std.proofs.Common.{◌≡◌, ℕ, zero, suc, ◌+◌, ◌≤◌, max, true, List, [], ◌∷◌, map, ap, arith}
use Rattle.std.specs.Prelude.{nat_lt}
use Rattle.std.proofs.lemmas.Bool.{lt-ltb, ltb-true}
use Rattle.elan_grammar.specs.Rule.{Tokens, Rule, steps, one_more, further}
use Rattle.elan_grammar.specs.Depth.{deepest}
use Rattle.elan_grammar.proofs.Deepest.{deepest_one, deepest_push}

-- What is read with the limit m is so deep, within m, and is read with each limit that it is within.
abbrev pub Fits : (ℕ → Type 0) → ℕ → ℕ → Type 0
Fits Read depth m = (depth ≤ m) × ((n : ℕ) → depth ≤ n → Read n)

-- ---- one depth more

above : (Read : ℕ → Type 0) (depth : ℕ) → ((n : ℕ) → depth ≤ n → Read (suc n)) → (n : ℕ) → depth + 1 ≤ n → Read n
above Read depth f zero le = absurd (omega (arith, le))
above Read depth f (suc n) le = f n (omega (arith, le))

pub lift : (Read : ℕ → Type 0) (depth all m : ℕ) → all ≡ depth + 1 → Fits (λ n. Read (suc n)) depth m → Fits Read all (suc m)
lift Read depth all m e f = (omega (arith, e, f.0), λ n le. above Read depth f.1 n (omega (arith, e, le)))

pub drop_one : (Read : ℕ → Type 0) (depth m : ℕ) → Fits Read (depth + 1) (suc m) → Fits (λ n. Read (suc n)) depth m
drop_one Read depth m f = (omega (arith, f.0), λ n le. f.1 (suc n) (omega (arith, le)))

pub no_room : {X : Type 0} (d : ℕ) → nat_lt d 0 ≡ true → X
no_room d h = absurd (omega (arith, ltb-true d 0 h))

pub room : (n : ℕ) → nat_lt 0 (suc n) ≡ true
room n = lt-ltb 0 (suc n) (omega arith)

-- ---- steps

module _ {S : Type 0} (R : ℕ → S → S → Tokens → Tokens → Type 0) (d : S → ℕ) (m : ℕ)
    (step : (s t : S) (xs ys : Tokens) → d s ≤ m → R m s t xs ys → (d s ≤ d t) × Fits (λ n. R n s t xs ys) (d t) m) where
  pub steps_fit : (j : ℕ) (s e : S) (xs ys : Tokens) → d s ≤ m → steps (R m) j s e xs ys → (d s ≤ d e) × Fits (λ n. steps (R n) j s e xs ys) (d e) m
  steps_fit zero s e xs ys le h = (omega (arith, ap d h.0), (omega (arith, ap d h.0, le), λ n fits. h))
  steps_fit (suc j) s e xs ys le h =
      let one = step s h.0 xs h.1 le h.2 in
      let more = steps_fit j h.0 e h.1 ys one.1.0 h.3 in
      (omega (arith, one.0, more.0), (more.1.0, λ n fits. (h.0, h.1, one.1.1 n (omega (arith, more.0, fits)), more.1.1 n fits)))

-- ---- lists

abbrev depth_by : {A : Type 0} → (A → ℕ) → List A → ℕ
depth_by d xs = deepest (map d xs)

module _ {A : Type 0} (item : ℕ → Rule A) (d : A → ℕ) (m : ℕ)
    (fits : (a : A) (xs ys : Tokens) → (item m).reads a xs ys → Fits (λ n. (item n).reads a xs ys) (d a) m) where
  more_fits : (s t : List A) (xs ys : Tokens) → depth_by d s ≤ m → (one_more (item m) s).reads t xs ys
      → (depth_by d s ≤ depth_by d t) × Fits (λ n. (one_more (item n) s).reads t xs ys) (depth_by d t) m
  more_fits s t xs ys le h =
      let one = fits h.0 xs h.1 h.2 in
      let is : depth_by d t ≡ max (depth_by d s) (d h.0) = rw h.3.0 (deepest_push d s h.0) in
      (omega (arith, is), (omega (arith, is, le, one.0), λ n fits. (h.0, h.1, one.1 n (omega (arith, is, fits)), h.3)))

  -- items, of which none is deeper than all of them
  module _ (more : ℕ → List A → Rule (List A))
      (more_fit : (s t : List A) (xs ys : Tokens) → depth_by d s ≤ m → (more m s).reads t xs ys
      → (depth_by d s ≤ depth_by d t) × Fits (λ n. (more n s).reads t xs ys) (depth_by d t) m) where
    all_fit : (j : ℕ) (x : A) (e : List A) (xs zs ys : Tokens) → (item m).reads x xs zs → steps (λ s. (more m s).reads) j (x ∷ []) e zs ys
        → (d x ≤ depth_by d e)
        × Fits (λ n. (y : A) × (us : Tokens) × (item n).reads y xs us × ((i : ℕ) × steps (λ s. (more n s).reads) i (y ∷ []) e us ys)) (depth_by d e) m
    all_fit j x e xs zs ys r later =
        let one = fits x xs zs r in
        let is : depth_by d (x ∷ []) ≡ d x = deepest_one d x in
        let rest = steps_fit (λ n s. (more n s).reads) (depth_by d) m more_fit j (x ∷ []) e zs ys (omega (arith, is, one.0)) later in
        (omega (arith, is, rest.0), (rest.1.0, λ n fits. (x, zs, one.1 n (omega (arith, is, rest.0, fits)), (j, rest.1.1 n fits))))

  pub row_fits : (j : ℕ) (x : A) (e : List A) (xs zs ys : Tokens) → (item m).reads x xs zs → steps (λ s. (one_more (item m) s).reads) j (x ∷ []) e zs ys
      → (d x ≤ depth_by d e) × Fits
      (λ n. (y : A) × (us : Tokens) × (item n).reads y xs us × ((i : ℕ) × steps (λ s. (one_more (item n) s).reads) i (y ∷ []) e us ys)) (depth_by d e) m
  row_fits = all_fit (λ n. one_more (item n)) more_fits

  module _ {X : Type 0} (mark : Rule X) where
    further_fits : (s t : List A) (xs ys : Tokens) → depth_by d s ≤ m → (further mark (item m) s).reads t xs ys
        → (depth_by d s ≤ depth_by d t) × Fits (λ n. (further mark (item n) s).reads t xs ys) (depth_by d t) m
    further_fits s t xs ys le h =
        let one = more_fits s t h.1 ys le h.3 in
        (one.0, (one.1.0, λ n fits. (h.0, h.1, h.2, one.1.1 n fits)))

    pub listed_fits_by : (j : ℕ) (x : A) (e : List A) (xs zs ys : Tokens) → (item m).reads x xs zs
        → steps (λ s. (further mark (item m) s).reads) j (x ∷ []) e zs ys
        → (d x ≤ depth_by d e) × Fits
        (λ n. (y : A) × (us : Tokens) × (item n).reads y xs us × ((i : ℕ) × steps (λ s. (further mark (item n) s).reads) i (y ∷ []) e us ys)) (depth_by d e) m
    listed_fits_by = all_fit (λ n. further mark (item n)) further_fits

-- with the first item, which is no deeper
pub listed_fits : {X A : Type 0} (mark : Rule X) (item : ℕ → Rule A) (d : A → ℕ) (m : ℕ)
    → ((a : A) (xs ys : Tokens) → (item m).reads a xs ys → Fits (λ n. (item n).reads a xs ys) (d a) m)
    → (j : ℕ) (x : A) (e : List A) (xs zs ys : Tokens) → (item m).reads x xs zs → steps (λ s. (further mark (item m) s).reads) j (x ∷ []) e zs ys
    → (d x ≤ depth_by d e) × Fits
    (λ n. (y : A) × (us : Tokens) × (item n).reads y xs us × ((i : ℕ) × steps (λ s. (further mark (item n) s).reads) i (y ∷ []) e us ys)) (depth_by d e) m
listed_fits mark item d m fits = listed_fits_by item d m fits mark
