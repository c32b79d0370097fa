-- A walk over a list that looks for an element.
use Rattle.std.proofs.Common.{◌≡◌, ℕ, zero, suc, ◌+◌, Bool, true, false, List, [], ◌∷◌, take, Some, None, refl, sym, ap, ◌∙◌, subst, arith}
use Rattle.std.specs.Prelude.{slice_get, ◌||◌}
use Rattle.std.specs.List.{list_any}

module _ {X : Type 0} (test : X → Bool) where
  -- none so far, and there is no more
  pub not_there : (xs : List X) (k : ℕ) → None ≡ slice_get xs k → list_any test (take k xs) ≡ false → list_any test xs ≡ false
  not_there [] k e none = refl
  not_there (x ∷ xs) zero e none = let f : ⊥ = cc in absurd f
  not_there (x ∷ xs) (suc k) e none = by (test x) (not_there xs k e) none
    where
      by : (b : Bool) → (list_any test (take k xs) ≡ false → list_any test xs ≡ false) → (b || list_any test (take k xs)) ≡ false
          → (b || list_any test xs) ≡ false
      by false more none = more none
      by true more none = absurd (cc none)

  pub found_there : (xs : List X) (k : ℕ) (x : X) → Some x ≡ slice_get xs k → test x ≡ true → list_any test xs ≡ true
  found_there [] k x e is = let f : ⊥ = cc in absurd f
  found_there (y ∷ xs) zero x e is =
      let same : x ≡ y = cc in ap (λ b. b || list_any test xs) (ap test (sym same) ∙ is)
  found_there (y ∷ xs) (suc k) x e is = by (test y) (found_there xs k x e is)
    where
      by : (b : Bool) → list_any test xs ≡ true → (b || list_any test xs) ≡ true
      by false more = more
      by true more = refl

  none_yet : (xs : List X) (k : ℕ) (x : X) → Some x ≡ slice_get xs k → test x ≡ false → list_any test (take k xs) ≡ false
      → list_any test (take (suc k) xs) ≡ false
  none_yet [] k x e is none = let f : ⊥ = cc in absurd f
  none_yet (y ∷ xs) zero x e is none =
      let same : x ≡ y = cc in ap (λ b. b || false) (ap test (sym same) ∙ is)
  none_yet (y ∷ xs) (suc k) x e is none = by (test y) (none_yet xs k x e is) none
    where
      by : (b : Bool) → (list_any test (take k xs) ≡ false → list_any test (take (suc k) xs) ≡ false) → (b || list_any test (take k xs)) ≡ false
          → (b || list_any test (take (suc k) xs)) ≡ false
      by false more none = more none
      by true more none = absurd (cc none)

  pub none_more : (xs : List X) (k : ℕ) (x : X) → Some x ≡ slice_get xs k → test x ≡ false → list_any test (take k xs) ≡ false
      → list_any test (take (k + 1) xs) ≡ false
  none_more xs k x e is none =
      let next : suc k ≡ k + 1 = omega arith in subst (λ n. list_any test (take n xs) ≡ false) next (none_yet xs k x e is none)
