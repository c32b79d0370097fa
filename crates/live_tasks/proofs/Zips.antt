-- Two lists whose items go together, place by place.
use Rattle.std.proofs.Common.{◌≡◌, ◌≢◌, ℕ, zero, suc, ◌<◌, List, [], ◌∷◌, ◌++◌, length, set, take, drop, Option, Some, None, Bool, ◌||◌, refl, sym, ap, ◌∙◌, subst, arith, get_or}
use Rattle.std.specs.Prelude.{slice_get}
use Rattle.std.specs.List.{AllZip, remove, list_any}
use Rattle.std.proofs.lemmas.Option.{none-some, same_Some}

-- a list with another item at a place, without the item at that place
pub remove_set : {A : Type 0} (xs : List A) (k : ℕ) (x : A) → remove (set xs k x) k ≡ remove xs k
remove_set [] zero x = refl
remove_set [] (suc k) x = refl
remove_set (y ∷ xs) zero x = refl
remove_set (y ∷ xs) (suc k) x = ap (λ zs. y ∷ zs) (remove_set xs k x)

pub found_set : {A : Type 0} (xs : List A) (k : ℕ) (x : A) → k < length xs → slice_get (set xs k x) k ≡ Some x
found_set [] k x low = absurd (omega (arith, low))
found_set (y ∷ xs) zero x low = refl
found_set (y ∷ xs) (suc k) x low = found_set xs k x (omega (arith, low))

-- an item is put where it stands
pub set_same : {A : Type 0} (xs : List A) (k : ℕ) (x : A) → slice_get xs k ≡ Some x → set xs k x ≡ xs
set_same [] k x at = absurd (none-some x at)
set_same (y ∷ xs) zero x at = ap (λ z. z ∷ xs) (sym (same_Some y x at))
set_same (y ∷ xs) (suc k) x at = ap (λ zs. y ∷ zs) (set_same xs k x at)

-- lists that are as long have items at the same places
pub found_other : {A B : Type 0} (xs : List A) (ys : List B) (k : ℕ) (y : B) → length xs ≡ length ys → slice_get ys k ≡ Some y
    → (x : A) × (slice_get xs k ≡ Some x)
found_other xs [] k y many at = absurd (none-some y at)
found_other [] (b ∷ ys) k y many at = absurd (omega (arith, many))
found_other (a ∷ xs) (b ∷ ys) zero y many at = (a, refl)
found_other (a ∷ xs) (b ∷ ys) (suc k) y many at = found_other xs ys k y (omega (arith, many)) at

module _ {A B : Type 0} (R : A → B → Type 0) where
  -- the items at a place go together
  pub zip_at : (xs : List A) (ys : List B) (k : ℕ) (x : A) (y : B) → AllZip R xs ys → slice_get xs k ≡ Some x → slice_get ys k ≡ Some y → R x y
  zip_at [] ys k x y h e f = absurd (none-some x e)
  zip_at (a ∷ xs) [] k x y h e f = absurd h
  zip_at (a ∷ xs) (b ∷ ys) zero x y h e f = subst (λ a. R a y) (same_Some a x e) (subst (λ b. R a b) (same_Some b y f) h.0)
  zip_at (a ∷ xs) (b ∷ ys) (suc k) x y h e f = zip_at xs ys k x y h.1 e f

  -- an item goes together with one at its place
  pub zip_found : (xs : List A) (ys : List B) (k : ℕ) (x : A) → AllZip R xs ys → slice_get xs k ≡ Some x → (y : B) × (slice_get ys k ≡ Some y) × R x y
  zip_found [] ys k x h e = absurd (none-some x e)
  zip_found (a ∷ xs) [] k x h e = absurd h
  zip_found (a ∷ xs) (b ∷ ys) zero x h e = (b, refl, subst (λ a. R a b) (same_Some a x e) h.0)
  zip_found (a ∷ xs) (b ∷ ys) (suc k) x h e = zip_found xs ys k x h.1 e

  -- the other items go together still
  pub zip_others : (xs : List A) (ys : List B) (k : ℕ) → AllZip R xs ys → AllZip R (remove xs k) (remove ys k)
  zip_others [] [] zero h = tt
  zip_others [] [] (suc k) h = tt
  zip_others [] (b ∷ ys) k h = absurd h
  zip_others (a ∷ xs) [] k h = absurd h
  zip_others (a ∷ xs) (b ∷ ys) zero h = h.1
  zip_others (a ∷ xs) (b ∷ ys) (suc k) h = (h.0, zip_others xs ys k h.1)

  -- items that go together come to a place
  pub zip_set : (xs : List A) (ys : List B) (k : ℕ) (x : A) (y : B) → length xs ≡ length ys → AllZip R (remove xs k) (remove ys k) → R x y
      → AllZip R (set xs k x) (set ys k y)
  zip_set [] [] k x y many h r = tt
  zip_set [] (b ∷ ys) k x y many h r = absurd (omega (arith, many))
  zip_set (a ∷ xs) [] k x y many h r = absurd (omega (arith, many))
  zip_set (a ∷ xs) (b ∷ ys) zero x y many h r = (r, h)
  zip_set (a ∷ xs) (b ∷ ys) (suc k) x y many h r = (h.0, zip_set xs ys k x y (omega (arith, many)) h.1 r)

  -- those that were there
  pub zip_back : (xs : List A) (ys : List B) (k : ℕ) (x : A) (y : B) → slice_get xs k ≡ Some x → slice_get ys k ≡ Some y → length xs ≡ length ys
      → AllZip R (remove xs k) (remove ys k) → R x y → AllZip R xs ys
  zip_back [] ys k x y e f many h r = absurd (none-some x e)
  zip_back (a ∷ xs) [] k x y e f many h r = absurd (none-some y f)
  zip_back (a ∷ xs) (b ∷ ys) zero x y e f many h r =
      (subst (λ a. R a b) (sym (same_Some a x e)) (subst (λ b. R x b) (sym (same_Some b y f)) r), h)
  zip_back (a ∷ xs) (b ∷ ys) (suc k) x y e f many h r = (h.0, zip_back xs ys k x y e f (omega (arith, many)) h.1 r)

  -- what is asked of each
  pub zip_any : (p : A → Bool) (q : B → Bool) (xs : List A) (ys : List B) → ((x : A) (y : B) → R x y → p x ≡ q y) → AllZip R xs ys
      → list_any p xs ≡ list_any q ys
  zip_any p q [] [] same h = refl
  zip_any p q [] (b ∷ ys) same h = absurd h
  zip_any p q (a ∷ xs) [] same h = absurd h
  zip_any p q (a ∷ xs) (b ∷ ys) same h =
      let one = same a b h.0 in
      let rest = zip_any p q xs ys same h.1 in
      cc

-- items that go together in another way too
module _ {A B : Type 0} (R S : A → B → Type 0) where
  pub zip_each : (xs : List A) (ys : List B) → ((j : ℕ) (x : A) (y : B) → slice_get ys j ≡ Some y → R x y → S x y) → AllZip R xs ys → AllZip S xs ys
  zip_each [] [] change h = tt
  zip_each [] (b ∷ ys) change h = absurd h
  zip_each (a ∷ xs) [] change h = absurd h
  zip_each (a ∷ xs) (b ∷ ys) change h =
      (change zero a b refl h.0, zip_each xs ys (λ j x y e r. change (suc j) x y e r) h.1)

  -- but for those at a place
  pub zip_change : (xs : List A) (ys : List B) (k : ℕ) → length xs ≡ length ys → ((j : ℕ) (x : A) (y : B) → j ≢ k → slice_get ys j ≡ Some y → R x y → S x y)
      → AllZip R (remove xs k) (remove ys k) → AllZip S (remove xs k) (remove ys k)
  zip_change [] [] zero many change h = tt
  zip_change [] [] (suc k) many change h = tt
  zip_change [] (b ∷ ys) k many change h = absurd (omega (arith, many))
  zip_change (a ∷ xs) [] k many change h = absurd (omega (arith, many))
  zip_change (a ∷ xs) (b ∷ ys) zero many change h = zip_each xs ys (λ j x y e r. change (suc j) x y (λ is. omega (arith, is)) e r) h
  zip_change (a ∷ xs) (b ∷ ys) (suc k) many change h = (
    change zero a b (λ is. omega (arith, is)) refl h.0,
    zip_change xs ys k (omega (arith, many)) (λ j x y ne e r. change (suc j) x y (λ is. ne (omega (arith, is))) e r) h.1,
  )
