-- Names that differ at their ends differ.
use Rattle.std.proofs.Common.{◌≡◌, ℕ, Bool, true, false, List, [], ◌∷◌, ◌++◌, refl, sym, ◌∙◌}
use Rattle.std.specs.Str.{bytes_eq}
use Rattle.std.proofs.lemmas.Slice.Eq.{bytes_eq-Decides}

last_is : (xs ys : List ℕ) (x y : ℕ) → xs ++ x ∷ [] ≡ ys ++ y ∷ [] → x ≡ y
last_is [] [] x y e = cc
last_is [] (b ∷ []) x y e = absurd cc
last_is [] (b ∷ c ∷ ys) x y e = absurd cc
last_is (a ∷ []) [] x y e = absurd cc
last_is (a ∷ c ∷ xs) [] x y e = absurd cc
last_is (a ∷ xs) (b ∷ ys) x y e = let f : xs ++ x ∷ [] ≡ ys ++ y ∷ [] = cc in last_is xs ys x y f

pub differ : (name other xs ys : List ℕ) (x y : ℕ) → name ≡ xs ++ x ∷ [] → other ≡ ys ++ y ∷ [] → (x ≡ y → ⊥) → bytes_eq name other ≡ false
differ name other xs ys x y en eo n = by_test (bytes_eq name other) refl
  where
    by_test : (b : Bool) → bytes_eq name other ≡ b → bytes_eq name other ≡ false
    by_test true e = absurd (n (last_is xs ys x y (sym en ∙ (bytes_eq-Decides name other).0 e ∙ eo)))
    by_test false e = e
