-- The words of the command line.
use Rattle.std.proofs.Common.{◌≡◌, ℕ, ◌<◌, ◌≤◌, List, [], ◌∷◌, length, get_or, map, sym, ap, ◌∙◌, arith}

-- one word, and no other
pub only_word : {X : Type 0} → (f : X → List ℕ) (xs : List X) (x : X) (bytes : List ℕ) → 1 ≤ length xs → length xs < 2 → x ≡ get_or xs 0 x → f x ≡ bytes
    → map f xs ≡ bytes ∷ []
only_word f [] x bytes some few is read = absurd (omega (arith, some))
only_word f (y ∷ []) x bytes some few is read = ap (λ b. b ∷ []) (ap f (sym is) ∙ read)
only_word f (y ∷ z ∷ xs) x bytes some few is read = absurd (omega (arith, few))
