-- Each two parts of a list, and one part more.
use Rattle.std.proofs.Common.{◌≡◌, List, [], ◌∷◌, ◌++◌, Option, Some, None, refl, ap, ◌∙◌}
use Rattle.elan_meant.specs.Parts.{pairs, odd}

abbrev pub with_one : {A : Type 0} → List (A × A) → Option A → A → List (A × A)
with_one ps None x = ps
with_one ps (Some y) x = ps ++ (y, x) ∷ []

abbrev pub other_one : {A : Type 0} → Option A → A → Option A
other_one None x = Some x
other_one (Some y) x = None

with_cons : {A : Type 0} (p : A × A) (ps : List (A × A)) (o : Option A) (x : A) → p ∷ with_one ps o x ≡ with_one (p ∷ ps) o x
with_cons p ps None x = refl
with_cons p ps (Some y) x = refl

pub pairs_push : {A : Type 0} (xs : List A) (x : A) → pairs (xs ++ x ∷ []) ≡ with_one (pairs xs) (odd xs) x
pairs_push [] x = refl
pairs_push (a ∷ []) x = refl
pairs_push (a ∷ b ∷ xs) x = ap (λ l. (a, b) ∷ l) (pairs_push xs x) ∙ with_cons (a, b) (pairs xs) (odd xs) x

pub odd_push : {A : Type 0} (xs : List A) (x : A) → odd (xs ++ x ∷ []) ≡ other_one (odd xs) x
odd_push [] x = refl
odd_push (a ∷ []) x = refl
odd_push (a ∷ b ∷ xs) x = odd_push xs x
