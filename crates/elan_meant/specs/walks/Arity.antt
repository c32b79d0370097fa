-- What the code takes apart, and puts beside each other. No definition of meaning needs it.
use Rattle.std.specs.Prelude.{List, [], ◌∷◌, Option, Some, None}
use Rattle.elan_scope.specs.Ruled.{Ruled, gives, ◌>>=◌, beside}

abbrev pub two_of : {A : Type 0} → List A → Option (A × A)
two_of (x ∷ y ∷ []) = Some (x, y)
two_of _ = None

-- three phrases beside each other
abbrev pub triple : {A B C : Type 0} → Ruled A → Ruled B → Ruled C → Ruled (A × B × C)
triple r q s = beside (beside r q) s >>= (λ p. gives (p.0.0, p.0.1, p.1))
