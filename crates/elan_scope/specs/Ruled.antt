-- What a rule says of a phrase whose parts have meaning.
use Rattle.std.specs.Prelude.{ℕ, List, [], ◌∷◌, ◌++◌}
use Rattle.elan_types.specs.declared.why.Why.{Why}

-- a place and a reason
abbrev pub Fault : Type 0
Fault = ℕ × Why

-- It gives a meaning, or the phrase breaks the rule, or its meaning hangs on a phrase elsewhere that has none.
pub data Ruled (A : Type 0) : Type 0 where
  gives : A → Ruled A
  breaks : Fault → Ruled A
  hangs : Ruled A

infixl 10 ◌>>=◌
abbrev pub ◌>>=◌ : {A B : Type 0} → Ruled A → (A → Ruled B) → Ruled B
(gives x) >>= f = f x
(breaks e) >>= f = breaks e
hangs >>= f = hangs

-- A fault to the right of a phrase that hangs is still a fault.
abbrev pub before : {A : Type 0} → Ruled A → Ruled (List A) → Ruled (List A)
before (gives x) r = r >>= (λ xs. gives (x ∷ xs))
before (breaks e) r = breaks e
before hangs r = r >>= (λ xs. hangs)

-- ---- phrases beside each other

abbrev pub beside : {A B : Type 0} → Ruled A → Ruled B → Ruled (A × B)
beside (gives x) r = r >>= (λ y. gives (x, y))
beside (breaks f) r = breaks f
beside hangs (gives y) = hangs
beside hangs (breaks f) = breaks f
beside hangs hangs = hangs

abbrev pub joined : {A : Type 0} → Ruled (List A) → Ruled A → Ruled (List A)
joined rs r = beside rs r >>= (λ p. gives (p.0 ++ p.1 ∷ []))
