-- What whoever looks at bodies has become behind the last one.
use Rattle.std.specs.Prelude.{ℕ, suc, List, [], ◌∷◌}
use Rattle.elan_scope.specs.Phrase.{Phrase}

-- the bodies are numbered one after another
abbrev pub all_seen : {S : Type 0} → (S → ℕ → Phrase → S) → S → ℕ → List Phrase → S
all_seen after s n [] = s
all_seen after s n (u ∷ us) = all_seen after (after s n u) (suc n) us
