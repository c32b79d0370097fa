-- What the parser sees ahead along some tokens.
use Rattle.std.specs.Prelude.{◌≡◌, List, [], ◌∷◌, ◌++◌, Option, Some, None}
use Rattle.elan_tree.specs.declared.token.Token.{Token}
use Rattle.elan_grammar.specs.Kinds.{ahead}

abbrev pub next : List Token → Option Token
next [] = None
next (t ∷ ts) = Some t

-- The next token is the same, and what the parser sees ahead.
abbrev pub SameAhead : List Token → List Token → Type 0
SameAhead us vs = (ahead us ≡ ahead vs) × (next us ≡ next vs)

-- From each token of the front on, and behind it, the parser sees the same ahead.
abbrev pub LooksSame : List Token → List Token → List Token → Type 0
LooksSame [] us vs = SameAhead us vs
LooksSame (x ∷ front) us vs = (ahead (x ∷ (front ++ us)) ≡ ahead (x ∷ (front ++ vs))) × LooksSame front us vs
