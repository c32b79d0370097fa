-- Fronts with what stands behind them.
use Rattle.std.proofs.Common.{◌≡◌, List, [], ◌∷◌, ◌++◌, sym, ◌∙◌, append_assoc}
use Rattle.std.proofs.lemmas.List.{append-nil}
use Rattle.elan_tree.specs.declared.token.Token.{Token}

abbrev Tokens : Type 0
Tokens = List Token

pub none_behind : (all front : Tokens) → all ≡ front → all ≡ front ++ []
none_behind all front e = e ∙ sym (append-nil front)

pub two_behind : (front : Tokens) (a b : Token) → (front ++ (a ∷ [])) ++ (b ∷ []) ≡ front ++ (a ∷ b ∷ [])
two_behind front a b = append_assoc front (a ∷ []) (b ∷ [])
