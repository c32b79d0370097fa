-- How the pieces and the tokens of a text stand to it.
use Rattle.std.specs.Prelude.{◌≡◌, ℕ, ◌+◌, ◌<◌, ◌≤◌, ◌↔◌, true, List, [], ◌∷◌, ◌++◌, length, take, drop}
use Rattle.elan_tree.specs.declared.token.Token.{Token}
use Rattle.elan_lexer.specs.Tables.{Text}
use Rattle.elan_lexer.specs.Pieces.{piece, is_piece}
use Rattle.elan_lexer.specs.Tokens.{pieces}

-- A text begins with this piece, and with no longer one.
abbrev pub IsLongestPiece : Text → Text → Type 0
IsLongestPiece text p =
    (take (length p) text ≡ p) × (is_piece (piece p) ≡ true)
    × ((q rest : Text) → text ≡ q ++ rest → is_piece (piece q) ≡ true → length q ≤ length p)

-- A text is these pieces, one behind the other, each the longest at its place.
abbrev pub IsCut : List Text → Text → Type 0
IsCut [] text = text ≡ []
IsCut (p ∷ ps) text = IsLongestPiece text p × IsCut ps (drop (length p) text)

-- Every text can be cut so, and in one way.
abbrev pub LongestMatch : Text → Type 0
LongestMatch text = (ps : List Text) → IsCut ps text ↔ (ps ≡ pieces text)

-- Tokens that follow one another between two places, none of them empty.
abbrev pub InOrder : ℕ → ℕ → List Token → Type 0
InOrder from to [] = from ≤ to
InOrder from to (t ∷ ts) = (from ≤ t.at) × (0 < t.len) × InOrder (t.at + t.len) to ts
