-- The tokens of a text. It is cut into pieces, each the longest that begins at its place; the tokens are what the pieces hold.
use Rattle.std.specs.Prelude.{◌≡◌, ℕ, zero, suc, ◌+◌, if◌then◌else◌, nat_lt, List, [], ◌∷◌, ◌++◌, length, take, drop, Result, Ok, Err}
use Rattle.elan_tree.specs.declared.token.Token.{Token}
use Rattle.elan_lexer.specs.declared.error.LexError.{LexError}
use Rattle.elan_lexer.specs.declared.error.LexError.TheVariants as error
use Rattle.elan_lexer.specs.Tables.{Text}
use Rattle.elan_lexer.specs.Pieces.{Lexeme, Piece, Holds, Unreadable, NoPiece, piece, is_piece}

-- the length of the longest piece among the prefixes of at most this length
abbrev pub longest : ℕ → Text → ℕ
longest zero text = zero
longest (suc n) text = if is_piece (piece (take (suc n) text)) then suc n else longest n text

-- the length of the longest piece at the front
unfoldable pub first : Text → ℕ
first text = longest (length text) text

-- the first pieces, this many at most
abbrev pub cut : ℕ → Text → List Text
cut zero text = []
cut (suc n) [] = []
cut (suc n) (b ∷ bs) = take (first (b ∷ bs)) (b ∷ bs) ∷ cut n (drop (first (b ∷ bs)) (b ∷ bs))

-- all pieces; there are at most as many as bytes
unfoldable pub pieces : Text → List Text
pieces text = cut (length text) text

-- with places, from this one on
abbrev pub placed : ℕ → List Lexeme → List Token
placed at [] = []
placed at (l ∷ ls) = record { what = l.0; at = at; len = l.1 } ∷ placed (at + l.1) ls

-- before the tokens of the pieces behind
abbrev pub before : ℕ → List Lexeme → Result (List Token) ℕ → Result (List Token) ℕ
before at ls (Ok ts) = Ok (placed at ls ++ ts)
before at ls (Err place) = Err place

abbrev pub tokens_by : ℕ → Piece → Result (List Token) ℕ → Result (List Token) ℕ
tokens_by at (Holds ls) behind = before at ls behind
tokens_by at Unreadable behind = Err at
tokens_by at NoPiece behind = Err at

-- the tokens of pieces that stand from this place on, or the place of the first that can't be read
abbrev pub tokens_at : ℕ → List Text → Result (List Token) ℕ
tokens_at at [] = Ok []
tokens_at at (p ∷ ps) = tokens_by at (piece p) (tokens_at (at + length p) ps)

-- the tokens of a text, or the place of the first piece that can't be read
unfoldable pub tokens_of : Text → Result (List Token) ℕ
tokens_of text = tokens_at 1 (pieces text)

-- the tokens that a text may have at most
abbrev pub most_tokens : ℕ
most_tokens = 8000

-- a text with more is refused as a whole, unless it can't be read
abbrev pub limited : Result (List Token) ℕ → Result (List Token) LexError
limited (Ok ts) = if nat_lt most_tokens (length ts) then Err error.TooMany else Ok ts
limited (Err place) = Err (error.NoToken place)

-- Memory may run out. Every other answer is that of the definition, with at most so many tokens.
abbrev pub Answers : Text → Result (List Token) LexError → Type 0
Answers text (Ok ts) = limited (tokens_of text) ≡ Ok ts
Answers text (Err error.NoMemory) = Unit {0}
Answers text (Err (error.NoToken place)) = limited (tokens_of text) ≡ Err (error.NoToken place)
Answers text (Err error.TooMany) = limited (tokens_of text) ≡ Err error.TooMany
