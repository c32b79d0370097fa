-- The pieces of a text: blanks, comments, tokens, and what begins like one of these and can't be read.
use Rattle.std.specs.Prelude.{ℕ, zero, suc, ◌+◌, ◌-◌, ◌*◌, Bool, true, false, not, ◌&&◌, if◌then◌else◌, ◌==◌, nat_le, nat_lt, List, [], ◌∷◌, length, take}
use Rattle.std.specs.Prelude.{filter, fold, slice_index, Option, Some, None, pos}
use Rattle.std.specs.List.{prefix_len, suffix_len, list_all}
use Rattle.elan_tree.specs.declared.token.Key.{Key}
use Rattle.elan_tree.specs.declared.token.Key.TheVariants as key
use Rattle.elan_tree.specs.declared.token.Sign.{Sign}
use Rattle.elan_tree.specs.declared.token.Word.{Word}
use Rattle.elan_tree.specs.declared.token.Word.TheVariants as word
use Rattle.elan_lexer.specs.declared.reading.Quote.{Quote}
use Rattle.elan_lexer.specs.declared.reading.Quote.TheVariants.{Code, Doubled, End}
use Rattle.elan_lexer.specs.Class.{is_lower, is_upper, is_digit, is_blank, is_space, is_inner}
use Rattle.elan_lexer.specs.Tables.{Text, lookup, keywords, end_words, signs}

-- a token and the number of its bytes
abbrev pub Lexeme : Type 0
Lexeme = Word × ℕ

-- What bytes are as a piece. A blank and a comment hold no tokens, END written together with a keyword two.
pub data Piece : Type 0 where
  Holds : List Lexeme → Piece
  Unreadable : Piece
  NoPiece : Piece

abbrev pub is_piece : Piece → Bool
is_piece (Holds lexemes) = true
is_piece Unreadable = true
is_piece NoPiece = false

abbrev pub one : Word → ℕ → Piece
one w n = Holds ((w, n) ∷ [])

abbrev pub only_if : Bool → Piece → Piece
only_if true p = p
only_if false p = NoPiece

-- nothing behind the first byte
abbrev pub alone : Text → Piece → Piece
alone [] p = p
alone (b ∷ bs) p = NoPiece

-- ---- comments

-- A byte and those behind it begin with a bracket: `{` or `(*`, `}` or `*)`.
abbrev pub opens : Bool → ℕ → Text → Bool
opens true b bs = b == 123
opens false b [] = false
opens false b (c ∷ bs) = b == 40 && c == 42

abbrev pub closes : Bool → ℕ → Text → Bool
closes true b bs = b == 125
closes false b [] = false
closes false b (c ∷ bs) = b == 42 && c == 41

abbrev pub opens_at : Bool → Text → Bool
opens_at curly [] = false
opens_at curly (b ∷ bs) = opens curly b bs

abbrev pub closes_at : Bool → Text → Bool
closes_at curly [] = false
closes_at curly (b ∷ bs) = closes curly b bs

abbrev pub one_more : Option ℕ → Option ℕ
one_more (Some n) = Some (n + 1)
one_more None = None

-- How many bytes there are up to the end of a comment in which this many brackets are open; none where it has no end.
-- Only the brackets of its own kind count. The second byte of a bracket is passed over.
abbrev pub comment_end : Bool → ℕ → Bool → Text → Option ℕ
comment_end curly depth second [] = if depth == 0 then Some 0 else None
comment_end curly depth second (b ∷ bs) =
    if second then one_more (comment_end curly depth false bs)
    else (if depth == 0 then Some 0
    else (if opens curly b bs then one_more (comment_end curly (depth + 1) (not curly) bs)
    else (if closes curly b bs then one_more (comment_end curly (depth - 1) (not curly) bs)
    else one_more (comment_end curly depth false bs))))

abbrev pub ends_there : Text → Option ℕ → Piece
ends_there bs (Some n) = only_if (n == length bs) (Holds [])
ends_there bs None = Unreadable

-- behind its first byte, with its first bracket open
abbrev pub comment : Bool → Text → Piece
comment curly bs = ends_there bs (comment_end curly 1 (not curly) bs)

-- ---- text denoters

abbrev pub value : Text → ℕ
value digits = fold (λ n b. 10 * n + (b - 48)) 0 digits

abbrev pub quote_at : ℕ → Text → Bool
quote_at n bs = slice_index bs n == 34

-- the character of a code
abbrev pub code : Text → Option ℕ
code digits = if nat_le (value digits) 255 then Some (value digits) else None

-- What a quote inside a denoter stands for, by what follows it.
unfoldable pub quote : Text → Quote
quote bs =
    let n = prefix_len is_digit bs in
    if nat_lt 0 n && quote_at n bs then Code (code (take n bs)) (n + 1) else (if quote_at 0 bs then Doubled else End)

abbrev pub character : ℕ → ℕ → Option (Text × ℕ) → Option (Text × ℕ)
character c n (Some p) = Some (c ∷ p.0, p.1 + n)
character c n None = None

-- `more n` reads on behind n further bytes
abbrev pub quoted : Quote → (ℕ → Option (Text × ℕ)) → Option (Text × ℕ)
quoted (Code (Some c) n) more = character c (n + 1) (more n)
quoted (Code None n) more = None
quoted Doubled more = character 34 2 (more 1)
quoted End more = Some ([], 1)

-- The characters up to the quote that ends the denoter, and the number of bytes up to and with it; none where a line ends
-- before, the text ends before or a code is past 255. The number counts the bytes that belong to the last character.
abbrev pub characters : ℕ → Text → Option (Text × ℕ)
characters left [] = None
characters (suc left) (b ∷ bs) = characters left bs
characters zero (b ∷ bs) =
    if b == 34 then quoted (quote bs) (λ n. characters n bs)
    else (if b == 10 then None else character b 1 (characters zero bs))

abbrev pub denoted : Text → Option (Text × ℕ) → Piece
denoted bs (Some p) = only_if (p.1 == length bs) (one (word.Text p.0) (p.1 + 1))
denoted bs None = Unreadable

-- behind its first quote
abbrev pub denoter : Text → Piece
denoter bs = denoted bs (characters 0 bs)

-- ---- words, numbers and signs

-- Spaces inside don't count.
abbrev pub identifier : ℕ → Text → Piece
identifier b bs =
    only_if (list_all is_inner bs && suffix_len is_space bs == 0) (one (word.Ident (filter (λ c. not (is_space c)) (b ∷ bs))) (suc (length bs)))

abbrev pub bold : Text → Option Key → Word
bold spelling (Some k) = word.Key k
bold spelling None = word.Bold spelling

abbrev pub word_of : Text → Word
word_of spelling = bold spelling (lookup keywords spelling)

abbrev pub capitals : Text → Option Key → Piece
capitals spelling (Some k) = Holds ((word.Key key.End, 3) ∷ (word.Key k, length spelling - 3) ∷ [])
capitals spelling None = one (word_of spelling) (length spelling)

abbrev pub bold_word : ℕ → Text → Piece
bold_word b bs = only_if (list_all is_upper bs) (capitals (b ∷ bs) (lookup end_words (b ∷ bs)))

-- the largest number that a text may have
abbrev pub largest_number : ℕ
largest_number = 32767

abbrev pub number_of : ℕ → ℕ → Piece
number_of v n = if nat_le v largest_number then one (word.Number (pos v)) n else Unreadable

abbrev pub number : ℕ → Text → Piece
number b bs = only_if (list_all is_digit bs) (number_of (value (b ∷ bs)) (suc (length bs)))

abbrev pub sign_or : Text → ℕ → Option Sign → Piece
sign_or bs n (Some s) = one (word.Sign s) n
sign_or bs n None = alone bs Unreadable

abbrev pub sign : ℕ → Text → Piece
sign b bs = sign_or bs (suc (length bs)) (lookup signs (b ∷ bs))

-- ---- all forms, by the first byte

unfoldable pub piece : Text → Piece
piece [] = NoPiece
piece (b ∷ bs) =
    if is_blank b then alone bs (Holds [])
    else (if is_lower b then identifier b bs
    else (if is_upper b then bold_word b bs
    else (if is_digit b then number b bs
    else (if b == 34 then denoter bs
    else (if opens true b bs then comment true bs
    else (if opens false b bs then comment false bs
    else sign b bs))))))
