-- What reading on byte by byte finds at the front of a text: the longest piece, as the proofs show.
use Rattle.std.specs.Prelude.{◌≡◌, ◌≤◌, ◌<◌, ℕ, suc, ◌+◌, ◌-◌, Bool, true, false, not, if◌then◌else◌, ◌==◌, nat_le, [], ◌∷◌, length, take, drop, filter}
use Rattle.std.specs.Prelude.{Option, Some, None, pos}
use Rattle.std.specs.List.{prefix_len, suffix_len}
use Rattle.elan_tree.specs.declared.token.Key.{Key}
use Rattle.elan_tree.specs.declared.token.Key.TheVariants as key
use Rattle.elan_tree.specs.declared.token.Sign.{Sign}
use Rattle.elan_tree.specs.declared.token.Word.TheVariants as word
use Rattle.elan_lexer.specs.declared.front.Front.{Front}
use Rattle.elan_lexer.specs.declared.front.Front.TheVariants as front
use Rattle.elan_lexer.specs.Class.{is_lower, is_upper, is_digit, is_blank, is_space, is_inner}
use Rattle.elan_lexer.specs.Tables.{Text, lookup, end_words, signs}
use Rattle.elan_lexer.specs.Pieces.{Holds, Unreadable, piece, opens, comment_end, characters, value, largest_number, word_of}
use Rattle.elan_lexer.specs.Tokens.{first}

abbrev pub skipped : Option ℕ → Front
skipped (Some n) = front.Skips (n + 1)
skipped None = front.Stuck

abbrev pub comment : Bool → Text → Front
comment curly bs = skipped (comment_end curly 1 (not curly) bs)

-- the bytes behind an identifier's first letter that belong to it
unfoldable pub rest_len : Text → ℕ
rest_len bs = let n = prefix_len is_inner bs in n - suffix_len is_space (take n bs)

abbrev pub ident : Text → Front
ident text =
    let n = suc (rest_len (drop 1 text)) in
    front.Holds (word.Ident (filter (λ c. not (is_space c)) (take n text))) n

abbrev pub number_of : ℕ → ℕ → Front
number_of v n = if nat_le v largest_number then front.Holds (word.Number (pos v)) n else front.Stuck

abbrev pub number : Text → Front
number text = let n = prefix_len is_digit text in number_of (value (take n text)) n

abbrev pub spelled : Text → ℕ → Option Key → Front
spelled spelling n (Some k) = front.Ends k n
spelled spelling n None = front.Holds (word_of spelling) n

abbrev pub bold : Text → Front
bold text = let n = prefix_len is_upper text in spelled (take n text) n (lookup end_words (take n text))

abbrev pub denoter : Option (Text × ℕ) → Front
denoter (Some p) = front.Holds (word.Text p.0) (p.1 + 1)
denoter None = front.Stuck

abbrev pub short : Option Sign → Front
short (Some s) = front.Holds (word.Sign s) 1
short None = front.Stuck

-- by the two bytes at the front, or else by the first
abbrev pub sign_by : Text → Option Sign → Front
sign_by text (Some s) = front.Holds (word.Sign s) (length (take 2 text))
sign_by text None = short (lookup signs (take 1 text))

abbrev pub sign : Text → Front
sign text = sign_by text (lookup signs (take 2 text))

unfoldable pub scan : Text → Front
scan [] = front.Stuck
scan (b ∷ bs) =
    if is_blank b then front.Skips 1
    else (if is_lower b then ident (b ∷ bs)
    else (if is_upper b then bold (b ∷ bs)
    else (if is_digit b then number (b ∷ bs)
    else (if b == 34 then denoter (characters 0 bs)
    else (if opens true b bs then comment true bs
    else (if opens false b bs then comment false bs
    else sign (b ∷ bs)))))))

-- what is found is the longest piece, with what it holds
abbrev pub IsLongest : Text → Front → Type 0
IsLongest text (front.Skips n) = (first text ≡ n) × (piece (take n text) ≡ Holds []) × (0 < n) × (n ≤ length text)
IsLongest text (front.Holds w n) = (first text ≡ n) × (piece (take n text) ≡ Holds ((w, n) ∷ [])) × (0 < n) × (n ≤ length text)
IsLongest text (front.Ends k n) =
    (first text ≡ n) × (piece (take n text) ≡ Holds ((word.Key key.End, 3) ∷ (word.Key k, n - 3) ∷ [])) × (3 < n) × (n ≤ length text)
IsLongest text front.Stuck = piece (take (first text) text) ≡ Unreadable
