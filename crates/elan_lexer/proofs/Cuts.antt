-- The turns of the loop over the pieces of a text.
use Rattle.std.proofs.Common.{◌≡◌, ℕ, zero, suc, ◌+◌, ◌-◌, ◌<◌, ◌≤◌, inl, inr, true, false, List, [], ◌∷◌, ◌++◌, length, take, drop, drop-drop, length-drop}
use Rattle.std.proofs.Common.{length-append, length-take-le, Result, Ok, Err, refl, ap, ◌∙◌, subst, arith, append_assoc, le_refl, lt-ltb, le-ltb}
use Rattle.std.specs.Prelude.{nat_lt}
use Rattle.std.proofs.lemmas.List.{append-nil, drop_all, take_rest}
use Rattle.std.proofs.lemmas.Bool.{cases_Bool, ltb-true, ltb-false, or_right}
use Rattle.elan_tree.specs.declared.token.Key.{Key}
use Rattle.elan_tree.specs.declared.token.Key.TheVariants as key
use Rattle.elan_tree.specs.declared.token.Word.{Word}
use Rattle.elan_tree.specs.declared.token.Word.TheVariants as word
use Rattle.elan_tree.specs.declared.token.Token.{Token}
use Rattle.elan_lexer.specs.declared.error.LexError.{LexError}
use Rattle.elan_lexer.specs.declared.error.LexError.TheVariants as error
use Rattle.elan_lexer.specs.declared.front.Front.{Front}
use Rattle.elan_lexer.specs.declared.front.Front.TheVariants as front
use Rattle.elan_lexer.specs.declared.lexer.Found.{Found}
use Rattle.elan_lexer.specs.Tables.{Text}
use Rattle.elan_lexer.specs.Pieces.{Lexeme, Unreadable, piece, is_piece}
use Rattle.elan_lexer.specs.Tokens.{longest, first, cut, pieces, before, tokens_by, tokens_at, tokens_of, most_tokens, limited}
use Rattle.elan_lexer.specs.Scan.{scan, IsLongest}
use Rattle.elan_lexer.specs.Kept.{token, added, answer}
use Rattle.elan_lexer.proofs.Forms.{scan_longest}

-- ---- the first piece is not empty and stands in the text

longest_within : (n : ℕ) (text : Text) → longest n text ≤ n
longest_within zero text = le_refl zero
longest_within (suc n) text =
    elim (cases_Bool (is_piece (piece (take (suc n) text)))) [
      | inl e ↦ rw e (le_refl (suc n))
      | inr e ↦ rw e (let h = longest_within n text in omega arith)
    ]

pub first_within : (text : Text) → first text ≤ length text
unfolding first
first_within text = longest_within (length text) text

some_unreadable : (text : Text) (n : ℕ) → piece (take n text) ≡ Unreadable → 0 < n
unfolding piece
some_unreadable text zero e = absurd (cc)
some_unreadable text (suc n) e = omega arith

front_some : (text : Text) (f : Front) → IsLongest text f → 0 < first text
front_some text (front.Skips n) is = rw is.0 is.2
front_some text (front.Holds w n) is = rw is.0 is.2
front_some text (front.Ends k n) is = rw is.0 (let lt = is.2 in omega arith)
front_some text front.Stuck is = some_unreadable text (first text) is

pub first_some : (b : ℕ) (bs : Text) → 0 < first (b ∷ bs)
first_some b bs = front_some (b ∷ bs) (scan (b ∷ bs)) (scan_longest b bs)

-- ---- as many cuts as there are bytes are enough

cut_enough : (n k : ℕ) (text : Text) → length text ≤ n → length text ≤ k → cut n text ≡ cut k text
cut_enough zero zero [] le lk = refl
cut_enough zero (suc k) [] le lk = refl
cut_enough (suc n) zero [] le lk = refl
cut_enough (suc n) (suc k) [] le lk = refl
cut_enough zero k (b ∷ bs) le lk = absurd (omega arith)
cut_enough (suc n) zero (b ∷ bs) le lk = absurd (omega arith)
cut_enough (suc n) (suc k) (b ∷ bs) le lk =
    let some = first_some b bs in
    let rest : length (drop (first (b ∷ bs)) (b ∷ bs)) ≡ suc (length bs) - first (b ∷ bs) = length-drop (first (b ∷ bs)) (b ∷ bs) in
    ap (λ (ps : List Text). take (first (b ∷ bs)) (b ∷ bs) ∷ ps) (cut_enough n k (drop (first (b ∷ bs)) (b ∷ bs)) (omega arith) (omega arith))

pub pieces_cons : (b : ℕ) (bs : Text) → pieces (b ∷ bs) ≡ take (first (b ∷ bs)) (b ∷ bs) ∷ pieces (drop (first (b ∷ bs)) (b ∷ bs))
unfolding pieces
pieces_cons b bs =
    let some = first_some b bs in
    let rest : length (drop (first (b ∷ bs)) (b ∷ bs)) ≡ suc (length bs) - first (b ∷ bs) = length-drop (first (b ∷ bs)) (b ∷ bs) in
    ap (λ (ps : List Text). take (first (b ∷ bs)) (b ∷ bs) ∷ ps)
    (cut_enough (length bs) (length (drop (first (b ∷ bs)) (b ∷ bs))) (drop (first (b ∷ bs)) (b ∷ bs)) (omega arith) (le_refl _))

pub pieces_nil : pieces [] ≡ []
unfolding pieces
pieces_nil = refl

pub pieces_some : (text : Text) → 0 < length text → pieces text ≡ take (first text) text ∷ pieces (drop (first text) text)
pieces_some [] lt = absurd (omega arith)
pieces_some (b ∷ bs) lt = pieces_cons b bs

-- ---- a turn over one piece

module _ (text : Text) (i : ℕ) (lt : i < length text) where
  rest_some : 0 < length (drop i text)
  rest_some = omega (arith, length-drop i text)

  pub turn : (n : ℕ) → first (drop i text) ≡ n → n ≤ length (drop i text)
      → tokens_at (i + 1) (pieces (drop i text)) ≡ tokens_by (i + 1) (piece (take n (drop i text))) (tokens_at (i + n + 1) (pieces (drop (i + n) text)))
  turn n is le =
      let some = rest_some in
      let cuts : pieces (drop i text) ≡ take n (drop i text) ∷ pieces (drop n (drop i text)) = rw is at (pieces_some (drop i text) some) in
      let len : length (take n (drop i text)) ≡ n = length-take-le n (drop i text) le in
      let place : i + 1 + n ≡ i + n + 1 = omega arith in
      rw (cuts, len, place, drop-drop n i text) refl

-- ---- gathering

added_one : (found : Found) (w : Word) (i n : ℕ) (r : Result (List Token) ℕ) → length found.tokens ≤ most_tokens
    → answer found (before (i + 1) ((w, n) ∷ []) r) ≡ answer (added found (token w i n)) r
added_one found w i n (Err place) le = refl
added_one found w i n (Ok ts) le =
    elim (cases_Bool (nat_lt (length found.tokens) most_tokens)) [
      | inl e ↦
          let same : (found.tokens ++ token w i n ∷ []) ++ ts ≡ found.tokens ++ (token w i n ∷ ts) = append_assoc found.tokens (token w i n ∷ []) ts in
          rw (e, same) refl
      | inr e ↦
          let full = ltb-false (length found.tokens) most_tokens e in
          let len : length (found.tokens ++ (token w i n ∷ ts)) ≡ length found.tokens + suc (length ts) = length-append found.tokens (token w i n ∷ ts) in
          let past : nat_lt most_tokens (length (found.tokens ++ (token w i n ∷ ts))) ≡ true =
          lt-ltb most_tokens (length (found.tokens ++ (token w i n ∷ ts))) (omega arith) in
          let over = or_right found.over (nat_lt most_tokens (length (found.tokens ++ (token w i n ∷ ts)))) past in
          rw (e, over) refl
    ]

pub added_within : (found : Found) (t : Token) → length found.tokens ≤ most_tokens → length (added found t).tokens ≤ most_tokens
added_within found t le =
    elim (cases_Bool (nat_lt (length found.tokens) most_tokens)) [
      | inl e ↦ let lt = ltb-true (length found.tokens) most_tokens e in rw e (omega (arith, length-append found.tokens (t ∷ [])))
      | inr e ↦ rw e le
    ]

before_two : (at : ℕ) (l : Lexeme) (ls : List Lexeme) (r : Result (List Token) ℕ) → before at (l ∷ ls) r ≡ before at (l ∷ []) (before (at + l.1) ls r)
before_two at l ls (Ok ts) = refl
before_two at l ls (Err place) = refl

before_none : (at : ℕ) (r : Result (List Token) ℕ) → before at [] r ≡ r
before_none at (Ok ts) = refl
before_none at (Err place) = refl

module _ (text : Text) (i : ℕ) (lt : i < length text) (found : Found) (few : length found.tokens ≤ most_tokens) (whole : Result (List Token) LexError)
    (so_far : whole ≡ answer found (tokens_at (i + 1) (pieces (drop i text)))) where
  pub skips_turn : (n : ℕ) → IsLongest (drop i text) (front.Skips n) → whole ≡ answer found (tokens_at (i + n + 1) (pieces (drop (i + n) text)))
  skips_turn n is =
      so_far ∙ rw (turn text i lt n is.0 is.3, is.1)
      (ap (λ (r : Result (List Token) ℕ). answer found r) (before_none (i + 1) (tokens_at (i + n + 1) (pieces (drop (i + n) text)))))

  pub holds_turn : (w : Word) (n : ℕ) → IsLongest (drop i text) (front.Holds w n)
      → whole ≡ answer (added found (token w i n)) (tokens_at (i + n + 1) (pieces (drop (i + n) text)))
  holds_turn w n is = so_far ∙ rw (turn text i lt n is.0 is.3, is.1) (added_one found w i n (tokens_at (i + n + 1) (pieces (drop (i + n) text))) few)

  pub ends_turn : (k : Key) (n : ℕ) → IsLongest (drop i text) (front.Ends k n)
      → whole ≡ answer (added (added found (token (word.Key key.End) i 3)) (token (word.Key k) (i + 3) (n - 3)))
      (tokens_at (i + n + 1) (pieces (drop (i + n) text)))
  ends_turn k n is =
      let rest = tokens_at (i + n + 1) (pieces (drop (i + n) text)) in
      let second = before (i + 3 + 1) ((word.Key k, n - 3) ∷ []) rest in
      let place : i + 1 + 3 ≡ i + 3 + 1 = omega arith in
      let one_by_one : before (i + 1) ((word.Key key.End, 3) ∷ (word.Key k, n - 3) ∷ []) rest ≡ before (i + 1) ((word.Key key.End, 3) ∷ []) second =
      before_two (i + 1) (word.Key key.End, 3) ((word.Key k, n - 3) ∷ []) rest ∙ rw place refl in
      so_far ∙ rw (turn text i lt n is.0 is.3, is.1, one_by_one)
      (added_one found (word.Key key.End) i 3 second few
      ∙ added_one (added found (token (word.Key key.End) i 3)) (word.Key k) (i + 3) (n - 3) rest (added_within found (token (word.Key key.End) i 3) few))

  pub stuck_turn : IsLongest (drop i text) front.Stuck → whole ≡ answer found (Err (i + 1))
  stuck_turn is = so_far ∙ rw (turn text i lt (first (drop i text)) refl (first_within (drop i text)), is) refl

-- as the code reads it, from a slice of the text
pub of_slice : (text : Text) (i : ℕ) (f g : Front) → f ≡ g → IsLongest (take (length text - i) (drop i text)) f → IsLongest (drop i text) g
of_slice text i f g e is =
    subst (λ (rest : Text). IsLongest rest g) (take_rest text i) (subst (λ (f : Front). IsLongest (take (length text - i) (drop i text)) f) e is)

-- ---- start and end

begun : (r : Result (List Token) ℕ) → limited r ≡ answer (record { tokens = []; over = false }) r
begun (Ok ts) = refl
begun (Err place) = refl

pub start : (text : Text) → limited (tokens_of text) ≡ answer (record { tokens = []; over = false }) (tokens_at 1 (pieces text))
unfolding tokens_of
start text = begun (tokens_at 1 (pieces text))

module _ (text : Text) (i : ℕ) (past : length text ≤ i) (found : Found) (whole : Result (List Token) LexError)
    (so_far : whole ≡ answer found (tokens_at (i + 1) (pieces (drop i text)))) where
  at_end : whole ≡ answer found (Ok [])
  at_end = let none = drop_all i text past in so_far ∙ rw (none, pieces_nil) refl

  pub end_over : found.over ≡ true → whole ≡ Err error.TooMany
  end_over e = at_end ∙ rw e refl

  pub end_within : length found.tokens ≤ most_tokens → found.over ≡ false → whole ≡ Ok found.tokens
  end_within le e =
      let fits : nat_lt most_tokens (length found.tokens) ≡ false = le-ltb most_tokens (length found.tokens) le in
      at_end ∙ rw (e, append-nil found.tokens, fits) refl
