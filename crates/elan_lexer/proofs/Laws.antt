-- The laws of the longest match and of the places.
use Rattle.std.proofs.Common.{◌≡◌, ℕ, zero, suc, ◌+◌, ◌-◌, ◌<◌, ◌≤◌, inl, inr, true, List, [], ◌∷◌, ◌++◌, length, take, drop, take-append-drop, take_at}
use Rattle.std.proofs.Common.{length-append, length-drop, length-take-le, Result, Ok, Err, refl, sym, ap, ◌∙◌, subst, arith, le_refl}
use Rattle.std.specs.Prelude.{nat_lt}
use Rattle.std.proofs.Math.Nat.{le-suc_iff}
use Rattle.std.proofs.lemmas.Bool.{cases_Bool, false_from_ne_true}
use Rattle.elan_tree.specs.declared.token.Key.TheVariants as key
use Rattle.elan_tree.specs.declared.token.Token.{Token}
use Rattle.elan_tree.specs.declared.token.Word.TheVariants as word
use Rattle.elan_lexer.specs.declared.front.Front.{Front}
use Rattle.elan_lexer.specs.declared.front.Front.TheVariants as front
use Rattle.elan_lexer.specs.Tables.{Text}
use Rattle.elan_lexer.specs.Pieces.{Lexeme, piece, is_piece}
use Rattle.elan_lexer.specs.Tokens.{longest, first, cut, pieces, placed, before, tokens_by, tokens_at, tokens_of, most_tokens, limited}
use Rattle.elan_lexer.specs.Scan.{scan, IsLongest}
use Rattle.elan_lexer.specs.Law.{IsLongestPiece, IsCut, LongestMatch, InOrder}
use Rattle.elan_lexer.proofs.Forms.{scan_longest}
use Rattle.elan_lexer.proofs.Longest.{first_is}
use Rattle.elan_lexer.proofs.Cuts.{first_within, first_some, pieces_nil, pieces_some}

-- ---- the first piece is one, and the longest

front_piece : (text : Text) (f : Front) → IsLongest text f → is_piece (piece (take (first text) text)) ≡ true
front_piece text (front.Skips n) is = rw (is.0, is.1) refl
front_piece text (front.Holds w n) is = rw (is.0, is.1) refl
front_piece text (front.Ends k n) is = rw (is.0, is.1) refl
front_piece text front.Stuck is = rw is refl

longest_least : (k m : ℕ) (text : Text) → m ≤ k → is_piece (piece (take m text)) ≡ true → m ≤ longest k text
longest_least zero m text le e = omega arith
longest_least (suc k) m text le e =
    elim (cases_Bool (is_piece (piece (take (suc k) text)))) [
      | inl here ↦ rw here le
      | inr no_piece ↦ elim (le-suc_iff.0 le) [
        | inl below ↦ rw no_piece (longest_least k m text below e)
        | inr same ↦ let f = rw same at e in absurd (cc)
      ]
    ]

first_least : (text q rest : Text) → text ≡ q ++ rest → is_piece (piece q) ≡ true → length q ≤ first text
unfolding first
first_least text q rest e is =
    let len : length text ≡ length q + length rest = ap (λ (t : Text). length t) e ∙ length-append q rest in
    let front : take (length q) text ≡ q = ap (λ (t : Text). take (length q) t) e ∙ take_at q rest (length q) refl in
    longest_least (length text) (length q) text (omega arith) (rw front is)

first_longest : (b : ℕ) (bs : Text) → IsLongestPiece (b ∷ bs) (take (first (b ∷ bs)) (b ∷ bs))
first_longest b bs =
    let text = b ∷ bs in
    let len : length (take (first text) text) ≡ first text = length-take-le (first text) text (first_within text) in
    (ap (λ (n : ℕ). take n text) len, front_piece text (scan text) (scan_longest b bs), λ q rest e is. rw len (first_least text q rest e is))

-- ---- every text is cut in one way

cut_is : (n : ℕ) (text : Text) → length text ≤ n → IsCut (cut n text) text
cut_is zero [] le = refl
cut_is zero (b ∷ bs) le = absurd (omega arith)
cut_is (suc n) [] le = refl
cut_is (suc n) (b ∷ bs) le =
    let text = b ∷ bs in
    let len : length (take (first text) text) ≡ first text = length-take-le (first text) text (first_within text) in
    let some = first_some b bs in
    (first_longest b bs, rw len (cut_is n (drop (first text) text) (omega (arith, length-drop (first text) text))))

pieces_are : (text : Text) → IsCut (pieces text) text
unfolding pieces
pieces_are text = cut_is (length text) text (le_refl (length text))

piece_some : (p : Text) → is_piece (piece p) ≡ true → 0 < length p
unfolding piece
piece_some [] is = absurd (cc)
piece_some (b ∷ bs) is = omega arith

is_first : (text p : Text) → IsLongestPiece text p → (first text ≡ length p) × (0 < length text)
is_first text p is =
    let some = piece_some p is.1 in
    let here : is_piece (piece (take (length p) text)) ≡ true = rw is.0 is.1 in
    let split : text ≡ p ++ drop (length p) text = sym (take-append-drop (length p) text) ∙ rw is.0 refl in
    let len : length text ≡ length p + length (drop (length p) text) = ap (λ (t : Text). length t) split ∙ length-append p (drop (length p) text) in
    let above = λ (m : ℕ) (lt : length p < m) (le : m ≤ length text).
    false_from_ne_true (is_piece (piece (take m text))) (λ yes.
    let longer = is.2 (take m text) (drop m text) (sym (take-append-drop m text)) yes in omega (arith, length-take-le m text le)) in
    (first_is (length p) text (omega arith) here above some, omega arith)

one_cut : (ps : List Text) (text : Text) → IsCut ps text → ps ≡ pieces text
one_cut [] text is = rw is (sym pieces_nil)
one_cut (p ∷ ps) text is =
    let found = is_first text p is.0 in
    let cuts = rw (found.0, is.0.0) at (pieces_some text found.1) in
    ap (λ (qs : List Text). p ∷ qs) (one_cut ps (drop (length p) text) is.1) ∙ sym cuts

pub longest_match : (text : Text) → LongestMatch text
longest_match text ps = ((λ is. one_cut ps text is), (λ same. subst (λ (qs : List Text). IsCut qs text) (sym same) (pieces_are text)))

-- ---- the tokens stand in the text, in order

before_ok : (at : ℕ) (ls : List Lexeme) (r : Result (List Token) ℕ) (ts : List Token) → before at ls r ≡ Ok ts
    → (us : List Token) × (r ≡ Ok us) × (ts ≡ placed at ls ++ us)
before_ok at ls (Ok us) ts e = (us, refl, (cc))
before_ok at ls (Err place) ts e = absurd (cc)

sooner : (from later to : ℕ) (ts : List Token) → from ≤ later → InOrder later to ts → InOrder from to ts
sooner from later to [] le is = omega arith
sooner from later to (t ∷ ts) le is = (omega arith, is.1, is.2)

module _ (text : Text) (at : ℕ) (r : Result (List Token) ℕ) (ts : List Token)
    (rest : (us : List Token) → r ≡ Ok us → InOrder (at + first text) (at + length text) us) where
  ordered : (f : Front) → IsLongest text f → tokens_by at (piece (take (first text) text)) r ≡ Ok ts → InOrder at (at + length text) ts
  ordered (front.Skips n) is e =
      let b = before_ok at [] r ts (rw (is.0, is.1) at e) in
      let moved = rw is.0 at (rest b.0 b.1) in
      rw b.2 (sooner at (at + n) (at + length text) b.0 (omega arith) moved)
  ordered (front.Holds w n) is e =
      let b = before_ok at ((w, n) ∷ []) r ts (rw (is.0, is.1) at e) in
      let moved = rw is.0 at (rest b.0 b.1) in
      rw b.2 (le_refl at, is.2, moved)
  ordered (front.Ends k n) is e =
      let b = before_ok at ((word.Key key.End, 3) ∷ (word.Key k, n - 3) ∷ []) r ts (rw (is.0, is.1) at e) in
      let moved = rw is.0 at (rest b.0 b.1) in
      let lt = is.2 in
      let end : at + n ≡ at + 3 + (n - 3) = omega arith in
      rw b.2 (le_refl at, omega arith, (le_refl (at + 3), omega arith, rw end at moved))
  ordered front.Stuck is e = let f = rw is at e in absurd (cc)

order_at : (n : ℕ) (text : Text) (at : ℕ) (ts : List Token) → length text ≤ n → tokens_at at (cut n text) ≡ Ok ts → InOrder at (at + length text) ts
order_at zero [] at ts le e = let none : ts ≡ [] = cc in rw none (omega arith)
order_at zero (b ∷ bs) at ts le e = absurd (omega arith)
order_at (suc n) [] at ts le e = let none : ts ≡ [] = cc in rw none (omega arith)
order_at (suc n) (b ∷ bs) at ts le e =
    let text = b ∷ bs in
    let within = first_within text in
    let some = first_some b bs in
    let len : length (take (first text) text) ≡ first text = length-take-le (first text) text within in
    let left : length (drop (first text) text) ≡ length text - first text = length-drop (first text) text in
    let end : at + first text + length (drop (first text) text) ≡ at + length text = omega arith in
    ordered text at (tokens_at (at + length (take (first text) text)) (cut n (drop (first text) text))) ts
    (λ us r. rw end at (order_at n (drop (first text) text) (at + first text) us (omega arith) (rw len at r)))
    (scan text) (scan_longest b bs) e

only_ok : (r : Result (List Token) ℕ) (ts : List Token) → limited r ≡ Ok ts → r ≡ Ok ts
only_ok (Ok us) ts e =
    elim (cases_Bool (nat_lt most_tokens (length us))) [
      | inl many ↦ let f = rw many at e in absurd (cc)
      | inr few ↦ let f = rw few at e in (cc)
    ]
only_ok (Err place) ts e = absurd (cc)

pub in_order : (text : Text) (ts : List Token) → limited (tokens_of text) ≡ Ok ts → InOrder 1 (1 + length text) ts
unfolding tokens_of pieces
in_order text ts e = order_at (length text) text 1 ts (le_refl (length text)) (only_ok (tokens_at 1 (cut (length text) text)) ts e)
