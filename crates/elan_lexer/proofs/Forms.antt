-- What the reading of each form finds is the longest piece.
use Rattle.std.proofs.Common.{◌≡◌, ℕ, zero, suc, ◌+◌, ◌<◌, ◌≤◌, inl, inr, Bool, true, false, not, [], ◌∷◌, length, take, Option, Some, None, refl, ap, arith}
use Rattle.std.proofs.Common.{add-one, eq-eqb, take_all, length-take-le, le_refl}
use Rattle.std.specs.Prelude.{◌==◌, nat_le, filter}
use Rattle.std.specs.List.{prefix_len, suffix_len, list_all}
use Rattle.std.proofs.lemmas.Bool.{cases_Bool, cases_lt, ne_eqb}
use Rattle.std.proofs.lemmas.List.Sums.{prefix_len-le-length}
use Rattle.elan_tree.specs.declared.token.Key.{Key}
use Rattle.elan_tree.specs.declared.token.Sign.{Sign}
use Rattle.elan_tree.specs.declared.token.Word.TheVariants as word
use Rattle.elan_lexer.specs.declared.front.Front.TheVariants as front
use Rattle.elan_lexer.specs.Class.{is_lower, is_upper, is_digit, is_blank, is_space, is_inner}
use Rattle.elan_lexer.specs.Tables.{Text, lookup, signs, end_words}
use Rattle.elan_lexer.specs.Pieces as p
use Rattle.elan_lexer.specs.Pieces.{Piece, Holds, Unreadable, NoPiece, piece, is_piece, only_if, alone, opens, comment_end, characters, value, largest_number}
use Rattle.elan_lexer.specs.Tokens.{first}
use Rattle.elan_lexer.specs.Scan as s
use Rattle.elan_lexer.specs.Scan.{scan, rest_len, IsLongest}
use Rattle.elan_lexer.proofs.Longest.{first_is}
use Rattle.elan_lexer.proofs.Local.{comment_local, comment_within, characters_local, characters_within, opens_no, opens_yes}
use Rattle.elan_lexer.proofs.Runs.{run_all, run_stops, trimmed, past_trim}
use Rattle.elan_lexer.proofs.Entries.{no_sign, end_word_long}

-- ---- a text with a first byte

abbrev NoMore : ℕ → Text → ℕ → Type 0
NoMore b bs n = (m : ℕ) → n < m → m ≤ length bs → is_piece (piece (b ∷ take m bs)) ≡ false

first_cons : (b : ℕ) (bs : Text) (n : ℕ) → n ≤ length bs → is_piece (piece (b ∷ take n bs)) ≡ true → NoMore b bs n → first (b ∷ bs) ≡ suc n
first_cons b bs n le here above = first_is (suc n) (b ∷ bs) (omega arith) here longer (omega arith)
  where
    longer : (m : ℕ) → suc n < m → m ≤ length (b ∷ bs) → is_piece (piece (take m (b ∷ bs))) ≡ false
    longer zero lt lm = absurd (omega arith)
    longer (suc m) lt lm = above m (omega arith) (omega arith)

-- nothing longer than the whole text
all_unreadable : (b : ℕ) (bs : Text) → piece (b ∷ bs) ≡ Unreadable → piece (take (first (b ∷ bs)) (b ∷ bs)) ≡ Unreadable
all_unreadable b bs e =
    let whole : take (length bs) bs ≡ bs = take_all (length bs) bs (le_refl (length bs)) in
    let f = first_cons b bs (length bs) (le_refl (length bs)) (rw (whole, e) refl) (λ m lt le. absurd (omega arith)) in
    rw (f, whole) e

alone_no : (bs : Text) (m : ℕ) (x : Piece) → 0 < m → m ≤ length bs → alone (take m bs) x ≡ NoPiece
alone_no bs zero x lt le = absurd (omega arith)
alone_no [] (suc m) x lt le = absurd (omega arith)
alone_no (b ∷ bs) (suc m) x lt le = refl

-- ---- blanks

piece_blank : (b : ℕ) → is_blank b ≡ true → (bs : Text) → piece (b ∷ bs) ≡ alone bs (Holds [])
unfolding piece
piece_blank b e bs = rw e refl

pub blank_longest : (b : ℕ) (bs : Text) → is_blank b ≡ true → IsLongest (b ∷ bs) (front.Skips 1)
blank_longest b bs e =
    let same = piece_blank b e in
    let here : piece (b ∷ []) ≡ Holds [] = same [] in
    (first_cons b bs 0 (omega arith) (rw here refl) (λ m lt le. rw (same (take m bs), alone_no bs m (Holds []) lt le) refl), here, omega arith, omega arith)

-- ---- runs

module _ (b : ℕ) (q : ℕ → Bool) (form : Text → Piece) (good : (bs : Text) → is_piece (form bs) ≡ true)
    (same : (bs : Text) → piece (b ∷ bs) ≡ only_if (list_all q bs) (form bs)) (bs : Text) where
  run_holds : piece (b ∷ take (prefix_len q bs) bs) ≡ form (take (prefix_len q bs) bs)
  run_holds = rw (same (take (prefix_len q bs) bs), run_all q bs (prefix_len q bs) (le_refl (prefix_len q bs))) refl

  run_first : first (b ∷ bs) ≡ suc (prefix_len q bs)
  run_first =
      first_cons b bs (prefix_len q bs) (prefix_len-le-length q bs) (rw run_holds (good (take (prefix_len q bs) bs)))
      (λ m lt le. rw (same (take m bs), run_stops q bs m lt le) refl)

run_len : (q : ℕ → Bool) (b : ℕ) (bs : Text) → q b ≡ true → prefix_len q (b ∷ bs) ≡ suc (prefix_len q bs)
run_len q b bs e = rw e (omega arith)

run_length : (q : ℕ → Bool) (b : ℕ) (bs : Text) → length (b ∷ take (prefix_len q bs) bs) ≡ suc (prefix_len q bs)
run_length q b bs = ap (λ (n : ℕ). suc n) (length-take-le (prefix_len q bs) bs (prefix_len-le-length q bs))

-- ---- bold words

abbrev capitals : ℕ → Text → Piece
capitals b bs = p.capitals (b ∷ bs) (lookup end_words (b ∷ bs))

capitals_good : (spelling : Text) (o : Option Key) → is_piece (p.capitals spelling o) ≡ true
capitals_good spelling (Some k) = refl
capitals_good spelling None = refl

piece_upper : (b : ℕ) → is_blank b ≡ false → is_lower b ≡ false → is_upper b ≡ true → (bs : Text)
    → piece (b ∷ bs) ≡ only_if (list_all is_upper bs) (capitals b bs)
unfolding piece
piece_upper b n1 n2 e bs = rw (n1, n2, e) refl

module _ (b : ℕ) (bs : Text) (same : (bs : Text) → piece (b ∷ bs) ≡ only_if (list_all is_upper bs) (capitals b bs)) where
  spelled_longest : (o : Option Key) → lookup end_words (b ∷ take (prefix_len is_upper bs) bs) ≡ o
      → IsLongest (b ∷ bs) (s.spelled (b ∷ take (prefix_len is_upper bs) bs) (suc (prefix_len is_upper bs)) o)
  spelled_longest o is =
      let r = prefix_len is_upper bs in
      let good = λ (bs : Text). capitals_good (b ∷ bs) (lookup end_words (b ∷ bs)) in
      let found = run_first b is_upper (capitals b) good same bs in
      let holds = run_holds b is_upper (capitals b) good same bs in
      let le = prefix_len-le-length is_upper bs in
      by_end o is found holds le
    where
      by_end : (o : Option Key) → lookup end_words (b ∷ take (prefix_len is_upper bs) bs) ≡ o → first (b ∷ bs) ≡ suc (prefix_len is_upper bs)
          → piece (b ∷ take (prefix_len is_upper bs) bs) ≡ capitals b (take (prefix_len is_upper bs) bs) → prefix_len is_upper bs ≤ length bs
          → IsLongest (b ∷ bs) (s.spelled (b ∷ take (prefix_len is_upper bs) bs) (suc (prefix_len is_upper bs)) o)
      by_end (Some k) is found holds le =
          let long = end_word_long (b ∷ take (prefix_len is_upper bs) bs) k is in
          let len = run_length is_upper b bs in
          (found, rw (holds, is, len) refl, omega arith, omega arith)
      by_end None is found holds le = let len = run_length is_upper b bs in (found, rw (holds, is, len) refl, omega arith, omega arith)

pub bold_longest : (b : ℕ) (bs : Text) → is_blank b ≡ false → is_lower b ≡ false → is_upper b ≡ true → IsLongest (b ∷ bs) (s.bold (b ∷ bs))
bold_longest b bs n1 n2 e =
    rw (run_len is_upper b bs e) (spelled_longest b bs (piece_upper b n1 n2 e) (lookup end_words (b ∷ take (prefix_len is_upper bs) bs)) refl)

-- ---- numbers

abbrev digits : ℕ → Text → Piece
digits b bs = p.number_of (value (b ∷ bs)) (suc (length bs))

number_good : (v n : ℕ) → is_piece (p.number_of v n) ≡ true
number_good v n = elim (cases_Bool (nat_le v largest_number)) [ inl e ↦ rw e refl | inr e ↦ rw e refl ]

piece_digit : (b : ℕ) → is_blank b ≡ false → is_lower b ≡ false → is_upper b ≡ false → is_digit b ≡ true
    → (bs : Text) → piece (b ∷ bs) ≡ only_if (list_all is_digit bs) (digits b bs)
unfolding piece
piece_digit b n1 n2 n3 e bs = rw (n1, n2, n3, e) refl

pub number_longest : (b : ℕ) (bs : Text) → is_blank b ≡ false → is_lower b ≡ false → is_upper b ≡ false → is_digit b ≡ true
    → IsLongest (b ∷ bs) (s.number (b ∷ bs))
number_longest b bs n1 n2 n3 e =
    let same = piece_digit b n1 n2 n3 e in
    let good = λ (bs : Text). number_good (value (b ∷ bs)) (suc (length bs)) in
    let found = run_first b is_digit (digits b) good same bs in
    let holds = run_holds b is_digit (digits b) good same bs in
    let len : length (take (prefix_len is_digit bs) bs) ≡ prefix_len is_digit bs =
    length-take-le (prefix_len is_digit bs) bs (prefix_len-le-length is_digit bs) in
    let le = prefix_len-le-length is_digit bs in
    rw (run_len is_digit b bs e)
    (elim (cases_Bool (nat_le (value (b ∷ take (prefix_len is_digit bs) bs)) largest_number)) [
      | inl small ↦ rw small (found, rw (holds, len, small) refl, omega arith, omega arith)
      | inr large ↦ rw large (rw (found, holds, large) refl)
    ])

-- ---- identifiers

piece_lower : (b : ℕ) → is_blank b ≡ false → is_lower b ≡ true → (bs : Text) → piece (b ∷ bs) ≡ p.identifier b bs
unfolding piece
piece_lower b n e bs = rw (n, e) refl

rest_inner : (bs : Text) → rest_len bs ≤ prefix_len is_inner bs
unfolding rest_len
rest_inner bs = omega arith

rest_trimmed : (bs : Text) → suffix_len is_space (take (rest_len bs) bs) ≡ 0
unfolding rest_len
rest_trimmed bs = trimmed is_space bs (prefix_len is_inner bs) (prefix_len-le-length is_inner bs)

rest_past : (bs : Text) (m : ℕ) → rest_len bs < m → m ≤ prefix_len is_inner bs → 0 < suffix_len is_space (take m bs)
unfolding rest_len
rest_past bs m lt le = past_trim is_space bs (prefix_len is_inner bs) m (prefix_len-le-length is_inner bs) lt le

ident_above : (b : ℕ) (bs : Text) (m : ℕ) → rest_len bs < m → m ≤ length bs → p.identifier b (take m bs) ≡ NoPiece
ident_above b bs m lt le =
    elim (cases_lt (prefix_len is_inner bs) m) [
      | inl past ↦ rw (run_stops is_inner bs m past le) refl
      | inr in_run ↦
          let some = rest_past bs m lt in_run in
          let spaces : (suffix_len is_space (take m bs) == 0) ≡ false = ne_eqb (suffix_len is_space (take m bs)) 0 (λ e. omega arith) in
          rw (run_all is_inner bs m in_run, spaces) refl
    ]

pub ident_longest : (b : ℕ) (bs : Text) → is_blank b ≡ false → is_lower b ≡ true → IsLongest (b ∷ bs) (s.ident (b ∷ bs))
ident_longest b bs n e =
    let same = piece_lower b n e in
    let r = rest_len bs in
    let inner = rest_inner bs in
    let le : rest_len bs ≤ length bs = omega (arith, prefix_len-le-length is_inner bs) in
    let len : length (take (rest_len bs) bs) ≡ rest_len bs = length-take-le (rest_len bs) bs le in
    let holds : piece (b ∷ take (rest_len bs) bs) ≡ p.one (word.Ident (filter (λ c. not (is_space c)) (b ∷ take (rest_len bs) bs))) (suc (rest_len bs)) =
    rw (same (take (rest_len bs) bs), run_all is_inner bs (rest_len bs) inner, rest_trimmed bs, len) refl in
    let found = first_cons b bs (rest_len bs) le (rw holds refl) (λ m lt lm. rw (same (take m bs), ident_above b bs m lt lm) refl) in
    (found, holds, omega arith, omega arith)

-- ---- text denoters

piece_quote : (b : ℕ) → is_blank b ≡ false → is_lower b ≡ false → is_upper b ≡ false → is_digit b ≡ false → (b == 34) ≡ true → (bs : Text)
    → piece (b ∷ bs) ≡ p.denoter bs
unfolding piece
piece_quote b n1 n2 n3 n4 e bs = rw (n1, n2, n3, n4, e) refl

module _ (b : ℕ) (bs : Text) (same : (bs : Text) → piece (b ∷ bs) ≡ p.denoter bs) where
  denoter_by : (o : Option (Text × ℕ)) → characters 0 bs ≡ o → IsLongest (b ∷ bs) (s.denoter o)
  denoter_by None is = all_unreadable b bs (rw (same bs, is) refl)
  denoter_by (Some t) is =
      let within = characters_within bs 0 t is in
      let le : t.1 ≤ length bs = omega arith in
      let len : length (take t.1 bs) ≡ t.1 = length-take-le t.1 bs le in
      let read = λ (m : ℕ) (l : t.1 ≤ m). characters_local bs 0 m t is (omega arith) in
      let ends : (t.1 == t.1) ≡ true = eq-eqb t.1 t.1 refl in
      let holds : piece (b ∷ take t.1 bs) ≡ p.one (word.Text t.0) (t.1 + 1) = rw (same (take t.1 bs), read t.1 (le_refl t.1), len, ends) refl in
      let above = λ (m : ℕ) (lt : t.1 < m) (lm : m ≤ length bs).
      let goes_on : (t.1 == length (take m bs)) ≡ false = ne_eqb t.1 (length (take m bs)) (λ e. omega (arith, length-take-le m bs lm)) in
      let no : is_piece (piece (b ∷ take m bs)) ≡ false = rw (same (take m bs), read m (omega arith), goes_on) refl in
      no in
      let found = first_cons b bs t.1 le (rw holds refl) above in
      let more : t.1 + 1 ≡ suc t.1 = add-one t.1 in
      let holds_more = rw more at holds in
      rw more (found, holds_more, omega arith, omega arith)

pub denoter_longest : (b : ℕ) (bs : Text) → is_blank b ≡ false → is_lower b ≡ false → is_upper b ≡ false → is_digit b ≡ false → (b == 34) ≡ true
    → IsLongest (b ∷ bs) (s.denoter (characters 0 bs))
denoter_longest b bs n1 n2 n3 n4 e = denoter_by b bs (piece_quote b n1 n2 n3 n4 e) (characters 0 bs) refl

-- ---- comments

piece_curly : (b : ℕ) → is_blank b ≡ false → is_lower b ≡ false → is_upper b ≡ false → is_digit b ≡ false → (b == 34) ≡ false
    → (bs : Text) → opens true b bs ≡ true → piece (b ∷ bs) ≡ p.comment true bs
unfolding piece
piece_curly b n1 n2 n3 n4 n5 bs e = rw (n1, n2, n3, n4, n5, e) refl

piece_round : (b : ℕ) → is_blank b ≡ false → is_lower b ≡ false → is_upper b ≡ false → is_digit b ≡ false → (b == 34) ≡ false → (b == 123) ≡ false
    → (bs : Text) → opens false b bs ≡ true → piece (b ∷ bs) ≡ p.comment false bs
unfolding piece
piece_round b n1 n2 n3 n4 n5 n6 bs e = rw (n1, n2, n3, n4, n5, n6, e) refl

module _ (curly : Bool) (b : ℕ) (bs : Text) (same : (bs : Text) → opens curly b bs ≡ true → piece (b ∷ bs) ≡ p.comment curly bs)
    (open_here : opens curly b bs ≡ true) where
  comment_by : (o : Option ℕ) → comment_end curly 1 (not curly) bs ≡ o → IsLongest (b ∷ bs) (s.skipped o)
  comment_by None is = all_unreadable b bs (rw (same bs open_here, is) refl)
  comment_by (Some n) is =
      let le = comment_within curly bs 1 n (not curly) is in
      let len : length (take n bs) ≡ n = length-take-le n bs le in
      let read = λ (m : ℕ) (l : n ≤ m). comment_local curly bs 1 n m (not curly) is l in
      let kept = λ (m : ℕ) (l : n ≤ m). opens_yes curly b bs 1 n m open_here is l in
      let ends : (n == n) ≡ true = eq-eqb n n refl in
      let holds : piece (b ∷ take n bs) ≡ Holds [] = rw (same (take n bs) (kept n (le_refl n)), read n (le_refl n), len, ends) refl in
      let above = λ (m : ℕ) (lt : n < m) (lm : m ≤ length bs).
      let goes_on : (n == length (take m bs)) ≡ false = ne_eqb n (length (take m bs)) (λ e. omega (arith, length-take-le m bs lm)) in
      let no : is_piece (piece (b ∷ take m bs)) ≡ false = rw (same (take m bs) (kept m (omega arith)), read m (omega arith), goes_on) refl in
      no in
      let found = first_cons b bs n le (rw holds refl) above in
      rw (add-one n) (found, holds, omega arith, omega arith)

pub curly_longest : (b : ℕ) (bs : Text) → is_blank b ≡ false → is_lower b ≡ false → is_upper b ≡ false → is_digit b ≡ false → (b == 34) ≡ false
    → opens true b bs ≡ true → IsLongest (b ∷ bs) (s.comment true bs)
curly_longest b bs n1 n2 n3 n4 n5 e = comment_by true b bs (piece_curly b n1 n2 n3 n4 n5) e (comment_end true 1 false bs) refl

pub round_longest : (b : ℕ) (bs : Text) → is_blank b ≡ false → is_lower b ≡ false → is_upper b ≡ false → is_digit b ≡ false → (b == 34) ≡ false
    → (b == 123) ≡ false
    → opens false b bs ≡ true → IsLongest (b ∷ bs) (s.comment false bs)
round_longest b bs n1 n2 n3 n4 n5 n6 e = comment_by false b bs (piece_round b n1 n2 n3 n4 n5 n6) e (comment_end false 1 true bs) refl

-- ---- signs

piece_sign : (b : ℕ) → is_blank b ≡ false → is_lower b ≡ false → is_upper b ≡ false → is_digit b ≡ false → (b == 34) ≡ false → (b == 123) ≡ false
    → (bs : Text) → opens false b bs ≡ false → piece (b ∷ bs) ≡ p.sign b bs
unfolding piece
piece_sign b n1 n2 n3 n4 n5 n6 bs e = rw (n1, n2, n3, n4, n5, n6, e) refl

module _ (b : ℕ) (same : (bs : Text) → opens false b bs ≡ false → piece (b ∷ bs) ≡ p.sign b bs) where
  short_holds : (o : Option Sign) → lookup signs (b ∷ []) ≡ o → piece (b ∷ []) ≡ p.sign_or [] 1 o
  short_holds o is = rw (same [] refl, is) refl

  sign_good : (o : Option Sign) → is_piece (p.sign_or [] 1 o) ≡ true
  sign_good (Some x) = refl
  sign_good None = refl

  -- past two bytes there is no sign
  sign_past : (bs : Text) (m : ℕ) → opens false b bs ≡ false → 1 < m → m ≤ length bs → is_piece (piece (b ∷ take m bs)) ≡ false
  sign_past bs m none lt le =
      let len = length-take-le m bs le in
      let no = no_sign (b ∷ take m bs) (omega arith) in
      rw (same (take m bs) (opens_no false b bs m none), no, alone_no bs m Unreadable (omega arith) le) refl

  -- where the first two bytes are none, there is none past the first
  sign_past_one : (bs : Text) (m : ℕ) → opens false b bs ≡ false → lookup signs (b ∷ take 1 bs) ≡ None → 0 < m → m ≤ length bs
      → is_piece (piece (b ∷ take m bs)) ≡ false
  sign_past_one bs zero none two lt le = absurd (omega arith)
  sign_past_one bs (suc zero) none two lt le = rw (same (take 1 bs) (opens_no false b bs 1 none), two, alone_no bs 1 Unreadable lt le) refl
  sign_past_one bs (suc (suc m)) none two lt le = sign_past bs (suc (suc m)) none (omega arith) le

  short_by : (bs : Text) (o : Option Sign) → opens false b bs ≡ false → lookup signs (b ∷ take 1 bs) ≡ None → lookup signs (b ∷ []) ≡ o
      → IsLongest (b ∷ bs) (s.short o)
  short_by bs o none two is =
      let holds = short_holds o is in
      let found = first_cons b bs 0 (omega arith) (rw holds (sign_good o)) (λ m lt le. sign_past_one bs m none two lt le) in
      by_sign o holds found
    where
      by_sign : (o : Option Sign) → piece (b ∷ []) ≡ p.sign_or [] 1 o → first (b ∷ bs) ≡ 1 → IsLongest (b ∷ bs) (s.short o)
      by_sign (Some x) holds found = (found, holds, omega arith, omega arith)
      by_sign None holds found = rw (found) holds

  sign_by : (bs : Text) (o : Option Sign) → opens false b bs ≡ false → lookup signs (b ∷ take 1 bs) ≡ o → IsLongest (b ∷ bs) (s.sign_by (b ∷ bs) o)
  sign_by bs None none is = short_by bs (lookup signs (b ∷ [])) none is refl
  sign_by [] (Some x) none is =
      let holds : piece (b ∷ []) ≡ p.one (word.Sign x) 1 = rw (same [] refl, is) refl in
      (first_cons b [] 0 (omega arith) (rw holds refl) (λ m lt le. absurd (omega arith)), holds, omega arith, omega arith)
  sign_by (c ∷ bs) (Some x) none is =
      let holds : piece (b ∷ c ∷ []) ≡ p.one (word.Sign x) 2 = rw (same (c ∷ []) none, is) refl in
      (first_cons b (c ∷ bs) 1 (omega arith) (rw holds refl) (λ m lt le. sign_past (c ∷ bs) m none lt le), holds, omega arith, omega arith)

pub sign_longest : (b : ℕ) (bs : Text) → is_blank b ≡ false → is_lower b ≡ false → is_upper b ≡ false → is_digit b ≡ false → (b == 34) ≡ false
    → (b == 123) ≡ false
    → opens false b bs ≡ false → IsLongest (b ∷ bs) (s.sign (b ∷ bs))
sign_longest b bs n1 n2 n3 n4 n5 n6 none = sign_by b (piece_sign b n1 n2 n3 n4 n5 n6) bs (lookup signs (b ∷ take 1 bs)) none refl

-- ---- every text that is not empty

scan_blank : (b : ℕ) (bs : Text) → is_blank b ≡ true → scan (b ∷ bs) ≡ front.Skips 1
unfolding scan
scan_blank b bs e = rw e refl

scan_lower : (b : ℕ) (bs : Text) → is_blank b ≡ false → is_lower b ≡ true → scan (b ∷ bs) ≡ s.ident (b ∷ bs)
unfolding scan
scan_lower b bs n1 e = rw (n1, e) refl

scan_upper : (b : ℕ) (bs : Text) → is_blank b ≡ false → is_lower b ≡ false → is_upper b ≡ true → scan (b ∷ bs) ≡ s.bold (b ∷ bs)
unfolding scan
scan_upper b bs n1 n2 e = rw (n1, n2, e) refl

scan_digit : (b : ℕ) (bs : Text) → is_blank b ≡ false → is_lower b ≡ false → is_upper b ≡ false → is_digit b ≡ true → scan (b ∷ bs) ≡ s.number (b ∷ bs)
unfolding scan
scan_digit b bs n1 n2 n3 e = rw (n1, n2, n3, e) refl

scan_quote : (b : ℕ) (bs : Text) → is_blank b ≡ false → is_lower b ≡ false → is_upper b ≡ false → is_digit b ≡ false → (b == 34) ≡ true
    → scan (b ∷ bs) ≡ s.denoter (characters 0 bs)
unfolding scan
scan_quote b bs n1 n2 n3 n4 e = rw (n1, n2, n3, n4, e) refl

scan_curly : (b : ℕ) (bs : Text) → is_blank b ≡ false → is_lower b ≡ false → is_upper b ≡ false → is_digit b ≡ false → (b == 34) ≡ false → (b == 123) ≡ true
    → scan (b ∷ bs) ≡ s.comment true bs
unfolding scan
scan_curly b bs n1 n2 n3 n4 n5 e = rw (n1, n2, n3, n4, n5, e) refl

scan_round : (b : ℕ) (bs : Text) → is_blank b ≡ false → is_lower b ≡ false → is_upper b ≡ false → is_digit b ≡ false → (b == 34) ≡ false → (b == 123) ≡ false
    → opens false b bs ≡ true → scan (b ∷ bs) ≡ s.comment false bs
unfolding scan
scan_round b bs n1 n2 n3 n4 n5 n6 e = rw (n1, n2, n3, n4, n5, n6, e) refl

scan_sign : (b : ℕ) (bs : Text) → is_blank b ≡ false → is_lower b ≡ false → is_upper b ≡ false → is_digit b ≡ false → (b == 34) ≡ false → (b == 123) ≡ false
    → opens false b bs ≡ false → scan (b ∷ bs) ≡ s.sign (b ∷ bs)
unfolding scan
scan_sign b bs n1 n2 n3 n4 n5 n6 e = rw (n1, n2, n3, n4, n5, n6, e) refl

pub scan_longest : (b : ℕ) (bs : Text) → IsLongest (b ∷ bs) (scan (b ∷ bs))
scan_longest b bs =
    elim (cases_Bool (is_blank b)) [
      | inl e ↦ let f : scan (b ∷ bs) ≡ front.Skips 1 = scan_blank b bs e in rw f (blank_longest b bs e)
      | inr n1 ↦ elim (cases_Bool (is_lower b)) [
        | inl e ↦ rw (scan_lower b bs n1 e) (ident_longest b bs n1 e)
        | inr n2 ↦ elim (cases_Bool (is_upper b)) [
          | inl e ↦ rw (scan_upper b bs n1 n2 e) (bold_longest b bs n1 n2 e)
          | inr n3 ↦ elim (cases_Bool (is_digit b)) [
            | inl e ↦ rw (scan_digit b bs n1 n2 n3 e) (number_longest b bs n1 n2 n3 e)
            | inr n4 ↦ elim (cases_Bool (b == 34)) [
              | inl e ↦ rw (scan_quote b bs n1 n2 n3 n4 e) (denoter_longest b bs n1 n2 n3 n4 e)
              | inr n5 ↦ elim (cases_Bool (b == 123)) [
                | inl e ↦ rw (scan_curly b bs n1 n2 n3 n4 n5 e) (curly_longest b bs n1 n2 n3 n4 n5 e)
                | inr n6 ↦ elim (cases_Bool (opens false b bs)) [
                  | inl e ↦ rw (scan_round b bs n1 n2 n3 n4 n5 n6 e) (round_longest b bs n1 n2 n3 n4 n5 n6 e)
                  | inr e ↦ rw (scan_sign b bs n1 n2 n3 n4 n5 n6 e) (sign_longest b bs n1 n2 n3 n4 n5 n6 e)
                ]
              ]
            ]
          ]
        ]
      ]
    ]

pub longest_of : (text : Text) → 0 < length text → IsLongest text (scan text)
longest_of [] lt = absurd (omega arith)
longest_of (b ∷ bs) lt = scan_longest b bs
