-- What a comment and a denoter are does not depend on the bytes behind their ends.
use Rattle.std.proofs.Common.{◌≡◌, ℕ, zero, suc, ◌+◌, ◌-◌, ◌<◌, ◌≤◌, inl, inr, Bool, true, false, not, cond, [], ◌∷◌, length, take, get_or, get_or-take}
use Rattle.std.proofs.Common.{take-take, length-take, Option, Some, None, refl, sym, ap, ◌∙◌, arith}
use Rattle.std.specs.Prelude.{◌==◌, ◌&&◌, nat_lt}
use Rattle.std.specs.List.{prefix_len}
use Rattle.std.proofs.Math.Seq.{take-nil}
use Rattle.std.proofs.lemmas.Bool.{cases_Bool, cases_lt, eqb-true, lt-ltb}
use Rattle.elan_lexer.specs.Class.{is_digit}
use Rattle.elan_lexer.specs.Tables.{Text}
use Rattle.std.proofs.lemmas.List.{get_or_past}
use Rattle.elan_lexer.specs.declared.reading.Quote.{Quote}
use Rattle.elan_lexer.specs.declared.reading.Quote.TheVariants.{Code, Doubled, End}
use Rattle.elan_lexer.specs.Pieces.{comment_end, one_more, opens, closes, quote_at, code, quote, character, quoted, characters}

-- ---- comments

one_more_is : (o : Option ℕ) (n : ℕ) → one_more o ≡ Some n → (k : ℕ) × (o ≡ Some k) × (n ≡ k + 1)
one_more_is (Some k) n e = (k, refl, (cc))
one_more_is None n e = absurd (cc)

same_some : (k n : ℕ) → n ≡ k + 1 → Some (k + 1) ≡ Some n
same_some k n e = cc

pub opens_no : (curly : Bool) (b : ℕ) (bs : Text) (m : ℕ) → opens curly b bs ≡ false → opens curly b (take m bs) ≡ false
opens_no true b bs m e = e
opens_no false b [] m e = rw (take-nil m) refl
opens_no false b (c ∷ bs) zero e = refl
opens_no false b (c ∷ bs) (suc m) e = e

closes_no : (curly : Bool) (b : ℕ) (bs : Text) (m : ℕ) → closes curly b bs ≡ false → closes curly b (take m bs) ≡ false
closes_no true b bs m e = e
closes_no false b [] m e = rw (take-nil m) refl
closes_no false b (c ∷ bs) zero e = refl
closes_no false b (c ∷ bs) (suc m) e = e

-- where a second byte follows
pub opens_yes : (curly : Bool) (b : ℕ) (bs : Text) (d k m : ℕ) → opens curly b bs ≡ true → comment_end curly d (not curly) bs ≡ Some k → k ≤ m
    → opens curly b (take m bs) ≡ true
opens_yes true b bs d k m o e le = o
opens_yes false b [] d k m o e le = absurd (cc)
opens_yes false b (c ∷ bs) d k zero o e le = let i = one_more_is (comment_end false d false bs) k e in absurd (omega arith)
opens_yes false b (c ∷ bs) d k (suc m) o e le = o

closes_yes : (curly : Bool) (b : ℕ) (bs : Text) (d k m : ℕ) → closes curly b bs ≡ true → comment_end curly d (not curly) bs ≡ Some k → k ≤ m
    → closes curly b (take m bs) ≡ true
closes_yes true b bs d k m o e le = o
closes_yes false b [] d k m o e le = absurd (cc)
closes_yes false b (c ∷ bs) d k zero o e le = let i = one_more_is (comment_end false d false bs) k e in absurd (omega arith)
closes_yes false b (c ∷ bs) d k (suc m) o e le = o

pub comment_local : (curly : Bool) (bs : Text) (d n m : ℕ) (second : Bool) → comment_end curly d second bs ≡ Some n → n ≤ m
    → comment_end curly d second (take m bs) ≡ Some n
comment_local curly [] d n m second e le = rw (take-nil m) e
comment_local curly (b ∷ bs) d n zero true e le = let i = one_more_is (comment_end curly d false bs) n e in absurd (omega arith)
comment_local curly (b ∷ bs) d n (suc m) true e le =
    let i = one_more_is (comment_end curly d false bs) n e in
    rw (comment_local curly bs d i.0 m false i.1 (omega arith)) (same_some i.0 n i.2)
comment_local curly (b ∷ bs) d n zero false e le =
    elim (cases_Bool (d == 0)) [
      | inl z ↦ rw z (rw z at e)
      | inr z ↦ let f = rw z at e in
          elim (cases_Bool (opens curly b bs)) [
            | inl o ↦ let i = one_more_is (comment_end curly (d + 1) (not curly) bs) n (rw o at f) in absurd (omega arith)
            | inr o ↦ let g = rw o at f in
                elim (cases_Bool (closes curly b bs)) [
                  | inl c ↦ let i = one_more_is (comment_end curly (d - 1) (not curly) bs) n (rw c at g) in absurd (omega arith)
                  | inr c ↦ let i = one_more_is (comment_end curly d false bs) n (rw c at g) in absurd (omega arith)
                ]
          ]
    ]
comment_local curly (b ∷ bs) d n (suc m) false e le =
    elim (cases_Bool (d == 0)) [
      | inl z ↦ rw z (rw z at e)
      | inr z ↦ let f = rw z at e in
          elim (cases_Bool (opens curly b bs)) [
            | inl o ↦
                let i = one_more_is (comment_end curly (d + 1) (not curly) bs) n (rw o at f) in
                let le2 : i.0 ≤ m = omega arith in
                rw (z, opens_yes curly b bs (d + 1) i.0 m o i.1 le2, comment_local curly bs (d + 1) i.0 m (not curly) i.1 le2) (same_some i.0 n i.2)
            | inr o ↦ let g = rw o at f in
                elim (cases_Bool (closes curly b bs)) [
                  | inl c ↦
                      let i = one_more_is (comment_end curly (d - 1) (not curly) bs) n (rw c at g) in
                      let le2 : i.0 ≤ m = omega arith in
                      rw (z, opens_no curly b bs m o, closes_yes curly b bs (d - 1) i.0 m c i.1 le2, comment_local curly bs (d - 1) i.0 m (not curly) i.1 le2)
                      (same_some i.0 n i.2)
                  | inr c ↦
                      let i = one_more_is (comment_end curly d false bs) n (rw c at g) in
                      let le2 : i.0 ≤ m = omega arith in
                      rw (z, opens_no curly b bs m o, closes_no curly b bs m c, comment_local curly bs d i.0 m false i.1 le2) (same_some i.0 n i.2)
                ]
          ]
    ]

pub comment_within : (curly : Bool) (bs : Text) (d n : ℕ) (second : Bool) → comment_end curly d second bs ≡ Some n → n ≤ length bs
comment_within curly [] d n second e =
    elim (cases_Bool (d == 0)) [
      | inl z ↦ let f = rw z at e in let g : n ≡ 0 = cc in omega arith
      | inr z ↦ let f = rw z at e in absurd (cc)
    ]
comment_within curly (b ∷ bs) d n true e =
    let i = one_more_is (comment_end curly d false bs) n e in
    let h = comment_within curly bs d i.0 false i.1 in omega arith
comment_within curly (b ∷ bs) d n false e =
    elim (cases_Bool (d == 0)) [
      | inl z ↦ let f = rw z at e in let g : n ≡ 0 = cc in omega arith
      | inr z ↦ let f = rw z at e in
          elim (cases_Bool (opens curly b bs)) [
            | inl o ↦
                let i = one_more_is (comment_end curly (d + 1) (not curly) bs) n (rw o at f) in
                let h = comment_within curly bs (d + 1) i.0 (not curly) i.1 in omega arith
            | inr o ↦ let g = rw o at f in
                elim (cases_Bool (closes curly b bs)) [
                  | inl c ↦
                      let i = one_more_is (comment_end curly (d - 1) (not curly) bs) n (rw c at g) in
                      let h = comment_within curly bs (d - 1) i.0 (not curly) i.1 in omega arith
                  | inr c ↦
                      let i = one_more_is (comment_end curly d false bs) n (rw c at g) in
                      let h = comment_within curly bs d i.0 false i.1 in omega arith
                ]
          ]
    ]

-- ---- denoters

prefix_take : (p : ℕ → Bool) (bs : Text) (m : ℕ) → prefix_len p bs < m → prefix_len p (take m bs) ≡ prefix_len p bs
prefix_take p bs zero lt = absurd (omega arith)
prefix_take p [] (suc m) lt = refl
prefix_take p (b ∷ bs) (suc m) lt =
    elim (cases_Bool (p b)) [
      | inl e ↦ let l = rw e at lt in rw e (ap (λ (k : ℕ). 1 + k) (prefix_take p bs m (omega arith)))
      | inr e ↦ rw e refl
    ]

prefix_whole : (p : ℕ → Bool) (bs : Text) (m : ℕ) → m ≤ prefix_len p bs → prefix_len p (take m bs) ≡ m
prefix_whole p bs zero le = refl
prefix_whole p [] (suc m) le = absurd (omega arith)
prefix_whole p (b ∷ bs) (suc m) le =
    elim (cases_Bool (p b)) [
      | inl e ↦ let l = rw e at le in rw (e, prefix_whole p bs m (omega arith)) (omega arith)
      | inr e ↦ let l = rw e at le in absurd (omega arith)
    ]

abbrev coded : Text → Bool
coded bs = nat_lt 0 (prefix_len is_digit bs) && quote_at (prefix_len is_digit bs) bs

quote_is : (bs : Text) → quote bs
    ≡ cond (coded bs) (Code (code (take (prefix_len is_digit bs) bs)) (prefix_len is_digit bs + 1)) (cond (quote_at 0 bs) Doubled End)
unfolding quote
quote_is bs = refl

quote_same : (bs : Text) (m : ℕ) → prefix_len is_digit bs < m → quote (take m bs) ≡ quote bs
unfolding quote
quote_same bs m lt =
    let n = prefix_len is_digit bs in
    let same : prefix_len is_digit (take m bs) ≡ n = prefix_take is_digit bs m lt in
    let at_n : get_or (take m bs) n 0 ≡ get_or bs n 0 = get_or-take m bs n 0 lt in
    let pos : 0 < m = omega arith in
    let at_0 : get_or (take m bs) 0 0 ≡ get_or bs 0 0 = get_or-take m bs 0 0 pos in
    let le : n ≤ m = omega arith in
    let front : take n (take m bs) ≡ take n bs = take-take n m bs le in
    rw (same, at_n, at_0, front) refl

digit_first : (bs : Text) → 0 < prefix_len is_digit bs → quote_at 0 bs ≡ false
digit_first [] lt = refl
digit_first (b ∷ bs) lt =
    elim (cases_Bool (is_digit b)) [
      | inl e ↦ elim (cases_Bool (b == 34)) [
        | inl q ↦ let z : b ≡ 34 = eqb-true b 34 q in let f = rw z at e in absurd (cc)
        | inr q ↦ q
      ]
      | inr e ↦ let l = rw e at lt in absurd (omega arith)
    ]

-- all of the bytes that are kept are digits
quote_cut : (bs : Text) (m : ℕ) → m ≤ prefix_len is_digit bs → quote (take m bs) ≡ End
unfolding quote
quote_cut bs zero le = refl
quote_cut bs (suc m) le =
    let n = prefix_len is_digit (take (suc m) bs) in
    let whole : n ≡ suc m = prefix_whole is_digit bs (suc m) le in
    let past : length (take (suc m) bs) ≤ suc m = omega (arith, length-take (suc m) bs) in
    let here : get_or (take (suc m) bs) (suc m) 0 ≡ 0 = get_or_past (take (suc m) bs) (suc m) 0 past in
    let first : quote_at 0 (take (suc m) bs) ≡ false = digit_first (take (suc m) bs) (omega arith) in
    let some : nat_lt 0 (suc m) ≡ true = lt-ltb 0 (suc m) (omega arith) in
    rw (whole, here, first, some) refl

quote_code : (bs : Text) (c : Option ℕ) (k : ℕ) → quote bs ≡ Code c k → k ≡ prefix_len is_digit bs + 1
quote_code bs c k e =
    let f = sym (quote_is bs) ∙ e in
    elim (cases_Bool (coded bs)) [
      | inl t ↦ let g = rw t at f in (cc)
      | inr t ↦ let g = rw t at f in elim (cases_Bool (quote_at 0 bs)) [
        | inl q ↦ let h = rw q at g in absurd (cc)
        | inr q ↦ let h = rw q at g in absurd (cc)
      ]
    ]

quote_doubled : (bs : Text) → quote bs ≡ Doubled → prefix_len is_digit bs ≡ 0
quote_doubled bs e =
    let f = sym (quote_is bs) ∙ e in
    elim (cases_Bool (coded bs)) [
      | inl t ↦ let g = rw t at f in absurd (cc)
      | inr t ↦ let g = rw t at f in
          elim (cases_lt 0 (prefix_len is_digit bs)) [
            | inl lt ↦ let q = digit_first bs lt in let h = rw q at g in absurd (cc)
            | inr le ↦ omega arith
          ]
    ]

quote_end : (bs : Text) (m : ℕ) → quote bs ≡ End → quote (take m bs) ≡ End
quote_end bs m e =
    elim (cases_lt (prefix_len is_digit bs) m) [
      | inl lt ↦ quote_same bs m lt ∙ e
      | inr le ↦ quote_cut bs m le
    ]

-- what a character is read from, and what is read behind it
pub character_is : (c n : ℕ) (o : Option (Text × ℕ)) (p : Text × ℕ) → character c n o ≡ Some p
    → (q : Text × ℕ) × (o ≡ Some q) × (p ≡ (c ∷ q.0, q.1 + n)) × (p.1 ≡ q.1 + n)
character_is c n (Some q) p e = let same : p ≡ (c ∷ q.0, q.1 + n) = cc in (q, refl, same, ap (λ (x : Text × ℕ). x.1) same)
character_is c n None p e = absurd (cc)

some_character : (c n : ℕ) (p q : Text × ℕ) → p ≡ (c ∷ q.0, q.1 + n) → Some (c ∷ q.0, q.1 + n) ≡ Some p
some_character c n p q e = cc

quoted_pos : (s : Quote) (more : ℕ → Option (Text × ℕ)) (p : Text × ℕ) → quoted s more ≡ Some p → 0 < p.1
quoted_pos (Code (Some c) n) more p e =
    let i = character_is c (n + 1) (more n) p e in
    omega arith
quoted_pos (Code None n) more p e = absurd (cc)
quoted_pos Doubled more p e =
    let i = character_is 34 2 (more 1) p e in
    omega arith
quoted_pos End more p e = let i : p ≡ ([], 1) = cc in let j : p.1 ≡ 1 = ap (λ (x : Text × ℕ). x.1) i in omega arith

characters_pos : (b : ℕ) (bs : Text) (p : Text × ℕ) → characters zero (b ∷ bs) ≡ Some p → 0 < p.1
characters_pos b bs p e =
    elim (cases_Bool (b == 34)) [
      | inl q ↦ let f = rw q at e in quoted_pos (quote bs) (λ n. characters n bs) p f
      | inr q ↦ let f = rw q at e in
          elim (cases_Bool (b == 10)) [
            | inl l ↦ let g = rw l at f in absurd (cc)
            | inr l ↦
                let i = character_is b 1 (characters zero bs) p (rw l at f) in
                omega arith
          ]
    ]

module _ (bs : Text) (again : (left m : ℕ) (p : Text × ℕ) → characters left bs ≡ Some p → left + p.1 ≤ m → characters left (take m bs) ≡ Some p) where
  quoted_local : (m : ℕ) (p : Text × ℕ) (s : Quote) → quote bs ≡ s → quoted s (λ n. characters n bs) ≡ Some p → p.1 ≤ suc m
      → quoted (quote (take m bs)) (λ n. characters n (take m bs)) ≡ Some p
  quoted_local m p (Code (Some c) n) is e le =
      let i = character_is c (n + 1) (characters n bs) p e in
      let k = quote_code bs (Some c) n is in
      let same = quote_same bs m (omega arith) in
      rw (same, is, again n m i.0 i.1 (omega arith)) (some_character c (n + 1) p i.0 i.2)
  quoted_local m p (Code None n) is e le = absurd (cc)
  quoted_local m p Doubled is e le =
      let i = character_is 34 2 (characters 1 bs) p e in
      let k = quote_doubled bs is in
      let same = quote_same bs m (omega arith) in
      rw (same, is, again 1 m i.0 i.1 (omega arith)) (some_character 34 2 p i.0 i.2)
  quoted_local m p End is e le = rw (quote_end bs m is) e

pub characters_local : (bs : Text) (left m : ℕ) (p : Text × ℕ) → characters left bs ≡ Some p → left + p.1 ≤ m → characters left (take m bs) ≡ Some p
characters_local [] left m p e le = absurd (cc)
characters_local (b ∷ bs) (suc left) zero p e le = absurd (omega arith)
characters_local (b ∷ bs) (suc left) (suc m) p e le = characters_local bs left m p e (omega arith)
characters_local (b ∷ bs) zero zero p e le = let pos = characters_pos b bs p e in absurd (omega arith)
characters_local (b ∷ bs) zero (suc m) p e le =
    elim (cases_Bool (b == 34)) [
      | inl q ↦ let f = rw q at e in rw q (quoted_local bs (λ left m p e le. characters_local bs left m p e le) m p (quote bs) refl f (omega arith))
      | inr q ↦ let f = rw q at e in
          elim (cases_Bool (b == 10)) [
            | inl l ↦ let g = rw l at f in absurd (cc)
            | inr l ↦
                let i = character_is b 1 (characters zero bs) p (rw l at f) in
                rw (q, l, characters_local bs zero m i.0 i.1 (omega arith)) (some_character b 1 p i.0 i.2)
          ]
    ]

module _ (bs : Text) (again : (left : ℕ) (p : Text × ℕ) → characters left bs ≡ Some p → left + p.1 ≤ length bs) where
  quoted_within : (p : Text × ℕ) (s : Quote) → quoted s (λ n. characters n bs) ≡ Some p → p.1 ≤ suc (length bs)
  quoted_within p (Code (Some c) n) e =
      let i = character_is c (n + 1) (characters n bs) p e in
      let h = again n i.0 i.1 in omega arith
  quoted_within p (Code None n) e = absurd (cc)
  quoted_within p Doubled e =
      let i = character_is 34 2 (characters 1 bs) p e in
      let h = again 1 i.0 i.1 in omega arith
  quoted_within p End e = let i : p ≡ ([], 1) = cc in let j : p.1 ≡ 1 = ap (λ (x : Text × ℕ). x.1) i in omega arith

pub characters_within : (bs : Text) (left : ℕ) (p : Text × ℕ) → characters left bs ≡ Some p → left + p.1 ≤ length bs
characters_within [] left p e = absurd (cc)
characters_within (b ∷ bs) (suc left) p e = let h = characters_within bs left p e in omega arith
characters_within (b ∷ bs) zero p e =
    elim (cases_Bool (b == 34)) [
      | inl q ↦ let f = rw q at e in let h = quoted_within bs (λ left p e. characters_within bs left p e) p (quote bs) f in omega arith
      | inr q ↦ let f = rw q at e in
          elim (cases_Bool (b == 10)) [
            | inl l ↦ let g = rw l at f in absurd (cc)
            | inr l ↦
                let i = character_is b 1 (characters zero bs) p (rw l at f) in
                let h = characters_within bs zero i.0 i.1 in omega arith
          ]
    ]
