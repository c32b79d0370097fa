-- Numbers that texts spell.
use Rattle.std.proofs.Common.{ℕ, zero, suc, ◌<◌, ◌≡◌, refl, sym, ap, ◌∙◌, Bool, true, false, cond, List, [], ◌∷◌, length, arith, Result, Ok, Err}
use Rattle.std.specs.Prelude.{◌&&◌, ◌==◌, drop, nat_lt, ℤ, pos}
use Rattle.std.specs.Cmp.Derive.{both_true}
use Rattle.std.specs.Int.{w16}
use Rattle.std.specs.Int.RustNames.{FitsSigned}
use Rattle.std.specs.Result.{result_unwrap_or}
use Rattle.std.specs.Str.{IsAscii, IsUtf8, all_ascii_digits}
use Rattle.std.specs.Str.Parse.{ParsesSigned, IsNumeral, AllDigits, digits_value, without_leading_sign, signed_digits_value}
use Rattle.std.proofs.lemmas.Bool.Decides.{nat_tests}
use Rattle.std.proofs.lemmas.Fmt.{IsAscii-from_digits}
use Rattle.std.proofs.lemmas.Int.{ints}
use Rattle.std.proofs.lemmas.Str.{IsUtf8-from_ascii}
use Rattle.std.proofs.lemmas.Str.Parse.{IsNumeralModel, numerals_by_value, tells_all_ascii_digits}
use Rattle.eu_base.specs.Operations.{in_range, ranged}
use Rattle.eu_base.proofs.Results.{fits_in_range}
use Rattle.eu_base.specs.Texts.{are_digits, number_spelled}

-- digits by a test are digits
digits : IsNumeralModel (λ ds. all_ascii_digits ds ≡ true) (digits_value 10)
digits = numerals_by_value (λ ds. all_ascii_digits ds ≡ true) tells_all_ascii_digits

both : (a b : Bool) → (a && b) ≡ true → (a ≡ true) × (b ≡ true)
both true b e = (refl, e)
both false b e = let f : ⊥ = cc in absurd f

pub in_range_fits : (z : ℤ) → FitsSigned w16 z → in_range z ≡ true
in_range_fits z e = grind (arith, ints)

numeral_of : (ds : List ℕ) → are_digits ds ≡ true → IsNumeral 10 ds
numeral_of ds e =
    let parts = both (nat_lt 0 (length ds)) (all_ascii_digits ds) e in (grind (arith, nat_tests, parts.0), digits.to ds parts.1)

digits_of : (ds : List ℕ) → IsNumeral 10 ds → are_digits ds ≡ true
digits_of ds r = both_true (grind (arith, nat_tests, r.0)) (digits.from ds r.1)

-- what `parse` reads as a number of 16 bits
abbrev IsRead : List ℕ → Type 0
IsRead t = IsNumeral 10 (without_leading_sign t) × FitsSigned w16 (signed_digits_value 10 t)

abbrev is_read : List ℕ → Bool
is_read t = are_digits (without_leading_sign t) && in_range (signed_digits_value 10 t)

read_of : (t : List ℕ) → is_read t ≡ true → IsRead t
read_of t e =
    let parts = both (are_digits (without_leading_sign t)) (in_range (signed_digits_value 10 t)) e in
    (numeral_of (without_leading_sign t) parts.0, fits_in_range (signed_digits_value 10 t) parts.1)

of_read : (t : List ℕ) → IsRead t → is_read t ≡ true
of_read t r =
    both_true (digits_of (without_leading_sign t) r.0) (in_range_fits (signed_digits_value 10 t) r.1)

-- a text that is read has ASCII alone
ascii_behind : (c : ℕ) (cs : List ℕ) → c < 128 → IsAscii cs → IsAscii (c ∷ cs)
ascii_behind c cs h a zero = h
ascii_behind c cs h a (suc i) = a i

ascii_read : (t : List ℕ) → AllDigits 10 (without_leading_sign t) → IsAscii t
ascii_read [] h = λ i. omega arith
ascii_read (c ∷ cs) h = minus (c == 45) refl
  where
    Digits : Bool → Bool → Type 0
    Digits m p = AllDigits 10 (cond m cs (drop (cond p 1 0) (c ∷ cs)))

    plus : (p : Bool) → (c == 43) ≡ p → Digits false p → IsAscii (c ∷ cs)
    plus true e d = ascii_behind c cs (grind (arith, nat_tests)) (IsAscii-from_digits cs d)
    plus false e d = IsAscii-from_digits (c ∷ cs) d

    minus : (m : Bool) → (c == 45) ≡ m → IsAscii (c ∷ cs)
    minus true e = ascii_behind c cs (grind (arith, nat_tests)) (IsAscii-from_digits cs (rw e at h))
    minus false e = plus (c == 43) refl (rw e at h)

spelled_is : (a b : Bool) (z : ℤ) → in_range z ≡ b → ranged (cond a z (pos 0)) ≡ cond (a && b) z (pos 0)
spelled_is true b z e = ap (λ b. cond b z (pos 0)) e
spelled_is false b z e = refl

spelled : (t : List ℕ) → ranged (number_spelled t) ≡ cond (is_read t) (signed_digits_value 10 t) (pos 0)
spelled t = spelled_is (are_digits (without_leading_sign t)) (in_range (signed_digits_value 10 t)) (signed_digits_value 10 t) refl

pub parsed_is : {E : Type 0} (t : List ℕ) (r : Result ℤ E) → ParsesSigned w16 10 t r → result_unwrap_or r (pos 0) ≡ ranged (number_spelled t)
parsed_is t (Ok z) h = sym (spelled t ∙ ap (λ b. cond b (signed_digits_value 10 t) (pos 0)) (of_read t h.0) ∙ sym h.1)
parsed_is t (Err error) h = by_test (is_read t) refl
  where
    by_test : (b : Bool) → is_read t ≡ b → pos 0 ≡ ranged (number_spelled t)
    by_test true e = absurd (h (read_of t e))
    by_test false e = sym (spelled t ∙ ap (λ b. cond b (signed_digits_value 10 t) (pos 0)) e)

pub no_text_is : (t : List ℕ) → (IsUtf8 t → ⊥) → pos 0 ≡ ranged (number_spelled t)
no_text_is t h = by_test (is_read t) refl
  where
    by_test : (b : Bool) → is_read t ≡ b → pos 0 ≡ ranged (number_spelled t)
    by_test true e = absurd (h (IsUtf8-from_ascii t (ascii_read t (read_of t e).0.1)))
    by_test false e = sym (spelled t ∙ ap (λ b. cond b (signed_digits_value 10 t) (pos 0)) e)
