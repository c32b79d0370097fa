-- What the operators and procedures on texts give, before the limits of texts and numbers. A text is a list of bytes, and its first byte
-- has place 1.
use Rattle.std.specs.Prelude.{ℕ, suc, ◌-◌, Bool, true, false, cond, ◌&&◌, ◌||◌, ◌==◌, nat_eq, nat_lt, List, [], ◌∷◌, length, drop, reverse}
use Rattle.std.specs.Prelude.{find, replicate, unwrap_or, ℤ, pos, negsuc, int_le}
use Rattle.std.specs.List.{concat, range_with_len, starts_with}
use Rattle.std.specs.Str.{all_ascii_digits}
use Rattle.std.specs.Str.Parse.{without_leading_sign, signed_digits_value}

-- a number as a count: below 0 there is nothing
abbrev pub count_of : ℤ → ℕ
count_of (pos n) = n
count_of (negsuc n) = 0

-- `n * t`
abbrev pub repeated : ℤ → List ℕ → List ℕ
repeated n t = concat (replicate (count_of n) t)

-- `s < t`: the first bytes that differ decide, and a text is less than one that goes on where it ends
abbrev pub is_less : List ℕ → List ℕ → Bool
is_less s [] = false
is_less [] (y ∷ ys) = true
is_less (x ∷ xs) (y ∷ ys) = nat_lt x y || (x == y && is_less xs ys)

-- the bytes at the places that pass, where the first byte has place k
abbrev pub bytes_at : (ℕ → Bool) → ℕ → List ℕ → List ℕ
bytes_at passes k [] = []
bytes_at passes k (c ∷ cs) = cond (passes k) (c ∷ bytes_at passes (suc k) cs) (bytes_at passes (suc k) cs)

-- `subtext (t, a, b)`
abbrev pub subtext : List ℕ → ℤ → ℤ → List ℕ
subtext t a b = bytes_at (λ k. int_le a (pos k) && int_le (pos k) b) 1 t

-- u stands in t from a place on
abbrev pub stands_at : List ℕ → List ℕ → ℕ → Bool
stands_at t u k = starts_with nat_eq (drop (k - 1) t) u

-- `pos (t, u)`: the least place of t at which u stands; 0 where there is none, or u is ""
abbrev pub first_place : List ℕ → List ℕ → ℕ
first_place t [] = 0
first_place t (c ∷ cs) = unwrap_or (find (stands_at t (c ∷ cs)) (range_with_len 1 (length t))) 0

-- `code (t)`
abbrev pub code_of : List ℕ → ℤ
code_of [] = negsuc 0
code_of (c ∷ cs) = pos c

-- the blanks between words
abbrev pub is_blank : ℕ → Bool
is_blank c = c == 9 || c == 10 || c == 13 || c == 32

-- a text from its first byte on that is no blank, and up to the last such byte
abbrev pub behind_blanks : List ℕ → List ℕ
behind_blanks [] = []
behind_blanks (c ∷ cs) = cond (is_blank c) (behind_blanks cs) (c ∷ cs)

abbrev pub trimmed : List ℕ → List ℕ
trimmed t = reverse (behind_blanks (reverse (behind_blanks t)))

-- decimal digits, at least one
abbrev pub are_digits : List ℕ → Bool
are_digits ds = nat_lt 0 (length ds) && all_ascii_digits ds

-- the number that digits spell, `+` or `-` before them or not; 0 for every other text
abbrev pub number_spelled : List ℕ → ℤ
number_spelled t = cond (are_digits (without_leading_sign t)) (signed_digits_value 10 t) (pos 0)
