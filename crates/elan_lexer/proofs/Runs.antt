-- Runs of bytes of a class.
use Rattle.std.proofs.Common.{◌≡◌, ℕ, zero, suc, ◌+◌, ◌-◌, ◌<◌, ◌≤◌, inl, inr, Bool, true, false, [], ◌∷◌, length, take, get_or, refl, arith}
use Rattle.std.specs.List.{prefix_len, suffix_len, list_all}
use Rattle.std.proofs.Math.Nat.{le-suc_iff}
use Rattle.std.proofs.lemmas.Bool.{cases_Bool}
use Rattle.std.proofs.lemmas.List.Sums.{suffix_len-take_yes, suffix_len-take_no}
use Rattle.elan_lexer.specs.Tables.{Text}

module _ (p : ℕ → Bool) where
  pub run_all : (xs : Text) (n : ℕ) → n ≤ prefix_len p xs → list_all p (take n xs) ≡ true
  run_all xs zero le = refl
  run_all [] (suc n) le = absurd (omega arith)
  run_all (x ∷ xs) (suc n) le =
      elim (cases_Bool (p x)) [
        | inl e ↦ let l = rw e at le in rw e (run_all xs n (omega arith))
        | inr e ↦ let l = rw e at le in absurd (omega arith)
      ]

  pub run_stops : (xs : Text) (n : ℕ) → prefix_len p xs < n → n ≤ length xs → list_all p (take n xs) ≡ false
  run_stops xs zero lt le = absurd (omega arith)
  run_stops [] (suc n) lt le = absurd (omega arith)
  run_stops (x ∷ xs) (suc n) lt le =
      elim (cases_Bool (p x)) [
        | inl e ↦ let l = rw e at lt in rw e (run_stops xs n (omega arith) (omega arith))
        | inr e ↦ rw e refl
      ]

  module _ (xs : Text) where
    last_yes : (r : ℕ) → r < length xs → p (get_or xs r 0) ≡ true → suffix_len p (take (suc r) xs) ≡ 1 + suffix_len p (take r xs)
    last_yes r lt h =
        let e : suc r - 1 ≡ r = omega arith in
        let step = suffix_len-take_yes p xs (suc r) 0 (omega arith) (omega arith) in
        let at_r = rw e at step in
        at_r h

    last_no : (r : ℕ) → r < length xs → p (get_or xs r 0) ≡ false → suffix_len p (take (suc r) xs) ≡ 0
    last_no r lt h =
        let e : suc r - 1 ≡ r = omega arith in
        let step = suffix_len-take_no p xs (suc r) 0 (omega arith) (omega arith) in
        let at_r = rw e at step in
        at_r h

    pub trimmed : (r : ℕ) → r ≤ length xs → suffix_len p (take (r - suffix_len p (take r xs)) xs) ≡ 0
    trimmed zero le = let e : zero - suffix_len p (take zero xs) ≡ zero = omega arith in rw e refl
    trimmed (suc r) le =
        elim (cases_Bool (p (get_or xs r 0))) [
          | inl y ↦
              let e : suc r - (1 + suffix_len p (take r xs)) ≡ r - suffix_len p (take r xs) = omega arith in
              rw (last_yes r (omega arith) y, e) (trimmed r (omega arith))
          | inr n ↦
              let e : suc r - 0 ≡ suc r = omega arith in
              rw (last_no r (omega arith) n, e) (last_no r (omega arith) n)
        ]

    pub past_trim : (r m : ℕ) → r ≤ length xs → r - suffix_len p (take r xs) < m → m ≤ r → 0 < suffix_len p (take m xs)
    past_trim zero m le lt lm = absurd (omega arith)
    past_trim (suc r) m le lt lm =
        elim (cases_Bool (p (get_or xs r 0))) [
          | inl y ↦
              let step = last_yes r (omega arith) y in
              elim (le-suc_iff.0 lm) [
                | inl below ↦ past_trim r m (omega arith) (omega arith) below
                | inr e ↦ rw (e, step) (omega arith)
              ]
          | inr n ↦ let step = last_no r (omega arith) n in absurd (omega arith)
        ]
