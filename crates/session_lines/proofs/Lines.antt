-- Lines of bytes, and what follows them.
use Rattle.std.proofs.Common.{◌≡◌, ℕ, suc, ◌+◌, ◌<◌, ◌≤◌, Bool, true, false, ◌||◌, List, [], ◌∷◌, ◌++◌, length, get_or, take, drop, ◌==◌, if◌then◌else◌, refl, sym, ap, ◌∙◌}
use Rattle.std.proofs.Common.{append_assoc, append-nil, drop-cons, arith}
use Rattle.std.specs.List.{onto_first}
use Rattle.std.proofs.lemmas.Bool.{eqb-true}
use Rattle.std.proofs.lemmas.List.{drop_all, take_more}
use Rattle.session_lines.specs.Lines.{has_end, first_line, after_line, lines_of, at_front, whole_lines}

-- behind bytes without a line end the first line goes on
pub first_line-open : (bytes more : List ℕ) → has_end bytes ≡ false → first_line (bytes ++ more) ≡ bytes ++ first_line more
first_line-open [] more h = refl
first_line-open (b ∷ bytes) more h = by (b == 10) h (first_line-open bytes more)
  where
    by : (e : Bool) → (e || has_end bytes) ≡ false → (has_end bytes ≡ false → first_line (bytes ++ more) ≡ bytes ++ first_line more)
        → (if e then [] else b ∷ first_line (bytes ++ more)) ≡ b ∷ (bytes ++ first_line more)
    by true h rest = cc
    by false h rest = ap (λ l. b ∷ l) (rest h)

-- bytes with a line end have their first line, whatever follows
pub first_line-closed : (bytes more : List ℕ) → has_end bytes ≡ true → first_line (bytes ++ more) ≡ first_line bytes
first_line-closed [] more h = cc
first_line-closed (b ∷ bytes) more h = by (b == 10) h (first_line-closed bytes more)
  where
    by : (e : Bool) → (e || has_end bytes) ≡ true → (has_end bytes ≡ true → first_line (bytes ++ more) ≡ first_line bytes)
        → (if e then [] else b ∷ first_line (bytes ++ more)) ≡ (if e then [] else b ∷ first_line bytes)
    by true h rest = refl
    by false h rest = ap (λ l. b ∷ l) (rest h)

pub after_line-closed : (bytes more : List ℕ) → has_end bytes ≡ true → after_line (bytes ++ more) ≡ after_line bytes ++ more
after_line-closed [] more h = cc
after_line-closed (b ∷ bytes) more h = by (b == 10) h (after_line-closed bytes more)
  where
    by : (e : Bool) → (e || has_end bytes) ≡ true → (has_end bytes ≡ true → after_line (bytes ++ more) ≡ after_line bytes ++ more)
        → (if e then bytes ++ more else after_line (bytes ++ more)) ≡ (if e then bytes else after_line bytes) ++ more
    by true h rest = refl
    by false h rest = rest h

-- the first line stands at the front, and what is behind it at the end
pub parted : (bytes : List ℕ) → (front : List ℕ) × (bytes ≡ front ++ after_line bytes)
parted [] = ([], refl)
parted (b ∷ bytes) = by (b == 10) (parted bytes)
  where
    by : (e : Bool) → (front : List ℕ) × (bytes ≡ front ++ after_line bytes) → (front : List ℕ) × ((b ∷ bytes) ≡ front ++ (if e then bytes else after_line bytes))
    by true rest = (b ∷ [], refl)
    by false rest = (b ∷ rest.0, ap (λ l. b ∷ l) rest.1)

-- the lines are the first and those behind it
pub lines_of-first : (b : ℕ) (bytes : List ℕ) → lines_of (b ∷ bytes) ≡ first_line (b ∷ bytes) ∷ lines_of (after_line (b ∷ bytes))
lines_of-first b [] = by (b == 10)
  where
    by : (e : Bool) → (if e then [] ∷ [] else (b ∷ []) ∷ []) ≡ (if e then [] else b ∷ []) ∷ lines_of (if e then [] else [])
    by true = refl
    by false = refl
lines_of-first b (c ∷ bytes) = by (c ∷ bytes) (b == 10) (lines_of-first c bytes)
  where
    by : (rest : List ℕ) (e : Bool) → lines_of rest ≡ first_line rest ∷ lines_of (after_line rest)
        → (if e then [] ∷ lines_of rest else onto_first b (lines_of rest)) ≡ (if e then [] else b ∷ first_line rest) ∷ lines_of (if e then rest else after_line rest)
    by rest true h = refl
    by rest false h = ap (onto_first b) h

-- bytes without a line end are one line once it comes
pub open_line : (bytes : List ℕ) → has_end bytes ≡ false → lines_of (bytes ++ 10 ∷ []) ≡ bytes ∷ []
open_line [] h = refl
open_line (b ∷ bytes) h = by (b == 10) h (open_line bytes)
  where
    by : (e : Bool) → (e || has_end bytes) ≡ false → (has_end bytes ≡ false → lines_of (bytes ++ 10 ∷ []) ≡ bytes ∷ [])
        → (if e then [] ∷ lines_of (bytes ++ 10 ∷ []) else onto_first b (lines_of (bytes ++ 10 ∷ []))) ≡ (b ∷ bytes) ∷ []
    by true h rest = cc
    by false h rest = ap (onto_first b) (rest h)

-- once one more line end comes, one line more has its end
pub ended_lines : (bytes : List ℕ) → (last : List ℕ) × (lines_of (bytes ++ 10 ∷ []) ≡ whole_lines bytes ++ last ∷ [])
ended_lines [] = ([], refl)
ended_lines (b ∷ bytes) = by (b == 10) (whole_lines bytes) (ended_lines bytes).0 (ended_lines bytes).1
  where
    by : (e : Bool) (whole : List (List ℕ)) (last : List ℕ) → lines_of (bytes ++ 10 ∷ []) ≡ whole ++ last ∷ []
        → (last : List ℕ) × ((if e then [] ∷ lines_of (bytes ++ 10 ∷ []) else onto_first b (lines_of (bytes ++ 10 ∷ []))) ≡ (if e then [] ∷ whole else at_front b whole) ++ last ∷ [])
    by true whole last h = (last, ap (λ l. [] ∷ l) h)
    by false [] last h = (b ∷ last, ap (onto_first b) h)
    by false (line ∷ whole) last h = (last, ap (onto_first b) h)

-- the first line goes on behind bytes without a line end
pub found : (bytes : List ℕ) (n : ℕ) → n < length bytes → get_or bytes n 0 ≡ 10 → first_line bytes ≡ take n bytes ++ first_line (drop n bytes)
    → after_line bytes ≡ after_line (drop n bytes) → (first_line bytes ≡ take n bytes) × (after_line bytes ≡ drop (n + 1) bytes)
found bytes n within is line rest =
    let split : drop n bytes ≡ 10 ∷ drop (suc n) bytes = drop-cons bytes n 0 within ∙ ap (λ b. b ∷ drop (suc n) bytes) is in
    let next : suc n ≡ n + 1 = omega arith in (
      line ∙ ap (λ l. take n bytes ++ first_line l) split ∙ append-nil (take n bytes),
      rest ∙ ap after_line split ∙ ap (λ k. drop k bytes) next,
    )

pub goes_past : (bytes : List ℕ) (n : ℕ) → n < length bytes → (get_or bytes n 0 ≡ 10 → ⊥) → first_line bytes ≡ take n bytes ++ first_line (drop n bytes)
    → after_line bytes ≡ after_line (drop n bytes)
    → (first_line bytes ≡ take (n + 1) bytes ++ first_line (drop (n + 1) bytes)) × (after_line bytes ≡ after_line (drop (n + 1) bytes))
goes_past bytes n within other line rest =
    let split : drop n bytes ≡ get_or bytes n 0 ∷ drop (suc n) bytes = drop-cons bytes n 0 within in
    let next : suc n ≡ n + 1 = omega arith in
    let after = past (get_or bytes n 0) (drop (suc n) bytes) other in (
      line ∙ ap (λ l. take n bytes ++ first_line l) split ∙ ap (λ l. take n bytes ++ l) after.0
          ∙ sym (append_assoc (take n bytes) (get_or bytes n 0 ∷ []) (first_line (drop (suc n) bytes)))
          ∙ ap (λ l. l ++ first_line (drop (suc n) bytes)) (sym (take_more bytes n 0 within))
          ∙ ap (λ k. take (n + 1) bytes ++ first_line (drop k bytes)) next,
      rest ∙ ap after_line split ∙ after.1 ∙ ap (λ k. after_line (drop k bytes)) next,
    )
  where
    past : (b : ℕ) (more : List ℕ) → (b ≡ 10 → ⊥) → (first_line (b ∷ more) ≡ b ∷ first_line more) × (after_line (b ∷ more) ≡ after_line more)
    past b more other = by (b == 10) refl
      where
        by : (e : Bool) → (b == 10) ≡ e
            → ((if e then [] else b ∷ first_line more) ≡ b ∷ first_line more) × ((if e then more else after_line more) ≡ after_line more)
        by true e = absurd (other (eqb-true b 10 e))
        by false e = (refl, refl)

pub all_past : (bytes : List ℕ) (n : ℕ) → length bytes ≤ n → n ≤ length bytes → first_line bytes ≡ take n bytes ++ first_line (drop n bytes)
    → after_line bytes ≡ after_line (drop n bytes) → (first_line bytes ≡ take (length bytes) bytes) × (after_line bytes ≡ drop (length bytes + 1) bytes)
all_past bytes n past within line rest =
    let none : drop n bytes ≡ [] = drop_all n bytes past in
    let is : n ≡ length bytes = omega (arith, past, within) in (
      line ∙ ap (λ l. take n bytes ++ first_line l) none ∙ append-nil (take n bytes) ∙ ap (λ k. take k bytes) is,
      rest ∙ ap after_line none ∙ sym (drop_all (length bytes + 1) bytes (omega arith)),
    )
