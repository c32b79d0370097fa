-- The bytes between two places, as a front of an end of the text.
use Rattle.std.proofs.Common.{ℕ, suc, ◌+◌, ◌-◌, ◌<◌, ◌≤◌, ◌≡◌, ◌∙◌, ap, sym, refl, Bool, true, false, cond, List, [], ◌∷◌, length, arith, ⊎_elim}
use Rattle.std.specs.Prelude.{◌&&◌, nat_le, take, drop, min, ℤ, pos, negsuc, int_le}
use Rattle.std.proofs.lemmas.Bool.{cases_lt}
use Rattle.std.proofs.lemmas.Bool.Decides.{nat_tests}
use Rattle.std.proofs.lemmas.List.{take_all, drop_all, same_lists, places}
use Rattle.eu_base.specs.Texts.{bytes_at, count_of, subtext}

-- the bytes at the same places
pub bytes_at-same : (p q : ℕ → Bool) → ((k : ℕ) → 1 ≤ k → p k ≡ q k) → (k : ℕ) (t : List ℕ) → 1 ≤ k → bytes_at p k t ≡ bytes_at q k t
bytes_at-same p q e k [] h = refl
bytes_at-same p q e k (c ∷ cs) h =
    let rest = bytes_at-same p q e (suc k) cs (omega arith) in
    rw (e k h, rest) refl

-- a place is one of those from a to b where it is one of those from their counts on
pub counts_between : (a b : ℤ) (k : ℕ) → 1 ≤ k → (nat_le (count_of a) k && nat_le k (count_of b)) ≡ (int_le a (pos k) && int_le (pos k) b)
counts_between (pos a) (pos b) k h = refl
counts_between (pos a) (negsuc b) k h = grind (arith, nat_tests)
counts_between (negsuc a) (pos b) k h = grind (arith, nat_tests)
counts_between (negsuc a) (negsuc b) k h = grind (arith, nat_tests)

abbrev pub between : ℕ → ℕ → ℕ → Bool
between low high k = nat_le low k && nat_le k high

-- what stands between two places, where the first byte has place k
abbrev pub front : ℕ → ℕ → ℕ → List ℕ → List ℕ
front low high k t = take (high + 1 - (k + (low - k))) (drop (low - k) t)

front_below : (low high k c : ℕ) (cs : List ℕ) → k < low → front low high (suc k) cs ≡ front low high k (c ∷ cs)
front_below low high k c cs h =
    let m : low - k ≡ suc (low - suc k) = omega arith in
    let n : high + 1 - (suc k + (low - suc k)) ≡ high + 1 - (k + suc (low - suc k)) = omega arith in rw m (ap (λ j. take j (drop (low - suc k) cs)) n)

front_above : (low high k c : ℕ) (cs : List ℕ) → low ≤ k → high < k → front low high (suc k) cs ≡ front low high k (c ∷ cs)
front_above low high k c cs l h =
    let m : high + 1 - (suc k + (low - suc k)) ≡ 0 = omega arith in let n : high + 1 - (k + (low - k)) ≡ 0 = omega arith in rw (m, n) refl

front_here : (low high k c : ℕ) (cs : List ℕ) → low ≤ k → k ≤ high → c ∷ front low high (suc k) cs ≡ front low high k (c ∷ cs)
front_here low high k c cs l h =
    let m : low - k ≡ 0 = omega arith in
    let m' : low - suc k ≡ 0 = omega arith in
    let n : high + 1 - (k + 0) ≡ suc (high + 1 - (suc k + 0)) = omega arith in rw (m, m', n) refl

between_step : (low high k c : ℕ) (cs rest : List ℕ) → rest ≡ front low high (suc k) cs →
    cond (between low high k) (c ∷ rest) rest ≡ front low high k (c ∷ cs)
between_step low high k c cs rest e =
    ⊎_elim
    (λ (h : k < low). let t : between low high k ≡ false = grind (arith, nat_tests) in rw t (e ∙ front_below low high k c cs h))
    (λ (l : low ≤ k).
    ⊎_elim
    (λ (h : high < k). let t : between low high k ≡ false = grind (arith, nat_tests) in rw t (e ∙ front_above low high k c cs l h))
    (λ (h : k ≤ high). let t : between low high k ≡ true = grind (arith, nat_tests) in rw t (ap (λ r. c ∷ r) e ∙ front_here low high k c cs l h))
    (cases_lt high k))
    (cases_lt k low)

pub bytes_between : (low high k : ℕ) (t : List ℕ) → bytes_at (between low high) k t ≡ front low high k t
bytes_between low high k [] =
    let nil : List ℕ = [] in
    let e : drop (low - k) nil ≡ nil = drop_all (low - k) nil (omega arith) in rw e (sym (take_all (high + 1 - (k + (low - k))) nil (omega arith)))
bytes_between low high k (c ∷ cs) = between_step low high k c cs _ (bytes_between low high (suc k) cs)

pub part_is : (low high start end : ℕ) (t : List ℕ) → end ≡ min high (length t) → start ≡ min (low - 1) end
    → take (end - start) (drop start t) ≡ front low high 1 t
part_is low high start end t e s = same_lists _ _ (search (arith, places)) (λ k d h. grind (arith, places))

pub subtext_is : (a b : ℤ) (m n : ℕ) (t bytes : List ℕ) → m ≡ count_of a → n ≡ count_of b → bytes ≡ bytes_at (between m n) 1 t → bytes ≡ subtext t a b
subtext_is a b m n t bytes p q e =
    let f : bytes ≡ bytes_at (between (count_of a) (count_of b)) 1 t = rw (← p, ← q) e in
    f ∙ bytes_at-same _ (λ k. int_le a (pos k) && int_le (pos k) b) (counts_between a b) 1 t (omega arith)
