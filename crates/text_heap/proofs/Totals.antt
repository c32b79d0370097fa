-- Sums over cells and blocks.
use Rattle.std.proofs.Common.{◌≡◌, ◌≢◌, ℕ, zero, suc, ◌+◌, ◌<◌, ◌≤◌, List, [], ◌∷◌, length, inl, inr, refl, sym, ap, ◌∙◌, arith}
use Rattle.std.proofs.lemmas.Bool.{cases_eq}
use Rattle.std.proofs.lemmas.Bool.Decides.{nat_tests}
use Rattle.std.specs.Prelude.{cond, ◌==◌}
use Rattle.text_heap.specs.Blocks.{met, times, total}

abbrev pub one : ℕ → ℕ → ℕ
one k x = cond (k == x) 1 0

pub one_same : (k x : ℕ) → k ≡ x → one k x ≡ 1
one_same k x e = grind (arith, nat_tests)

pub one_other : (k x : ℕ) → k ≢ x → one k x ≡ 0
one_other k x ne = grind (arith, nat_tests)

pub times_more : (k x : ℕ) (xs : List ℕ) → times k (x ∷ xs) ≡ one k x + times k xs
unfolding times
times_more k x xs = refl

pub times_none : (k : ℕ) → times k [] ≡ 0
unfolding times
times_none k = refl

pub total_none : (f : ℕ → ℕ) → total f 0 ≡ 0
unfolding total
total_none f = refl

pub total_more : (f : ℕ → ℕ) (n : ℕ) → total f (suc n) ≡ total f n + f n
unfolding total
total_more f n = refl

pub total_same : (f g : ℕ → ℕ) (n : ℕ) → ((k : ℕ) → k < n → f k ≡ g k) → total f n ≡ total g n
unfolding total
total_same f g zero same = refl
total_same f g (suc n) same = let rest = total_same f g n (λ k low. same k (omega (arith, low))) in let last = same n (omega arith) in omega (arith, rest, last)

pub total_add : (f g : ℕ → ℕ) (n : ℕ) → total (λ k. f k + g k) n ≡ total f n + total g n
unfolding total
total_add f g zero = omega arith
total_add f g (suc n) = let rest = total_add f g n in omega (arith, rest)

pub total_zero : (n : ℕ) → total (λ k. 0) n ≡ 0
unfolding total
total_zero zero = refl
total_zero (suc n) = let rest = total_zero n in omega (arith, rest)

pub total_grows : (f : ℕ → ℕ) (k n : ℕ) → k ≤ n → total f k ≤ total f n
unfolding total
total_grows f k zero le = let e : k ≡ 0 = omega (arith, le) in omega (arith, ap (total f) e)
total_grows f k (suc n) le = elim (cases_eq k (suc n)) [
  | inl e ↦ omega (arith, ap (total f) e)
  | inr ne ↦
      let below : k ≤ n = grind (arith, ne, le) in
      let rest = total_grows f k n below in
      omega (arith, rest)
]

-- one value changes
pub total_but : (f g : ℕ → ℕ) (c n : ℕ) → c < n → ((k : ℕ) → k < n → k ≢ c → f k ≡ g k) → total f n + g c ≡ total g n + f c
unfolding total
total_but f g c zero low same = absurd (omega arith)
total_but f g c (suc n) low same = elim (cases_eq c n) [
  | inl e ↦
      let rest = total_same f g n (λ k lt. same k (omega (arith, lt)) (λ is. let x : k ≡ n = is ∙ e in absurd (omega (arith, x, lt)))) in
      let a : f c ≡ f n = ap f e in
      let b : g c ≡ g n = ap g e in
      omega (arith, rest, a, b)
  | inr ne ↦
      let below : c < n = grind arith in
      let rest = total_but f g c n below (λ k lt. same k (omega (arith, lt))) in
      let last = same n (omega arith) (λ e. ne (sym e)) in
      omega (arith, rest, last)
]

pub one_of : (f : ℕ → ℕ) (c n : ℕ) → c < n → f c ≤ total f n
unfolding total
one_of f c zero low = absurd (omega arith)
one_of f c (suc n) low = elim (cases_eq c n) [
  | inl e ↦ let a : f c ≡ f n = ap f e in omega (arith, a)
  | inr ne ↦ let below : c < n = grind arith in let rest = one_of f c n below in omega (arith, rest)
]

-- two of the values
pub two_of : (f : ℕ → ℕ) (c d n : ℕ) → c < n → d < n → c ≢ d → f c + f d ≤ total f n
unfolding total
two_of f c d zero low low' ne = absurd (omega arith)
two_of f c d (suc n) low low' ne = elim (cases_eq c n) [
  | inl e ↦
      let below : d < n = grind (arith, ne, e, low') in
      let a : f c ≡ f n = ap f e in
      let rest = one_of f d n below in
      omega (arith, a, rest)
  | inr other ↦ elim (cases_eq d n) [
    | inl e ↦
        let below : c < n = grind (arith, other, low) in
        let a : f d ≡ f n = ap f e in
        let rest = one_of f c n below in
        omega (arith, a, rest)
    | inr other' ↦
        let below : c < n = grind (arith, other, low) in
        let below' : d < n = grind (arith, other', low') in
        let rest = two_of f c d n below below' ne in
        omega (arith, rest)
  ]
]

-- rows first, or columns first
pub total_turned : (f : ℕ → ℕ → ℕ) (n m : ℕ) → total (λ k. total (f k) n) m ≡ total (λ c. total (λ k. f k c) m) n
unfolding total
total_turned f zero m = total_zero m
total_turned f (suc n) m = total_add (λ k. total (f k) n) (λ k. f k n) m ∙ ap (λ x. x + total (λ k. f k n) m) (total_turned f n m)

-- numbers below n stand in a list as often as it is long
pub total_one : (x n : ℕ) → x < n → total (λ k. one k x) n ≡ 1
unfolding total
total_one x zero low = absurd (omega arith)
total_one x (suc n) low = elim (cases_eq n x) [
  | inl e ↦
      let here = one_same n x e in
      let rest : total (λ k. one k x) n ≡ total (λ k. 0) n = total_same (λ k. one k x) (λ k. 0) n (λ k lt.
      one_other k x (λ is. absurd (omega (arith, is, e, lt)))) in
      let none = total_zero n in
      omega (arith, here, rest, none)
  | inr ne ↦
      let here = one_other n x ne in
      let below : x < n = grind (arith, ne, low) in
      let rest = total_one x n below in
      omega (arith, here, rest)
]

abbrev pub AllBelow : ℕ → List ℕ → Type 0
AllBelow n [] = Unit {0}
AllBelow n (x ∷ xs) = (x < n) × AllBelow n xs

pub total_times : (xs : List ℕ) (n : ℕ) → AllBelow n xs → total (λ k. times k xs) n ≡ length xs
total_times [] n below = total_same (λ k. times k []) (λ k. 0) n (λ k lt. times_none k) ∙ total_zero n
total_times (x ∷ xs) n below =
    total_same (λ k. times k (x ∷ xs)) (λ k. one k x + times k xs) n (λ k lt. times_more k x xs)
    ∙ total_add (λ k. one k x) (λ k. times k xs) n
    ∙ let a = total_one x n below.0 in let b = total_times xs n below.1 in omega (arith, a, b)

-- a search that meets each block once comes to the sum over all of them, wherever it begins
total_later : (f : ℕ → ℕ) (n : ℕ) → total (λ k. f (suc k)) n + f 0 ≡ total f n + f n
unfolding total
total_later f zero = refl
total_later f (suc n) = let rest = total_later f n in omega (arith, rest)

pub total_met : (f : ℕ → ℕ) (from : ℕ) → total (λ k. f (met from k)) 4096 ≡ total f 4096
total_met f zero = total_same (λ k. f (met 0 k)) f 4096 (λ k lt. let e : met 0 k ≡ k = omega (arith, lt) in ap f e)
total_met f (suc from) =
    let a = total_later (λ k. f (met from k)) 4096 in
    let b : f (met from 4096) ≡ f (met from 0) = let e : met from 4096 ≡ met from 0 = omega arith in ap f e in
    let c = total_same (λ k. f (met (suc from) k)) (λ k. f (met from (suc k))) 4096
    (λ k lt. let e : met (suc from) k ≡ met from (suc k) = omega arith in ap f e) in
    let d = total_met f from in
    omega (arith, a, b, c, d)

-- none stands there from n on
pub times_past : (xs : List ℕ) (n k : ℕ) → AllBelow n xs → n ≤ k → times k xs ≡ 0
times_past [] n k below past = times_none k
times_past (x ∷ xs) n k below past =
    let a = times_more k x xs in
    let b = one_other k x (λ e. absurd (omega (arith, e, past, below.0))) in
    let c = times_past xs n k below.1 past in
    omega (arith, a, b, c)
