-- The least place at which a text stands.
use Rattle.std.proofs.Common.{ℕ, suc, ◌+◌, ◌-◌, ◌<◌, ◌≡◌, Bool, true, false, List, [], ◌∷◌, length, Some, None, refl, sym, arith}
use Rattle.std.specs.Prelude.{find, drop, take, nat_eq, unwrap_or}
use Rattle.std.specs.List.{range_with_len, starts_with}
use Rattle.std.proofs.lemmas.List.{take_rest}
use Rattle.eu_base.specs.Texts.{stands_at, first_place}

-- the places behind k of n
abbrev pub places : ℕ → ℕ → List ℕ
places k n = range_with_len (k + 1) (n - k)

pub find_next : (p : ℕ → Bool) (k n : ℕ) → k < n → p (k + 1) ≡ false → find p (places (k + 1) n) ≡ find p (places k n)
find_next p k n low h = let e : n - k ≡ suc (n - (k + 1)) = omega arith in rw (e, h) refl

pub find_here : (p : ℕ → Bool) (k n : ℕ) → k < n → p (k + 1) ≡ true → find p (places k n) ≡ Some (k + 1)
find_here p k n low h = let e : n - k ≡ suc (n - (k + 1)) = omega arith in rw (e, h) refl

pub find_none : (p : ℕ → Bool) (n : ℕ) → find p (places n n) ≡ None
find_none p n = let e : n - n ≡ 0 = omega arith in rw e refl

pub stands_is : (t u : List ℕ) (k : ℕ) (r : Bool) → r ≡ starts_with nat_eq (take (length t - k) (drop k t)) u → stands_at t u (k + 1) ≡ r
stands_is t u k r e = let m : k + 1 - 1 ≡ k = omega arith in rw m (sym (rw (take_rest t k) at e))

pub place_is : (t u : List ℕ) → (0 < length u) → first_place t u ≡ unwrap_or (find (stands_at t u) (places 0 (length t))) 0
place_is t [] some = absurd (omega arith)
place_is t (c ∷ cs) some = let e : length t - 0 ≡ length t = omega arith in rw e refl
