-- What lives under numbers that rise, where one comes or goes.
use Rattle.std.proofs.Common.{◌≡◌, ℕ, ◌+◌, ◌<◌, ◌≤◌, ◌⊎◌, inl, inr, ⊎_elim, Bool, true, false, cond, nat_eq, List, [], ◌∷◌, ◌++◌, length, Option, Some, None, refl, sym, ap, ◌∙◌, arith, eqb-true, eq-eqb}
use Rattle.std.specs.Prelude.{option_map}
use Rattle.std.specs.List.{AllByRecursion}
use Rattle.std.specs.Map.{lookup, remove_entry}
use Rattle.eu_base.specs.declared.address.TheConstants.{CELLS}
use Rattle.eu_base.specs.DataSpaces.{Head, heads_in}
use Rattle.eu_base.specs.SpacePlaces.{shaped_kinds}
use Rattle.eu_base.proofs.Heads.{lookup_head, remove_head}
use Rattle.task_texts.specs.Below.place_gen.specs.Correct.{Rises}

-- two numbers apart
unlike : (n m : ℕ) → (n < m) ⊎ (m < n) → nat_eq n m ≡ false
unlike n m apart = by (nat_eq n m) refl
  where
    by : (b : Bool) → nat_eq n m ≡ b → b ≡ false
    by false e = refl
    by true e = let same = eqb-true n m e in absurd (⊎_elim (λ lt. omega (arith, lt, same)) (λ lt. omega (arith, lt, same)) apart)

-- ---- one comes last

module _ {T : Type 0} where
  pub pushed_other : (n k : ℕ) (live : List (ℕ × T)) (w : T) → nat_eq n k ≡ false → lookup (nat_eq n) (live ++ (k, w) ∷ []) ≡ lookup (nat_eq n) live
  pushed_other n k [] w apart = ap (λ (b : Bool). cond b (Some w) None) apart
  pushed_other n k (e ∷ live) w apart = ap (λ (o : Option T). cond (nat_eq n e.0) (Some e.1) o) (pushed_other n k live w apart)

  pub pushed_here : (k : ℕ) (live : List (ℕ × T)) (w : T) → lookup (nat_eq k) live ≡ None → lookup (nat_eq k) (live ++ (k, w) ∷ []) ≡ Some w
  pushed_here k [] w none = ap (λ (b : Bool). cond b (Some w) None) (eq-eqb k k refl)
  pushed_here k (e ∷ live) w none = by (nat_eq k e.0) none (pushed_here k live w)
    where
      by : (b : Bool) → cond b (Some e.1) (lookup (nat_eq k) live) ≡ None → (lookup (nat_eq k) live ≡ None → lookup (nat_eq k) (live ++ (k, w) ∷ []) ≡ Some w)
          → cond b (Some e.1) (lookup (nat_eq k) (live ++ (k, w) ∷ [])) ≡ Some w
      by true none rest = let f : ⊥ = cc in absurd f
      by false none rest = rest none

-- ---- numbers that rise

rises_low : (low : ℕ) (live : List (ℕ × Head)) (last : ℕ) → Rises low live last → low ≤ last
rises_low low [] last h = h
rises_low low (e ∷ live) last h = let rest = rises_low e.0 live last h.1 in omega (arith, h.0, rest)

rises_from : (low from : ℕ) (live : List (ℕ × Head)) (last : ℕ) → low ≤ from → Rises from live last → Rises low live last
rises_from low from [] last le h = omega (arith, le, h)
rises_from low from (e ∷ live) last le h = (omega (arith, le, h.0), h.1)

pub rises_push : (low : ℕ) (live : List (ℕ × Head)) (last : ℕ) (h : Head) → Rises low live last → Rises low (live ++ (last + 1, h) ∷ []) (last + 1)
rises_push low [] last h r = (omega (arith, r), omega arith)
rises_push low (e ∷ live) last h r = (r.0, rises_push e.0 live last h r.1)

pub rises_gone : (test : ℕ → Bool) (low : ℕ) (live : List (ℕ × Head)) (last : ℕ) → Rises low live last → Rises low (remove_entry test live) last
rises_gone test low [] last h = h
rises_gone test low (e ∷ live) last h = by (test e.0) (rises_gone test e.0 live last h.1)
  where
    by : (b : Bool) → Rises e.0 (remove_entry test live) last → Rises low (cond b live (e ∷ remove_entry test live)) last
    by true rest = rises_from low e.0 live last (omega (arith, h.0)) h.1
    by false rest = (h.0, rest)

-- none lives above the last number, and none twice
none_above : (n low : ℕ) (live : List (ℕ × Head)) (last : ℕ) → Rises low live last → last < n → lookup (nat_eq n) live ≡ None
none_above n low [] last h lt = refl
none_above n low (e ∷ live) last h lt =
    let below = rises_low e.0 live last h.1 in
    ap (λ (b : Bool). cond b (Some e.1) (lookup (nat_eq n) live)) (unlike n e.0 (inr (omega (arith, below, lt)))) ∙ none_above n e.0 live last h.1 lt

none_below : (n low : ℕ) (live : List (ℕ × Head)) (last : ℕ) → Rises low live last → n ≤ low → lookup (nat_eq n) live ≡ None
none_below n low [] last h le = refl
none_below n low (e ∷ live) last h le =
    ap (λ (b : Bool). cond b (Some e.1) (lookup (nat_eq n) live)) (unlike n e.0 (inl (omega (arith, h.0, le))))
    ∙ none_below n e.0 live last h.1 (omega (arith, h.0, le))

none_left : (n low : ℕ) (live : List (ℕ × Head)) (last : ℕ) → Rises low live last → lookup (nat_eq n) (remove_entry (nat_eq n) live) ≡ None
none_left n low [] last h = refl
none_left n low (e ∷ live) last h = by (nat_eq n e.0) refl (none_left n e.0 live last h.1)
  where
    by : (b : Bool) → nat_eq n e.0 ≡ b → lookup (nat_eq n) (remove_entry (nat_eq n) live) ≡ None
        → lookup (nat_eq n) (cond b live (e ∷ remove_entry (nat_eq n) live)) ≡ None
    by true is rest = let same = eqb-true n e.0 is in none_below n e.0 live last h.1 (omega (arith, same))
    by false is rest = ap (λ (b : Bool). cond b (Some e.1) (lookup (nat_eq n) (remove_entry (nat_eq n) live))) is ∙ rest

-- so it is with what has heads
module _ {T : Type 0} (head : T → Head) (live : List (ℕ × T)) (last : ℕ) (rise : Rises 0 (heads_in head live) last) where
  none_of : (o : Option T) → option_map head o ≡ None → o ≡ None
  none_of None e = refl
  none_of (Some x) e = let f : ⊥ = cc in absurd f

  pub none_next : lookup (nat_eq (last + 1)) live ≡ None
  none_next =
      none_of (lookup (nat_eq (last + 1)) live)
      (sym (lookup_head head (nat_eq (last + 1)) live) ∙ none_above (last + 1) 0 (heads_in head live) last rise (omega arith))

  pub none_again : (n : ℕ) → lookup (nat_eq n) (remove_entry (nat_eq n) live) ≡ None
  none_again n =
      none_of (lookup (nat_eq n) (remove_entry (nat_eq n) live))
      (sym (lookup_head head (nat_eq n) (remove_entry (nat_eq n) live)) ∙ ap (lookup (nat_eq n)) (remove_head head (nat_eq n) live)
      ∙ none_left n 0 (heads_in head live) last rise)

-- ---- cells that fit

abbrev pub Fit : List (ℕ × Head) → Type 0
Fit live = AllByRecursion (λ (e : ℕ × Head). length (shaped_kinds e.1.shape) ≤ CELLS) live

pub fit_push : (live : List (ℕ × Head)) (n : ℕ) (w : Head) → Fit live → length (shaped_kinds w.shape) ≤ CELLS → Fit (live ++ (n, w) ∷ [])
fit_push [] n w all here = (here, tt)
fit_push (e ∷ live) n w all here = (all.0, fit_push live n w all.1 here)

pub fit_gone : (test : ℕ → Bool) (live : List (ℕ × Head)) → Fit live → Fit (remove_entry test live)
fit_gone test [] all = tt
fit_gone test (e ∷ live) all = by (test e.0) (fit_gone test live all.1)
  where
    by : (b : Bool) → Fit (remove_entry test live) → Fit (cond b live (e ∷ remove_entry test live))
    by true rest = all.1
    by false rest = (all.0, rest)
