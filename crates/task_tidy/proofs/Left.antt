-- What lives under numbers that rise, without those that are not used, one after another from the last on.
use Rattle.std.proofs.Common.{◌≡◌, ℕ, zero, suc, ◌<◌, ◌≤◌, Bool, true, false, cond, nat_eq, List, [], ◌∷◌, ◌++◌, take, drop, Some, refl, sym, ap, ◌∙◌, subst, arith, eqb-true, eq-eqb, filter, not}
use Rattle.std.specs.Prelude.{slice_get, option_map, ◌==◌, ◌||◌}
use Rattle.std.specs.List.{list_any}
use Rattle.std.specs.Map.{remove_entry}
use Rattle.task_numbers.specs.declared.number.SpaceNo.{SpaceNo}
use Rattle.eu_base.specs.DataSpaces.{Head, heads_in}
use Rattle.task_tidy.specs.Below.place_gen.specs.Correct.{Rises}

-- ---- numbers

unlike : (n m : ℕ) → m < n → nat_eq n m ≡ false
unlike n m lt = by (nat_eq n m) refl
  where
    by : (b : Bool) → nat_eq n m ≡ b → b ≡ false
    by false e = refl
    by true e = let same = eqb-true n m e in absurd (omega (arith, lt, same))

other_way : (n m : ℕ) → (m == n) ≡ false → nat_eq n m ≡ false
other_way n m apart = by (nat_eq n m) refl
  where
    by : (b : Bool) → nat_eq n m ≡ b → b ≡ false
    by false e = refl
    by true e =
        let same : (m == n) ≡ true = eq-eqb m n (sym (eqb-true n m e)) in
        let f : true ≡ false = sym same ∙ apart in absurd (cc f)

rises_low : (low : ℕ) (live : List (ℕ × Head)) (last : ℕ) → Rises low live last → low ≤ last
rises_low low [] last h = h
rises_low low (e ∷ live) last h = let rest = rises_low e.0 live last h.1 in omega (arith, h.0, rest)

module _ {T : Type 0} (head : T → Head) where
  above : (low : ℕ) (live : List (ℕ × T)) (last k : ℕ) (e : ℕ × T) → Rises low (heads_in head live) last → slice_get live k ≡ Some e → low < e.0
  above low [] last k e r is = let f : ⊥ = cc in absurd f
  above low (x ∷ live) last zero e r is = let same : x ≡ e = cc in subst (λ (y : ℕ × T). low < y.0) same r.0
  above low (x ∷ live) last (suc k) e r is = let f = above x.0 live last k e r.1 is in omega (arith, f, r.0)

  pub at_most : (low : ℕ) (live : List (ℕ × T)) (last k : ℕ) (e : ℕ × T) → Rises low (heads_in head live) last → slice_get live k ≡ Some e → e.0 ≤ last
  at_most low [] last k e r is = let f : ⊥ = cc in absurd f
  at_most low (x ∷ live) last zero e r is =
      let same : x ≡ e = cc in subst (λ (y : ℕ × T). y.0 ≤ last) same (rises_low x.0 (heads_in head live) last r.1)
  at_most low (x ∷ live) last (suc k) e r is = at_most x.0 live last k e r.1 is

  -- the number at a place is the same without the values
  pub number_same : (live : List (ℕ × T)) (k : ℕ) → option_map (λ (e : ℕ × Head). e.0) (slice_get (heads_in head live) k) ≡ option_map (λ (e : ℕ × T). e.0) (slice_get live k)
  number_same [] k = refl
  number_same (x ∷ live) zero = refl
  number_same (x ∷ live) (suc k) = number_same live k

-- ---- those from a place on that are used

module _ {T : Type 0} (used : ℕ → Bool) where
  abbrev pub left_from : ℕ → List (ℕ × T) → List (ℕ × T)
  left_from k live = take k live ++ filter (λ e. used e.0) (drop k live)

  pub is_there : (k : ℕ) (live : List (ℕ × T)) (e : ℕ × T) → slice_get live k ≡ Some e → slice_get (left_from (suc k) live) k ≡ Some e
  is_there k [] e is = let f : ⊥ = cc in absurd f
  is_there zero (x ∷ live) e is = is
  is_there (suc k) (x ∷ live) e is = is_there k live e is

  pub kept_there : (k : ℕ) (live : List (ℕ × T)) (e : ℕ × T) → slice_get live k ≡ Some e → used e.0 ≡ true → left_from (suc k) live ≡ left_from k live
  kept_there k [] e is u = let f : ⊥ = cc in absurd f
  kept_there zero (x ∷ live) e is u =
      let same : x ≡ e = cc in
      let here = ap (λ (y : ℕ × T). used y.0) same ∙ u in
      sym (ap (λ b. cond b (x ∷ filter (λ y. used y.0) live) (filter (λ y. used y.0) live)) here)
  kept_there (suc k) (x ∷ live) e is u = ap (λ l. x ∷ l) (kept_there k live e is u)

  pub gone_there : (head : T → Head) (low last k : ℕ) (live : List (ℕ × T)) (e : ℕ × T) → Rises low (heads_in head live) last → slice_get live k ≡ Some e
      → used e.0 ≡ false → remove_entry (nat_eq e.0) (left_from (suc k) live) ≡ left_from k live
  gone_there head low last k [] e r is u = let f : ⊥ = cc in absurd f
  gone_there head low last zero (x ∷ live) e r is u =
      let same : x ≡ e = cc in
      let here = ap (λ (y : ℕ × T). used y.0) same ∙ u in
      let rest = filter (λ (y : ℕ × T). used y.0) live in
      ap (λ b. cond b rest (x ∷ remove_entry (nat_eq e.0) rest)) (eq-eqb e.0 x.0 (ap (λ (y : ℕ × T). y.0) (sym same)))
      ∙ sym (ap (λ b. cond b (x ∷ rest) rest) here)
  gone_there head low last (suc k) (x ∷ live) e r is u =
      ap (λ b. cond b (left_from (suc k) live) (x ∷ remove_entry (nat_eq e.0) (left_from (suc k) live))) (unlike e.0 x.0 (above head x.0 live last k e r.1 is))
      ∙ ap (λ l. x ∷ l) (gone_there head x.0 last k live e r.1 is u)

-- ---- names

pub neither : (a b : Bool) → (a || b) ≡ false → (a ≡ false) × (b ≡ false)
neither false b e = (refl, e)
neither true b e = absurd (cc e)

-- where no name leads to a space, all stay
pub names_stay : (n : ℕ) (names : List (List ℕ × SpaceNo)) → list_any (λ e. e.1.0 == n) names ≡ false → filter (λ e. not (nat_eq n e.1.0)) names ≡ names
names_stay n [] none = refl
names_stay n (x ∷ names) none =
    let both = neither (x.1.0 == n) (list_any (λ e. e.1.0 == n) names) none in
    let rest = filter (λ (e : List ℕ × SpaceNo). not (nat_eq n e.1.0)) names in
    ap (λ b. cond (not b) (x ∷ rest) rest) (other_way n x.1.0 both.0) ∙ ap (λ l. x ∷ l) (names_stay n names both.1)
