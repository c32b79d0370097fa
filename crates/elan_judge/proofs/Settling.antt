-- Where the units of refinements, PROCs and OPs stand among those of all bodies.
use Rattle.std.proofs.Common.{◌≡◌, ℕ, zero, suc, ◌+◌, ◌-◌, ◌≤◌, ◌<◌, List, [], ◌∷◌, ◌++◌, length, get_or, drop, drop-cons, Some}
use Rattle.std.proofs.Common.{refl, sym, ap, subst, ◌∙◌, arith}
use Rattle.std.specs.Prelude.{slice_get}
use Rattle.elan_tree.specs.declared.tree.Refinement.{Refinement}
use Rattle.elan_tree.specs.declared.tree.LevelUnit.{LevelUnit}
use Rattle.elan_scope.specs.declared.scope.Scope.{Scope}
use Rattle.elan_scope.specs.Phrase.{Phrase}
use Rattle.type_names.specs.Bodies.{bodies_in, bodies_of_units}
use Rattle.elan_judge.specs.Level.{refined_units, all_refined_units, unit_bodies}
use Rattle.elan_judge.specs.walks.OnTheWay.{Holds, LevelAt, bodies_at}
use Rattle.elan_judge.proofs.Counts.{unit_count, units_count}
use Rattle.elan_judge.proofs.Places.{holds_first, holds_rest, holds_tail, holds_all}
use Rattle.elan_judge.specs.walks.Units.{all_unit_bodies}

refined_at : (s : Scope) (n : ℕ) (rs : List Refinement) (i : ℕ) (r : Refinement) → slice_get rs i ≡ Some r
    → slice_get (all_refined_units s n rs) i ≡ Some (refined_units s (n + i) r)
refined_at s n [] i r e = absurd cc
refined_at s n (q ∷ rs) zero r e =
    let f : q ≡ r = cc in
    ap (λ (x : Refinement). Some (refined_units s n x)) f ∙ ap (λ (m : ℕ). Some (refined_units s m r)) (let z : n ≡ n + 0 = omega arith in z)
refined_at s n (q ∷ rs) (suc i) r e =
    refined_at s (suc n) rs i r e ∙ ap (λ (m : ℕ). Some (refined_units s m r)) (let z : suc n + i ≡ n + suc i = omega arith in z)

-- the units of a refinement
pub refined_here : (all : List Phrase) (s z : Scope) (first n : ℕ) (rs : List Refinement) (r : Refinement) → Holds all first (all_refined_units s first rs)
    → first ≤ n → slice_get rs (n - first) ≡ Some r → z ≡ s → slice_get all n ≡ Some (refined_units z n r)
refined_here all s z first n rs r h le e ez =
    let f : n ≡ first + (n - first) = omega (arith, le) in
    ap (slice_get all) f ∙ h (n - first) (refined_units s (first + (n - first)) r) (refined_at s first rs (n - first) r e)
    ∙ ap (λ (m : ℕ). Some (refined_units s m r)) (sym f) ∙ ap (λ (y : Scope). Some (refined_units y n r)) (sym ez)

-- those behind the units of a PROC or OP
pub behind_one : (all : List Phrase) (z : Scope) (n : ℕ) (p : Phrase) (rs : List Refinement) → Holds all n (p ∷ all_refined_units z (suc n) rs)
    → Holds all (n + 1) (all_refined_units z (n + 1) rs)
behind_one all z n p rs h =
    subst (λ (m : ℕ). Holds all (n + 1) (all_refined_units z m rs)) (let f : suc n ≡ n + 1 = omega arith in f)
    (holds_tail all n (n + 1) p (all_refined_units z (suc n) rs) refl h)

module _ (all : List Phrase) (s z : Scope) (n m : ℕ) (vs : List LevelUnit) (i : ℕ) (v : LevelUnit) (lt : i < length vs) (e : v ≡ get_or vs i v) (ez : z ≡ s)
    (h : Holds all n (all_unit_bodies s n (drop i vs))) where
  open_units : Holds all n (unit_bodies s n v ++ all_unit_bodies s (n + bodies_in v) (drop (suc i) vs))
  open_units =
      subst (λ (ys : List LevelUnit). Holds all n (all_unit_bodies s n ys)) (drop-cons vs i v lt ∙ ap (λ (y : LevelUnit). y ∷ drop (suc i) vs) (sym e)) h

  -- the bodies of a unit
  pub unit_here : Holds all n (unit_bodies z n v)
  unit_here =
      subst (λ (y : Scope). Holds all n (unit_bodies y n v)) (sym ez)
      (holds_first all n (unit_bodies s n v) (all_unit_bodies s (n + bodies_in v) (drop (suc i) vs)) open_units)

  -- and those behind it
  pub units_behind : m ≡ n + bodies_in v → Holds all m (all_unit_bodies s m (drop (i + 1) vs))
  units_behind em =
      let index : suc i ≡ i + 1 = omega arith in
      subst (λ (j : ℕ). Holds all m (all_unit_bodies s m (drop j vs))) index
      (subst (λ (x : ℕ). Holds all m (all_unit_bodies s x (drop (suc i) vs))) (sym em)
      (holds_rest all n m (unit_bodies s n v) (all_unit_bodies s (n + bodies_in v) (drop (suc i) vs))
      (em ∙ ap (λ (x : ℕ). n + x) (sym (unit_count s n v))) open_units))

module _ (w : LevelAt) where
  abbrev bodies : List Phrase
  bodies = bodies_at w

  abbrev unit_part : List Phrase
  unit_part = all_unit_bodies w.scope 0 w.level.units

  abbrev refined_part : List Phrase
  refined_part = all_refined_units w.scope (bodies_of_units w.level.units) w.level.refinements

  pub all_units_here : (s : Scope) → s ≡ w.scope → Holds bodies 0 (all_unit_bodies s 0 w.level.units)
  all_units_here s e =
      subst (λ (y : Scope). Holds bodies 0 (all_unit_bodies y 0 w.level.units)) (sym e) (holds_first bodies 0 unit_part refined_part (holds_all bodies))

  pub refinements_here : (s : Scope) (m : ℕ) → s ≡ w.scope → m ≡ bodies_of_units w.level.units
      → Holds bodies m (all_refined_units s m w.level.refinements)
  refinements_here s m e em =
      let count = bodies_of_units w.level.units in
      let behind : count ≡ 0 + length unit_part = (let c = units_count w.scope 0 w.level.units in omega (arith, c)) in
      subst (λ (x : ℕ). Holds bodies x (all_refined_units s x w.level.refinements)) (sym em)
      (subst (λ (y : Scope). Holds bodies count (all_refined_units y count w.level.refinements)) (sym e)
      (holds_rest bodies 0 count unit_part refined_part behind (holds_all bodies)))

-- ---- in the scope of a PROC or OP

pub routine_here : (all : List Phrase) (z inner : Scope) (n m : ℕ) (rs written : List Refinement) → inner ≡ z → m ≡ n → rs ≡ written
    → Holds all n (all_refined_units z n written) → Holds all m (all_refined_units inner m rs)
routine_here all z inner n m rs written ez em eb h =
    subst (λ (qs : List Refinement). Holds all m (all_refined_units inner m qs)) (sym eb)
    (subst (λ (y : Scope). Holds all m (all_refined_units y m written)) (sym ez)
    (subst (λ (j : ℕ). Holds all j (all_refined_units z j written)) (sym em) h))
