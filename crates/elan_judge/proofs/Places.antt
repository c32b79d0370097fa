-- Each body stands in a scope of its own: a refinement in its own, and in that of the PROC or OP around it.
use Rattle.std.proofs.Common.{◌≡◌, ℕ, zero, suc, ◌+◌, List, [], ◌∷◌, ◌++◌, length, Option, Some, None, refl, sym, ap, subst, ◌∙◌, arith}
use Rattle.std.specs.Prelude.{slice_get}
use Rattle.elan_types.specs.declared.elan_type.ElanType.{ElanType}
use Rattle.elan_types.specs.declared.elan_type.Parameter.{Parameter}
use Rattle.elan_tree.specs.declared.written_type.TypePhrase.{TypePhrase}
use Rattle.elan_tree.specs.declared.written_type.Formal.{Formal}
use Rattle.elan_tree.specs.declared.tree.Body.{Body as Written}
use Rattle.elan_tree.specs.declared.tree.Refinement.{Refinement as Refined}
use Rattle.elan_tree.specs.declared.tree.Level.{Level}
use Rattle.elan_tree.specs.declared.tree.LevelUnit.{LevelUnit}
use Rattle.elan_tree.specs.declared.tree.LevelUnit.TheVariants as level
use Rattle.elan_scope.specs.declared.delivery.Delivery.TheVariants.{Open}
use Rattle.elan_judge.specs.Below.elan_names.specs.declared.heading.Sort.{Sort}
use Rattle.elan_judge.specs.Below.elan_names.specs.declared.heading.Sort.TheVariants.{Procedure, Operator}
use Rattle.elan_judge.specs.Below.elan_names.specs.declared.heading.What.TheVariants.{Routine}
use Rattle.elan_judge.specs.Below.elan_names.specs.declared.heading.Heading.{Heading}
use Rattle.elan_scope.specs.declared.scope.Scope.{Scope}
use Rattle.elan_scope.specs.Scope.{number_of}
use Rattle.elan_scope.specs.Known.{delivered}
use Rattle.elan_scope.specs.Phrase.{Phrase}
use Rattle.type_names.specs.Bodies as b
use Rattle.type_names.specs.Bodies.{parameters, result}
use Rattle.elan_judge.specs.Below.elan_walk.specs.Operators.{operator_text}
use Rattle.elan_judge.proofs.InScope.{InScope, body_units_in}
use Rattle.elan_judge.specs.Level as l
use Rattle.elan_judge.proofs.Counts.{unit_headings_count, all_headings_count}
use Rattle.elan_judge.specs.Refinements.{stated}
use Rattle.elan_judge.specs.walks.OnTheWay.{Holds}
use Rattle.type_names.specs.walks.Headings.{all_headings}
use Rattle.elan_judge.specs.walks.Units.{all_unit_bodies}

-- ---- some of a list

module _ {A : Type 0} where
  at_first : (xs ys : List A) (i : ℕ) (x : A) → slice_get xs i ≡ Some x → slice_get (xs ++ ys) i ≡ Some x
  at_first [] ys i x e = absurd cc
  at_first (a ∷ xs) ys zero x e = e
  at_first (a ∷ xs) ys (suc i) x e = at_first xs ys i x e

  at_rest : (xs ys : List A) (i j : ℕ) → j ≡ length xs + i → slice_get (xs ++ ys) j ≡ slice_get ys i
  at_rest [] ys i j e = ap (slice_get ys) (let f : j ≡ i = omega (arith, e) in f)
  at_rest (a ∷ xs) ys i zero e = absurd (let f : 0 ≡ suc (length xs) + i = e in omega (arith, f))
  at_rest (a ∷ xs) ys i (suc j) e = at_rest xs ys i j (let f : suc j ≡ suc (length xs) + i = e in omega (arith, f))

  pub holds_first : (all : List A) (n : ℕ) (xs ys : List A) → Holds all n (xs ++ ys) → Holds all n xs
  holds_first all n xs ys h i x e = h i x (at_first xs ys i x e)

  pub holds_rest : (all : List A) (n m : ℕ) (xs ys : List A) → m ≡ n + length xs → Holds all n (xs ++ ys) → Holds all m ys
  holds_rest all n m xs ys z h i x e =
      ap (slice_get all) (let f : m + i ≡ n + (length xs + i) = omega (arith, z) in f) ∙ h (length xs + i) x (at_rest xs ys i (length xs + i) refl ∙ e)

  pub holds_tail : (all : List A) (n m : ℕ) (x : A) (xs : List A) → m ≡ n + 1 → Holds all n (x ∷ xs) → Holds all m xs
  holds_tail all n m x xs z h i y e = ap (slice_get all) (let f : m + i ≡ n + suc i = omega (arith, z) in f) ∙ h (suc i) y e

  pub holds_head : (all : List A) (n : ℕ) (x : A) (xs : List A) → Holds all n (x ∷ xs) → slice_get all n ≡ Some x
  holds_head all n x xs h = ap (slice_get all) (let f : n ≡ n + 0 = omega arith in f) ∙ h 0 x refl

  pub holds_all : (all : List A) → Holds all 0 all
  holds_all all i x e = ap (slice_get all) (let f : 0 + i ≡ i = omega arith in f) ∙ e

pub same_length : {A B : Type 0} (xs : List A) (ys : List B) (i : ℕ) (x : A) → slice_get xs i ≡ Some x → length ys ≡ length xs → (y : B) × (slice_get ys i ≡ Some y)
same_length [] ys i x e h = absurd cc
same_length (a ∷ xs) [] i x e h = absurd (let z : 0 ≡ suc (length xs) = h in omega (arith, z))
same_length (a ∷ xs) (c ∷ ys) zero x e h = (c, refl)
same_length (a ∷ xs) (c ∷ ys) (suc i) x e h = same_length xs ys i x e (let z : suc (length ys) ≡ suc (length xs) = h in omega (arith, z))

-- ---- the place of a body

module _ (all : List Heading) where
  -- the PROC or OP with this number, of which its heading tells what it delivers
  abbrev pub IsStated : ℕ → Type 0
  IsStated r = (h : Heading) × (slice_get all r ≡ Some h) × (stated h.what ≡ Open → ⊥)

  pub record Place (n : ℕ) (h : Heading) (p : Phrase) : Type 0 where
    pub scope : Scope
    pub in_scope : InScope scope p
    pub stands : stated h.what ≡ Open → scope.refinement ≡ Some n
    pub around : (r : ℕ) → number_of scope.routine ≡ Some r → IsStated r

  abbrev pub Places : ℕ → List Heading → List Phrase → Type 0
  Places n [] [] = Unit {0}
  Places n (h ∷ hs) (p ∷ ps) = Place n h p × Places (suc n) hs ps
  Places n [] (p ∷ ps) = ⊥
  Places n (h ∷ hs) [] = ⊥

  places_append : (n m : ℕ) (hs gs : List Heading) (ps qs : List Phrase) → m ≡ n + length hs → Places n hs ps → Places m gs qs → Places n (hs ++ gs) (ps ++ qs)
  places_append n m [] gs [] qs e h k = subst (λ (i : ℕ). Places i gs qs) (let z : n + 0 ≡ n = omega arith in e ∙ z) k
  places_append n m (g ∷ hs) gs (p ∷ ps) qs e h k =
      (h.0, places_append (suc n) m hs gs ps qs (let z : n + suc (length hs) ≡ suc n + length hs = omega arith in e ∙ z) h.1 k)
  places_append n m [] gs (p ∷ ps) qs e h k = absurd h
  places_append n m (g ∷ hs) gs [] qs e h k = absurd h

  pub place_at : (n : ℕ) (hs : List Heading) (ps : List Phrase) (i j : ℕ) (h : Heading) (p : Phrase) → j ≡ n + i → Places n hs ps → slice_get hs i ≡ Some h
      → slice_get ps i ≡ Some p → Place j h p
  place_at n [] ps i j h p z r e f = absurd cc
  place_at n (g ∷ hs) [] i j h p z r e f = absurd r
  place_at n (g ∷ hs) (q ∷ ps) zero j h p z r e f =
      let eh : g ≡ h = cc in
      let ep : q ≡ p = cc in
      let ej : n ≡ j = omega (arith, z) in
      subst (λ (m : ℕ). Place m h p) ej (subst (λ (y : Heading). Place n y p) eh (subst (λ (y : Phrase). Place n g y) ep r.0))
  place_at n (g ∷ hs) (q ∷ ps) (suc i) j h p z r e f = place_at (suc n) hs ps i j h p (let w : j ≡ suc n + i = omega (arith, z) in w) r.1 e f

  -- ---- a level

  stated_known : (sort : Sort) (ps : List Parameter) (o : Option ElanType) → stated (Routine sort ps o) ≡ Open → ⊥
  stated_known sort ps None e = absurd cc
  stated_known sort ps (Some t) e = absurd cc

  refinement_places : (z : Scope) (k : ℕ) (home : Option ℕ) (rs : List Refined) → ((r : ℕ) → number_of z.routine ≡ Some r → IsStated r)
      → Places k (b.refinement_headings home rs) (l.all_refined_units z k rs)
  refinement_places z k home [] t = tt
  refinement_places z k home (r ∷ rs) t = (
    record {
      scope = l.refinement_scope z k;
      in_scope = body_units_in (l.refinement_scope z k) Open r.units;
      stands = λ e. refl;
      around = t;
    },
    refinement_places z (suc k) home rs t,
  )

  routine_places : (s : Scope) (k at : ℕ) (x : List ℕ) (t : Option TypePhrase) (fs : List Formal) (w : Written) (sort : Sort)
      → slice_get all k ≡ Some (b.routine_heading s.types sort at x fs t)
      → Places k (b.routine_heading s.types sort at x fs t ∷ b.refinement_headings (Some k) w.refinements) (l.routine_units s k at x t fs w)
  routine_places s k at x t fs w sort e = (
    record {
      scope = l.inner s k at x t fs w;
      in_scope = body_units_in (l.inner s k at x t fs w) (delivered (result s.types t)) w.units;
      stands = λ f. absurd (stated_known sort (parameters s.types fs) (result s.types t) f);
      around = here;
    },
    refinement_places (l.inner s k at x t fs w) (suc k) (Some k) w.refinements here,
  )
    where
      here : (r : ℕ) → Some k ≡ Some r → IsStated r
      here r f =
          let g : k ≡ r = cc in
          (b.routine_heading s.types sort at x fs t, ap (slice_get all) (sym g) ∙ e, stated_known sort (parameters s.types fs) (result s.types t))

  unit_places : (s : Scope) (k : ℕ) (v : LevelUnit) → Holds all k (b.unit_headings s.types k v) → Places k (b.unit_headings s.types k v) (l.unit_bodies s k v)
  unit_places s k (level.Plain v) h = tt
  unit_places s k (level.Proc at r n fs w) h =
      routine_places s k n.at n.text r fs w Procedure
      (holds_head all k (b.routine_heading s.types Procedure n.at n.text fs r) (b.refinement_headings (Some k) w.refinements) h)
  unit_places s k (level.Op at r n fs w) h =
      routine_places s k n.at (operator_text n.operator) r fs w Operator
      (holds_head all k (b.routine_heading s.types Operator n.at (operator_text n.operator) fs r) (b.refinement_headings (Some k) w.refinements) h)
  unit_places s k (level.NewType at n of) h = tt

  units_places : (s : Scope) (k : ℕ) (vs : List LevelUnit) → Holds all k (all_headings s.types k vs) → Places k (all_headings s.types k vs) (all_unit_bodies s k vs)
  units_places s k [] h = tt
  units_places s k (v ∷ vs) h =
      let m = k + b.bodies_in v in
      let e : m ≡ k + length (b.unit_headings s.types k v) = ap (λ (n : ℕ). k + n) (sym (unit_headings_count s.types k v)) in
      places_append k m (b.unit_headings s.types k v) (all_headings s.types m vs) (l.unit_bodies s k v) (all_unit_bodies s m vs) e
      (unit_places s k v (holds_first all k (b.unit_headings s.types k v) (all_headings s.types m vs) h))
      (units_places s m vs (holds_rest all k m (b.unit_headings s.types k v) (all_headings s.types m vs) e h))

-- All bodies of a level stand so.
pub level_places : (s : Scope) (w : Level) → s.routine ≡ None → Places (b.headings_in s.types w) 0 (b.headings_in s.types w) (l.level_bodies s w)
level_places s w e =
    let all = b.headings_in s.types w in
    let m = b.bodies_of_units w.units in
    let z : 0 + length (all_headings s.types 0 w.units) ≡ length (all_headings s.types 0 w.units) = omega arith in
    places_append all 0 m (all_headings s.types 0 w.units) (b.refinement_headings None w.refinements) (all_unit_bodies s 0 w.units)
    (l.all_refined_units s m w.refinements) (sym (all_headings_count s.types 0 w.units) ∙ sym z)
    (units_places all s 0 w.units (holds_first all 0 (all_headings s.types 0 w.units) (b.refinement_headings None w.refinements) (holds_all all)))
    (refinement_places all s m None w.refinements (λ r f. absurd (let g : None ≡ Some r = sym (ap number_of e) ∙ f in cc)))
