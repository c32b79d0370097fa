-- The core of a text is well typed.
use Rattle.std.proofs.Common.{◌≡◌, ℕ, zero, suc, ◌+◌, List, [], ◌∷◌, ◌++◌, length, Some, refl, sym, ap, subst, ◌∙◌, arith}
use Rattle.std.specs.Prelude.{slice_get}
use Rattle.elan_types.specs.declared.core_phrase.Body.{Body}
use Rattle.elan_tree.specs.declared.tree.LevelUnit.{LevelUnit}
use Rattle.elan_tree.specs.declared.tree.LevelUnit.TheVariants as level
use Rattle.elan_names.specs.declared.heading.Sort.TheVariants.{Procedure, Operator}
use Rattle.elan_names.specs.declared.heading.Heading.{Heading}
use Rattle.elan_meant.specs.declared.meant.Meant.{Meant}
use Rattle.elan_meant.specs.Parts.{nth}
use Rattle.elan_meant.specs.declared.meant.Meant.TheVariants.{Absent, Variable, Value, Done, Left, Labels, Bodies, Level, Start}
use Rattle.elan_scope.specs.declared.scope.Scope.{Scope}
use Rattle.type_names.specs.Bodies as b
use Rattle.type_names.specs.Bodies.{headings, level_names}
use Rattle.elan_scope.specs.Phrase as form
use Rattle.elan_scope.specs.Phrase.{plain, Phrase, phrase, Parts, none, part, all_of, around}
use Rattle.elan_scope.specs.Ruled.{gives}
use Rattle.elan_scope.specs.declared.known.Known.{Known}
use Rattle.elan_walk.specs.Operators.{operator_text}
use Rattle.elan_check.specs.Below.elan_rules.specs.Units as u
use Rattle.elan_meant.specs.Verdict.{told}
use Rattle.elan_check.specs.Below.elan_rules.specs.Rules.{ruled}
use Rattle.elan_judge.specs.Shape as shape
use Rattle.elan_judge.specs.Level as l
use Rattle.elan_check.specs.Below.elan_rules.specs.Meaning.{judged, judged_all}
use Rattle.elan_check.specs.Below.elan_rules.proofs.First.{bind_gives, before_gives, gives_is}
use Rattle.elan_judge.proofs.Counts.{unit_headings_count}
use Rattle.elan_check.proofs.HeldTypes.{BodiesSized}
use Rattle.elan_check.proofs.Aligned.{Inside, Row, Rows, rows_append, routine_rows, procedure_quiet, type_quiet}
use Rattle.type_names.specs.walks.Headings.{all_headings}
use Rattle.elan_judge.specs.walks.Units.{all_unit_bodies, level_units}

-- ---- the rows of a level

pub at_behind : {A : Type 0} (ys xs : List A) (i : ℕ) → slice_get (ys ++ xs) (length ys + i) ≡ slice_get xs i
at_behind {A = A} [] xs i = let z : 0 + i ≡ i = omega arith in ap (λ (n : ℕ). slice_get xs n) z
at_behind {A = A} (y ∷ ys) xs i = let z : suc (length ys) + i ≡ suc (length ys + i) = omega arith in ap (λ (n : ℕ). slice_get (y ∷ ys ++ xs) n) z ∙ at_behind ys xs i

pub before_rest : {A : Type 0} (ys xs : List A) (i : ℕ) (y : A) → slice_get ys i ≡ Some y → slice_get (ys ++ xs) i ≡ Some y
before_rest [] xs i y e = absurd cc
before_rest (z ∷ ys) xs zero y e = e
before_rest (z ∷ ys) xs (suc i) y e = before_rest ys xs i y e

pub inside_first : (k : ℕ) (bs cs all : List Body) → Inside k (bs ++ cs) all → Inside k bs all
inside_first k bs cs all h i b e = h i b (before_rest bs cs i b e)

pub inside_rest : (k : ℕ) (bs cs all : List Body) → Inside k (bs ++ cs) all → Inside (k + length bs) cs all
inside_rest k bs cs all h i b e =
    let z : k + length bs + i ≡ k + (length bs + i) = omega arith in
    ap (slice_get all) z ∙ h (length bs + i) b (at_behind bs cs i ∙ e)

module _ (kn : Known) (s : Scope) (all : List Body) where
  pub rows_count : (n : ℕ) (hs : List Heading) (ps : List Phrase) (bs : List Body) → Rows kn s all n hs ps bs → length bs ≡ length hs
  rows_count n [] [] [] h = refl
  rows_count n (g ∷ hs) (q ∷ ps) (b ∷ bs) h = ap suc (rows_count (suc n) hs ps bs h.1)
  rows_count n [] [] (b ∷ bs) h = absurd h
  rows_count n [] (q ∷ ps) bs h = absurd h
  rows_count n (g ∷ hs) [] bs h = absurd h
  rows_count n (g ∷ hs) (q ∷ ps) [] h = absurd h

  no_bodies : (v m : Meant) → told (u.without_value v) ≡ gives m → u.bodies_in m ≡ []
  no_bodies Absent m e = ap u.bodies_in (sym (gives_is (Done []) m e))
  no_bodies (Variable at t x) m e = absurd cc
  no_bodies (Value at t w) m e = absurd cc
  no_bodies (Done as') m e = ap u.bodies_in (sym (gives_is (Done as') m e))
  no_bodies (Left as') m e = ap u.bodies_in (sym (gives_is (Done as') m e))
  no_bodies (Labels ns) m e = ap u.bodies_in (sym (gives_is (Done []) m e))
  no_bodies (Start k) m e = ap u.bodies_in (sym (gives_is (Done []) m e))
  no_bodies (Bodies bs) m e = ap u.bodies_in (sym (gives_is (Done []) m e))
  no_bodies (Level us bs) m e = ap u.bodies_in (sym (gives_is (Done []) m e))

  no_bodies_in : (at : ℕ) (ms : List Meant) (m : Meant) → ruled kn at (plain form.without_value) ms ≡ gives m → u.bodies_in m ≡ []
  no_bodies_in at ms m e = no_bodies (nth ms 0) m e

  plain_quiet : (q : Phrase) (m : Meant) → judged kn (around (form.place q) form.without_value q) ≡ gives m → u.bodies_in m ≡ []
  plain_quiet q m e = let r = bind_gives (judged_all kn (part q none)) (ruled kn (form.place q) (plain form.without_value)) m e in no_bodies_in (form.place q) r.0 m r.2

  unit_rows : BodiesSized s.types → (k : ℕ) (v : LevelUnit) (m : Meant) → judged kn (l.level_unit s k v) ≡ gives m → Inside (s.bodies_before + k) (u.bodies_in m) all
      → Rows kn s all k (b.unit_headings s.types k v) (l.unit_bodies s k v) (u.bodies_in m)
  unit_rows sized k (level.Plain v) m e h = subst (λ (bs : List Body). Rows kn s all k [] [] bs) (sym (plain_quiet (shape.written (shape.unit s v)) m e)) tt
  unit_rows sized k (level.Proc at r n fs w) m e h =
      routine_rows kn s all k n.at n.text r fs w sized Procedure (l.procedure_name s n fs) m (procedure_quiet kn s all n fs) e h
  unit_rows sized k (level.Op at r n fs w) m e h = routine_rows kn s all k n.at (operator_text n.operator) r fs w sized Operator [] m tt e h
  unit_rows sized k (level.NewType at n of) m e h =
      subst (λ (bs : List Body). Rows kn s all k [] [] bs) (sym (type_quiet kn s all n m e)) tt

  pub units_rows : BodiesSized s.types → (k : ℕ) (vs : List LevelUnit) (ms : List Meant) → judged_all kn (all_of (level_units s k vs)) ≡ gives ms
      → Inside (s.bodies_before + k) (u.bodies_of ms) all → Rows kn s all k (all_headings s.types k vs) (all_unit_bodies s k vs) (u.bodies_of ms)
  units_rows sized k [] ms e h = subst (λ (ns : List Meant). Rows kn s all k [] [] (u.bodies_of ns)) (gives_is [] ms e) tt
  units_rows sized k (v ∷ vs) ms e h =
      let q = before_gives (judged kn (l.level_unit s k v)) (judged_all kn (all_of (level_units s (k + b.bodies_in v) vs))) ms e in
      let at = s.bodies_before + k in
      let h' : Inside at (u.bodies_in q.0 ++ u.bodies_of q.1) all = subst (λ (ns : List Meant). Inside at (u.bodies_of ns) all) q.4 h in
      let first = unit_rows sized k v q.0 q.2 (inside_first at (u.bodies_in q.0) (u.bodies_of q.1) all h') in
      let count : length (u.bodies_in q.0) ≡ b.bodies_in v =
      rows_count k (b.unit_headings s.types k v) (l.unit_bodies s k v) (u.bodies_in q.0) first ∙ unit_headings_count s.types k v in
      let rest =
      units_rows sized (k + b.bodies_in v) vs q.1 q.3
      (subst (λ (n : ℕ). Inside n (u.bodies_of q.1) all) (let z : at + length (u.bodies_in q.0) ≡ s.bodies_before + (k + b.bodies_in v) = omega (arith, count) in z)
      (inside_rest at (u.bodies_in q.0) (u.bodies_of q.1) all h')) in
      subst (λ (ns : List Meant). Rows kn s all k (all_headings s.types k (v ∷ vs)) (all_unit_bodies s k (v ∷ vs)) (u.bodies_of ns)) (sym q.4)
      (rows_append kn s all k (k + b.bodies_in v) (b.unit_headings s.types k v) (all_headings s.types (k + b.bodies_in v) vs) (l.unit_bodies s k v)
      (all_unit_bodies s (k + b.bodies_in v) vs) (u.bodies_in q.0) (u.bodies_of q.1) (ap (λ (n : ℕ). k + n) (sym count)) first rest)

  -- ---- rows by their numbers

  pub row_of_heading : (n : ℕ) (hs : List Heading) (ps : List Phrase) (bs : List Body) (i : ℕ) (h : Heading) → Rows kn s all n hs ps bs
      → slice_get hs i ≡ Some h → (q : Phrase) × (c : Body) × (slice_get ps i ≡ Some q) × (slice_get bs i ≡ Some c) × Row kn s all (n + i) h q c
  row_of_heading n [] ps bs i h r e = absurd cc
  row_of_heading n (g ∷ hs) [] bs i h r e = absurd r
  row_of_heading n (g ∷ hs) (q ∷ ps) [] i h r e = absurd r
  row_of_heading n (g ∷ hs) (q ∷ ps) (c ∷ bs) zero h r e =
      let j : g ≡ h = cc in
      let z : n + 0 ≡ n = omega arith in
      (q, c, refl, refl, subst (λ (m : ℕ). Row kn s all m h q c) (sym z) (subst (λ (y : Heading). Row kn s all n y q c) j r.0))
  row_of_heading n (g ∷ hs) (q ∷ ps) (c ∷ bs) (suc i) h r e =
      let k = row_of_heading (suc n) hs ps bs i h r.1 e in
      let z : n + suc i ≡ suc n + i = omega arith in
      (k.0, k.1, k.2, k.3, subst (λ (m : ℕ). Row kn s all m h k.0 k.1) (sym z) k.4)

  pub heading_of_body : (n : ℕ) (hs : List Heading) (ps : List Phrase) (bs : List Body) (i : ℕ) (c : Body) → Rows kn s all n hs ps bs → slice_get bs i ≡ Some c
      → (h : Heading) × (slice_get hs i ≡ Some h)
  heading_of_body n hs ps [] i c r e = absurd cc
  heading_of_body n [] [] (d ∷ bs) i c r e = absurd r
  heading_of_body n [] (q ∷ ps) (d ∷ bs) i c r e = absurd r
  heading_of_body n (g ∷ hs) [] (d ∷ bs) i c r e = absurd r
  heading_of_body n (g ∷ hs) (q ∷ ps) (d ∷ bs) zero c r e = (g, refl)
  heading_of_body n (g ∷ hs) (q ∷ ps) (d ∷ bs) (suc i) c r e = heading_of_body (suc n) hs ps bs i c r.1 e
