-- Nested values and the values of their cells.
use Rattle.std.proofs.Common.{◌≡◌, ℕ, zero, suc, ◌+◌, ◌*◌, Bool, true, ◌&&◌, List, [], ◌∷◌, ◌++◌, map, length, take, drop, replicate, refl, sym, ap, ◌∙◌}
use Rattle.std.proofs.Common.{Option, Some, None, slice_get}
use Rattle.std.proofs.lemmas.List.{map-append, length-append, length-map}
use Rattle.std.proofs.Math.Seq.{take-append_seam, drop-append-add}
use Rattle.std.proofs.Math.Nat.{zero-mul, suc-mul, add_comm}
use Rattle.eu_base.specs.declared.value.Kind.{Kind}
use Rattle.eu_base.specs.declared.value.Value.{Value}
use Rattle.eu_base.specs.declared.shape.Shape.{Shape}
use Rattle.eu_base.specs.declared.shape.Shape.TheVariants as shape
use Rattle.eu_base.specs.declared.shape.Shape.TheOpen.{Shape-F, Cell, Row, Struct}
use Rattle.eu_base.specs.declared.shape.Shape.TheFolds.{ind-Shape, map-Shape, fold-roll-Shape}
use Rattle.eu_base.specs.Values.{kind_of, same_kind}
use Rattle.eu_base.specs.Shapes.{cell_kinds, kinds_step, joined}
use Rattle.elan_types.specs.Nested.{Nested, Parts, cell, made, none, part, flat, all_flat, is_cell_of, are_of, is_made_of, is_of_step, is_of, listed, parts_of}
use Rattle.elan_types.specs.Nested.{IsOneToOne, StandInOrder}
use Rattle.elan_types.specs.Eval.{part_of}
use Rattle.elan_types.proofs.Shapes.{both, kind_is, same_kind_self}

-- ---- a test of nested values that takes one for each list of cells of these kinds

record Fits (f : Nested → Bool) (ks : List Kind) : Type 0 where
  kinds : (w : Nested) → f w ≡ true → map kind_of (flat w) ≡ ks
  only : (w u : Nested) → f w ≡ true → f u ≡ true → flat w ≡ flat u → w ≡ u
  all : (vs : List Value) → map kind_of vs ≡ ks → (w : Nested) × ((f w ≡ true) × (flat w ≡ vs))

record FitAll (fs : List (Nested → Bool)) (ks : List Kind) : Type 0 where
  kinds : (ps : Parts) → are_of fs ps ≡ true → map kind_of (all_flat ps) ≡ ks
  only : (ps qs : Parts) → are_of fs ps ≡ true → are_of fs qs ≡ true → all_flat ps ≡ all_flat qs → ps ≡ qs
  all : (vs : List Value) → map kind_of vs ≡ ks → (ps : Parts) × ((are_of fs ps ≡ true) × (all_flat ps ≡ vs))

-- ---- lists

abbrev rest : {A : Type 0} → List A → List A
rest [] = []
rest (x ∷ xs) = xs

abbrev head_or : {A : Type 0} → A → List A → A
head_or d [] = d
head_or d (x ∷ xs) = x

abbrev some_or : {A : Type 0} → A → Option A → A
some_or d None = d
some_or d (Some x) = x

abbrev pred : ℕ → ℕ
pred zero = zero
pred (suc n) = n

halves : {A : Type 0} (as' bs cs ds : List A) → length as' ≡ length cs → as' ++ bs ≡ cs ++ ds → (as' ≡ cs) × (bs ≡ ds)
halves [] bs [] ds n e = (refl, e)
halves [] bs (c ∷ cs) ds n e = absurd cc
halves (a ∷ as') bs [] ds n e = absurd cc
halves (a ∷ as') bs (c ∷ cs) ds n e =
    let h = halves as' bs cs ds (ap pred n) (ap rest e) in
    (ap (λ x. x ∷ as') (ap (head_or a) e) ∙ ap (λ xs. c ∷ xs) h.0, h.1)

pub split : (ks js : List Kind) (vs : List Value) → map kind_of vs ≡ ks ++ js
    → (us : List Value) × ((ws : List Value) × ((map kind_of us ≡ ks) × ((map kind_of ws ≡ js) × (us ++ ws ≡ vs))))
split [] js vs e = ([], (vs, (refl, (e, refl))))
split (k ∷ ks) js [] e = absurd cc
split (k ∷ ks) js (v ∷ vs) e =
    let s = split ks js vs (ap rest e) in
    (v ∷ s.0, (s.1.0, (ap (λ x. x ∷ map kind_of s.0) (ap (head_or k) e) ∙ ap (λ xs. k ∷ xs) s.1.1.0, (s.1.1.1.0, ap (λ xs. v ∷ xs) s.1.1.1.1))))

same_length : (us vs : List Value) (ks : List Kind) → map kind_of us ≡ ks → map kind_of vs ≡ ks → length us ≡ length vs
same_length us vs ks e g = sym (length-map us kind_of) ∙ ap length (e ∙ sym g) ∙ length-map vs kind_of

-- ---- parts

none_kinds : (ps : Parts) → are_of [] ps ≡ true → map kind_of (all_flat ps) ≡ []
none_kinds none e = refl
none_kinds (part w ps) e = absurd cc

none_only : (ps qs : Parts) → are_of [] ps ≡ true → are_of [] qs ≡ true → all_flat ps ≡ all_flat qs → ps ≡ qs
none_only none none e g h = refl
none_only none (part w qs) e g h = absurd cc
none_only (part w ps) qs e g h = absurd cc

none_all : (vs : List Value) → map kind_of vs ≡ [] → (ps : Parts) × ((are_of [] ps ≡ true) × (all_flat ps ≡ vs))
none_all [] e = (none, (refl, refl))
none_all (v ∷ vs) e = absurd cc

no_parts : FitAll [] []
no_parts = record { kinds = none_kinds; only = none_only; all = none_all }

module _ (f : Nested → Bool) (fs : List (Nested → Bool)) (ks js : List Kind) (first : Fits f ks) (others : FitAll fs js) where
  more_kinds : (ps : Parts) → are_of (f ∷ fs) ps ≡ true → map kind_of (all_flat ps) ≡ ks ++ js
  more_kinds none e = absurd cc
  more_kinds (part w ps) e =
      let b = both (f w) (are_of fs ps) e in
      map-append kind_of (flat w) (all_flat ps) ∙ ap (λ (x : List Kind). x ++ map kind_of (all_flat ps)) (first.kinds w b.0)
      ∙ ap (λ (x : List Kind). ks ++ x) (others.kinds ps b.1)

  more_only : (ps qs : Parts) → are_of (f ∷ fs) ps ≡ true → are_of (f ∷ fs) qs ≡ true → all_flat ps ≡ all_flat qs → ps ≡ qs
  more_only none qs e g h = absurd cc
  more_only (part w ps) none e g h = absurd cc
  more_only (part w ps) (part u qs) e g h =
      let b = both (f w) (are_of fs ps) e in
      let c = both (f u) (are_of fs qs) g in
      let n = same_length (flat w) (flat u) ks (first.kinds w b.0) (first.kinds u c.0) in
      let p = halves (flat w) (all_flat ps) (flat u) (all_flat qs) n h in
      ap (λ (x : Nested). part x ps) (first.only w u b.0 c.0 p.0) ∙ ap (λ (x : Parts). part u x) (others.only ps qs b.1 c.1 p.1)

  more_all : (vs : List Value) → map kind_of vs ≡ ks ++ js → (ps : Parts) × ((are_of (f ∷ fs) ps ≡ true) × (all_flat ps ≡ vs))
  more_all vs e =
      let s = split ks js vs e in
      let w = first.all s.0 s.1.1.0 in
      let ps = others.all s.1.0 s.1.1.1.0 in (
        part w.0 ps.0,
        (
          ap (λ (x : Bool). x && are_of fs ps.0) w.1.0 ∙ ps.1.0,
          ap (λ (x : List Value). x ++ all_flat ps.0) w.1.1 ∙ ap (λ (x : List Value). s.0 ++ x) ps.1.1 ∙ s.1.1.1.1,
        ),
      )

  more_parts : FitAll (f ∷ fs) (ks ++ js)
  more_parts = record { kinds = more_kinds; only = more_only; all = more_all }

-- ---- values of several parts

module _ (fs : List (Nested → Bool)) (ks : List Kind) (h : FitAll fs ks) where
  made_kinds : (w : Nested) → is_made_of fs w ≡ true → map kind_of (flat w) ≡ ks
  made_kinds (cell v) e = absurd cc
  made_kinds (made ps) e = h.kinds ps e

  made_only : (w u : Nested) → is_made_of fs w ≡ true → is_made_of fs u ≡ true → flat w ≡ flat u → w ≡ u
  made_only (cell v) u e g i = absurd cc
  made_only (made ps) (cell v) e g i = absurd cc
  made_only (made ps) (made qs) e g i = ap made (h.only ps qs e g i)

  made_all : (vs : List Value) → map kind_of vs ≡ ks → (w : Nested) × ((is_made_of fs w ≡ true) × (flat w ≡ vs))
  made_all vs e = let ps = h.all vs e in (made ps.0, (ps.1.0, ps.1.1))

  made_fits : Fits (is_made_of fs) ks
  made_fits = record { kinds = made_kinds; only = made_only; all = made_all }

-- ---- cells

module _ (k : Kind) where
  cell_kinds_are : (w : Nested) → is_cell_of k w ≡ true → map kind_of (flat w) ≡ k ∷ []
  cell_kinds_are (cell v) e = ap (λ (j : Kind). j ∷ []) (sym (kind_is k (kind_of v) e))
  cell_kinds_are (made ps) e = absurd cc

  cell_only : (w u : Nested) → is_cell_of k w ≡ true → is_cell_of k u ≡ true → flat w ≡ flat u → w ≡ u
  cell_only (cell v) (cell u) e g h = ap cell (ap (head_or v) h)
  cell_only (cell v) (made ps) e g h = absurd cc
  cell_only (made ps) u e g h = absurd cc

  cell_all : (vs : List Value) → map kind_of vs ≡ k ∷ [] → (w : Nested) × ((is_cell_of k w ≡ true) × (flat w ≡ vs))
  cell_all [] e = absurd cc
  cell_all (v ∷ []) e = (cell v, (ap (same_kind k) (ap (head_or k) e) ∙ same_kind_self k, refl))
  cell_all (v ∷ u ∷ vs) e = absurd cc

  cell_fits : Fits (is_cell_of k) (k ∷ [])
  cell_fits = record { kinds = cell_kinds_are; only = cell_only; all = cell_all }

-- ---- shapes

abbrev OneForEach : Shape → Type 0
OneForEach s = Fits (is_of s) (cell_kinds s)

row_parts : (n : ℕ) (s : Shape) → OneForEach s → FitAll (replicate n (is_of s)) (joined (replicate n (cell_kinds s)))
row_parts zero s h = no_parts
row_parts (suc n) s h = more_parts _ _ _ _ h (row_parts n s h)

fields_parts : (ps : List ((s : Shape) × OneForEach s)) → FitAll (map is_of (map (λ e. e.0) ps)) (joined (map cell_kinds (map (λ e. e.0) ps)))
fields_parts [] = no_parts
fields_parts (p ∷ ps) = more_parts _ _ _ _ p.1 (fields_parts ps)

fits_here : (y : Shape-F ((s : Shape) × OneForEach s))
    → Fits (is_of_step (map-Shape _ _ is_of (map-Shape _ _ (λ e. e.0) y))) (kinds_step (map-Shape _ _ cell_kinds (map-Shape _ _ (λ e. e.0) y)))
fits_here (Cell k) = cell_fits k
fits_here (Row n of) = made_fits _ _ (row_parts n of.0 of.1)
fits_here (Struct ps) = made_fits _ _ (fields_parts ps)

one_for_each : (s : Shape) → OneForEach s
one_for_each =
    ind-Shape OneForEach (λ x y is. rw (← is) (rw (fold-roll-Shape (Nested → Bool) is_of_step _, fold-roll-Shape (List Kind) kinds_step _) (fits_here y)))

pub one_to_one : (s : Shape) → IsOneToOne s
one_to_one s = let h = one_for_each s in record { kinds = h.kinds; only = h.only; all = h.all }

-- ---- where parts stand

some : {A : Type 0} {a b : A} → Some a ≡ Some b → a ≡ b
some {a = a} e = ap (some_or a) e

flat_length : (s : Shape) (w : Nested) → is_of s w ≡ true → length (flat w) ≡ length (cell_kinds s)
flat_length s w e = sym (length-map (flat w) kind_of) ∙ ap length ((one_for_each s).kinds w e)

-- a value, and what stands behind it
first_cells : (s : Shape) (w : Nested) (vs : List Value) → is_of s w ≡ true → flat w ≡ take (length (cell_kinds s)) (flat w ++ vs)
first_cells s w vs e = sym (ap (λ (n : ℕ). take n (flat w ++ vs)) (sym (flat_length s w e)) ∙ take-append_seam (flat w) vs)

next_cells : (s : Shape) (w : Nested) (n : ℕ) (vs : List Value) → is_of s w ≡ true → drop (length (cell_kinds s) + n) (flat w ++ vs) ≡ drop n vs
next_cells s w n vs e = ap (λ (m : ℕ). drop (m + n) (flat w ++ vs)) (sym (flat_length s w e)) ∙ drop-append-add (flat w) vs n

item_stands : (s : Shape) (n k : ℕ) (ps : Parts) (u : Nested) → are_of (replicate n (is_of s)) ps ≡ true → slice_get (listed ps) k ≡ Some u
    → flat u ≡ part_of (k * length (cell_kinds s)) (length (cell_kinds s)) (all_flat ps)
item_stands s zero k none u e g = absurd cc
item_stands s zero k (part w ps) u e g = absurd cc
item_stands s (suc n) k none u e g = absurd cc
item_stands s (suc n) zero (part w ps) u e g =
    ap flat (sym (some g)) ∙ first_cells s w (all_flat ps) (both (is_of s w) (are_of (replicate n (is_of s)) ps) e).0
    ∙ ap (λ (m : ℕ). take (length (cell_kinds s)) (drop m (flat w ++ all_flat ps))) (sym (zero-mul (length (cell_kinds s))))
item_stands s (suc n) (suc k) (part w ps) u e g =
    let b = both (is_of s w) (are_of (replicate n (is_of s)) ps) e in
    let c = length (cell_kinds s) in
    item_stands s n k ps u b.1 g ∙ ap (take c) (sym (next_cells s w (k * c) (all_flat ps) b.0))
    ∙ ap (λ (m : ℕ). take c (drop m (flat w ++ all_flat ps))) (add_comm c (k * c) ∙ sym (suc-mul k c))

field_stands : (s : Shape) (fields : List Shape) (k : ℕ) (ps : Parts) (u : Nested) → are_of (map is_of fields) ps ≡ true
    → slice_get fields k ≡ Some s → slice_get (listed ps) k ≡ Some u
    → flat u ≡ part_of (length (joined (map cell_kinds (take k fields)))) (length (cell_kinds s)) (all_flat ps)
field_stands s [] k ps u e i g = absurd cc
field_stands s (f ∷ fields) k none u e i g = absurd cc
field_stands s (f ∷ fields) zero (part w ps) u e i g =
    let b = both (is_of f w) (are_of (map is_of fields) ps) e in
    ap flat (sym (some g)) ∙ first_cells f w (all_flat ps) b.0 ∙ ap (λ (r : Shape). take (length (cell_kinds r)) (flat w ++ all_flat ps)) (some i)
field_stands s (f ∷ fields) (suc k) (part w ps) u e i g =
    let b = both (is_of f w) (are_of (map is_of fields) ps) e in
    let n = length (joined (map cell_kinds (take k fields))) in
    let more = length-append (cell_kinds f) (joined (map cell_kinds (take k fields))) in
    let same = ap (λ (m : ℕ). drop m (flat w ++ all_flat ps)) more ∙ next_cells f w n (all_flat ps) b.0 in
    field_stands s fields k ps u b.1 i g ∙ ap (take (length (cell_kinds s))) (sym same)

row_is : (n : ℕ) (s : Shape) (w : Nested) → is_of (shape.Row n s) w ≡ is_made_of (replicate n (is_of s)) w
row_is n s w =
    ap (λ (r : Shape). is_of r w) (sym (shape.rolls-Row n s)) ∙ ap (λ (f : Nested → Bool). f w) (fold-roll-Shape (Nested → Bool) is_of_step (Row n s))

struct_is : (ss : List Shape) (w : Nested) → is_of (shape.Struct ss) w ≡ is_made_of (map is_of ss) w
struct_is ss w =
    ap (λ (r : Shape). is_of r w) (sym (shape.rolls-Struct ss)) ∙ ap (λ (f : Nested → Bool). f w) (fold-roll-Shape (Nested → Bool) is_of_step (Struct ss))

item_of : (s : Shape) (n k : ℕ) (w u : Nested) → is_made_of (replicate n (is_of s)) w ≡ true → slice_get (parts_of w) k ≡ Some u
    → flat u ≡ part_of (k * length (cell_kinds s)) (length (cell_kinds s)) (flat w)
item_of s n k (cell v) u e g = absurd cc
item_of s n k (made ps) u e g = item_stands s n k ps u e g

field_of : (s : Shape) (fields : List Shape) (k : ℕ) (w u : Nested) → is_made_of (map is_of fields) w ≡ true → slice_get fields k ≡ Some s
    → slice_get (parts_of w) k ≡ Some u
    → flat u ≡ part_of (length (joined (map cell_kinds (take k fields)))) (length (cell_kinds s)) (flat w)
field_of s fields k (cell v) u e i g = absurd cc
field_of s fields k (made ps) u e i g = field_stands s fields k ps u e i g

pub stand_in_order : (s : Shape) → StandInOrder s
stand_in_order s =
    record {
      item = λ n k w u e g. item_of s n k w u (sym (row_is n s w) ∙ e) g;
      field = λ fields k w u e i g. field_of s fields k w u (sym (struct_is fields w) ∙ e) i g;
    }
