-- What the tests of places and of parts of values tell.
use Rattle.std.proofs.Common.{◌≡◌, ℕ, zero, suc, ◌+◌, ◌*◌, ◌<◌, List, [], ◌∷◌, ◌++◌, length, take, drop, replicate, Option, Some, None, Bool, true, false}
use Rattle.std.proofs.Common.{refl, sym, ap, ◌∙◌, subst, arith, length-append}
use Rattle.std.specs.Prelude.{slice_get}
use Rattle.std.proofs.lemmas.Bool.{eqb-true}
use Rattle.std.proofs.lemmas.List.Concat.{flat_map-cons}
use Rattle.eu_base.specs.declared.value.Kind.{Kind}
use Rattle.eu_base.specs.declared.shape.Shape.{Shape}
use Rattle.eu_base.specs.declared.shape.Shape.TheVariants as shape
use Rattle.eu_base.specs.declared.shape.Shape.TheOpen as open_shape
use Rattle.eu_base.specs.declared.shape.Shape.TheFolds.{fold-roll-Shape}
use Rattle.eu_base.specs.Shapes.{cell_kinds, joined}
use Rattle.code_form.specs.Valid.{AreItems, IsPart}
use Rattle.elan_types.specs.declared.core_phrase.Part.{Part}
use Rattle.elan_types.specs.Typing.{Typed, Held, OfKind, OfPlace, values_held, place_held, begins, starts, if_true, item_kinds, has_part}
use Rattle.elan_types.proofs.Shapes.{kind_is, cell_is}
use Rattle.place_gen.proofs.Homes.{both}

-- cells of these kinds are the first, and there are some
pub record Starts (ks js : List Kind) : Type 0 where
  pub first : Kind
  pub rest : List Kind
  pub is : js ≡ first ∷ rest
  pub fits : begins ks js ≡ true

pub starts_is : (ks js : List Kind) → starts ks js ≡ true → Starts ks js
starts_is [] js e = let f : ⊥ = cc in absurd f
starts_is (k ∷ ks) [] e = let f : ⊥ = cc in absurd f
starts_is (k ∷ ks) (j ∷ js) e = record { first = j; rest = js; is = refl; fits = e }

pub one_starts : (k : Kind) (js : List Kind) → starts (k ∷ []) js ≡ true → starts (cell_kinds (shape.Cell k)) js ≡ true
one_starts k js e = ap (λ ks. starts ks js) (cell_is k) ∙ e

pub begins_take : (ks js : List Kind) → begins ks js ≡ true → take (length ks) js ≡ ks
begins_take [] js e = refl
begins_take (k ∷ ks) [] e = let f : ⊥ = cc in absurd f
begins_take (k ∷ ks) (j ∷ js) e =
    let b = both _ _ e in ap (λ l. j ∷ l) (begins_take ks js b.1) ∙ ap (λ k. k ∷ ks) (sym (kind_is k j b.0))

-- the first cell of those behind some
pub first_behind : {A : Type 0} (n : ℕ) (xs : List A) (x : A) (rest : List A) → drop n xs ≡ x ∷ rest → slice_get xs n ≡ Some x
first_behind zero [] x rest e = let f : ⊥ = cc in absurd f
first_behind zero (y ∷ xs) x rest e = let f : y ≡ x = cc in ap Some f
first_behind (suc n) [] x rest e = let f : ⊥ = cc in absurd f
first_behind (suc n) (y ∷ xs) x rest e = first_behind n xs x rest e

pub held_behind : (n : ℕ) (hs : List Held) (k : Kind) (ks : List Kind) → values_held (drop n hs) ≡ k ∷ ks → slice_get hs n ≡ Some (OfKind k)
held_behind zero [] k ks e = let f : ⊥ = cc in absurd f
held_behind zero (OfKind j ∷ hs) k ks e = let f : j ≡ k = cc in ap (λ k. Some (OfKind k)) f
held_behind zero (OfPlace js ∷ hs) k ks e = let f : ⊥ = cc in absurd f
held_behind (suc n) [] k ks e = let f : ⊥ = cc in absurd f
held_behind (suc n) (h ∷ hs) k ks e = held_behind n hs k ks e

pub place_held_is : (o : Option Held) (k : Kind) (ks : List Kind) → place_held o ≡ k ∷ ks → o ≡ Some (OfPlace (k ∷ ks))
place_held_is None k ks e = let f : ⊥ = cc in absurd f
place_held_is (Some (OfKind j)) k ks e = let f : ⊥ = cc in absurd f
place_held_is (Some (OfPlace js)) k ks e = ap (λ js. Some (OfPlace js)) e

-- of a list with such a part there is a first
pub record HasFirst {A : Type 0} (xs : List A) : Type 0 where
  pub first : A
  pub rest : List A
  pub is : xs ≡ first ∷ rest

pub first_of_drop : {A : Type 0} (n : ℕ) (xs : List A) (x : A) (rest : List A) → drop n xs ≡ x ∷ rest → HasFirst xs
first_of_drop zero [] x rest e = let f : ⊥ = cc in absurd f
first_of_drop (suc n) [] x rest e = let f : ⊥ = cc in absurd f
first_of_drop n (y ∷ xs) x rest e = record { first = y; rest = xs; is = refl }

pub if_true_is : (b : Bool) (js : List Kind) (k : Kind) (ks : List Kind) → if_true b js ≡ k ∷ ks → (b ≡ true) × (js ≡ k ∷ ks)
if_true_is true js k ks e = (refl, e)
if_true_is false js k ks e = let f : ⊥ = cc in absurd f

-- items of a row at a place
pub record HasItems (count cells : ℕ) (qs : List Kind) (k : Kind) (ks : List Kind) : Type 0 where
  pub some : HasFirst qs
  pub size : length (k ∷ ks) ≡ cells
  pub fits : begins (joined (replicate count (k ∷ ks))) qs ≡ true

pub items_are : (count cells : ℕ) (qs : List Kind) (k : Kind) (ks : List Kind) → item_kinds count cells qs ≡ k ∷ ks → HasItems count cells qs k ks
items_are count cells qs k ks e =
    let f = if_true_is _ (take cells qs) k ks e in
    let b = both _ _ f.0 in
    record {
      some = by cells qs f.1;
      size = ap length (sym f.1) ∙ eqb-true (length (take cells qs)) cells b.0;
      fits = ap (λ js. begins (joined (replicate count js)) qs) (sym f.1) ∙ b.1;
    }
  where
    by : (cells : ℕ) (qs : List Kind) → take cells qs ≡ k ∷ ks → HasFirst qs
    by zero [] e = let f : ⊥ = cc in absurd f
    by (suc cells) [] e = let f : ⊥ = cc in absurd f
    by cells (q ∷ qs) e = record { first = q; rest = qs; is = refl }

-- the items of a row that is a value
pub row_kinds : (n : ℕ) (s : Shape) → cell_kinds (shape.Row n s) ≡ joined (replicate n (cell_kinds s))
row_kinds n s = ap cell_kinds (sym (shape.rolls-Row n s)) ∙ fold-roll-Shape _ _ (open_shape.Row n s)

pub copies_length : (n : ℕ) (ks : List Kind) → length (joined (replicate n ks)) ≡ n * length ks
copies_length zero ks = omega arith
copies_length (suc n) ks =
    let e = ap length (flat_map-cons (λ l. l) ks (replicate n ks)) in
    let rest = copies_length n ks in
    omega (arith, e, length-append ks (joined (replicate n ks)), rest)

take_front : (ks js : List Kind) → take (length ks) (ks ++ js) ≡ ks
take_front [] js = refl
take_front (k ∷ ks) js = ap (λ l. k ∷ l) (take_front ks js)

drop_front : (ks js : List Kind) (n : ℕ) → drop (length ks + n) (ks ++ js) ≡ drop n js
drop_front [] js n = let e : 0 + n ≡ n = omega arith in ap (λ n. drop n js) e
drop_front (k ∷ ks) js n = let e : suc (length ks) + n ≡ suc (length ks + n) = omega arith in ap (λ n. drop n (k ∷ (ks ++ js))) e ∙ drop_front ks js n

copy_is : (n i : ℕ) (ks : List Kind) → i < n → take (length ks) (drop (i * length ks) (joined (replicate n ks))) ≡ ks
copy_is zero i ks lt = absurd (omega (arith, lt))
copy_is (suc n) zero ks lt =
    let e : 0 * length ks ≡ 0 = omega arith in
    ap (λ d. take (length ks) (drop d (joined (replicate (suc n) ks)))) e ∙ ap (take (length ks)) (flat_map-cons (λ l. l) ks (replicate n ks))
    ∙ take_front ks (joined (replicate n ks))
copy_is (suc n) (suc i) ks lt =
    let e : suc i * length ks ≡ length ks + i * length ks = omega arith in
    ap (λ d. take (length ks) (drop d (joined (replicate (suc n) ks)))) e
    ∙ ap (λ l. take (length ks) (drop (length ks + i * length ks) l)) (flat_map-cons (λ l. l) ks (replicate n ks))
    ∙ ap (take (length ks)) (drop_front ks (joined (replicate n ks)) (i * length ks)) ∙ copy_is n i ks (omega (arith, lt))

pub row_items : (count cells : ℕ) (s : Shape) → length (cell_kinds s) ≡ cells → AreItems count cells (cell_kinds (shape.Row count s)) (cell_kinds s)
row_items count cells s size = record {
  many = ap length (row_kinds count s) ∙ copies_length count (cell_kinds s) ∙ ap (λ n. count * n) size;
  each = λ i lt. subst (λ n. take n (drop (i * n) (cell_kinds (shape.Row count s))) ≡ cell_kinds s) size
      (ap (λ l. take (length (cell_kinds s)) (drop (i * length (cell_kinds s)) l)) (row_kinds count s) ∙ copy_is count i (cell_kinds s) lt);
}

-- a part of a value
pub record HasPart (part : Part) (s : Shape) (a : Typed) : Type 0 where
  pub whole : Shape
  pub is : a ≡ Some whole
  pub parts : IsPart part.of part.before part.cells (cell_kinds whole) (cell_kinds s)

pub part_known : (part : Part) (s : Shape) (a : Typed) → has_part part (cell_kinds s) a ≡ true → HasPart part s a
part_known part s None e = let f : ⊥ = cc in absurd f
part_known part s (Some r) e =
    let f = both _ _ e in
    let g = both _ _ f.1 in record {
      whole = r;
      is = refl;
      parts = record {
        many = eqb-true (length (cell_kinds r)) part.of f.0;
        is = ap (λ n. take n (drop part.before (cell_kinds r))) (sym (eqb-true (length (cell_kinds s)) part.cells g.0))
            ∙ begins_take (cell_kinds s) (drop part.before (cell_kinds r)) g.1;
      };
    }
