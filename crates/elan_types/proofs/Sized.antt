-- Shapes of which each part has a cell: where a place of the whole is well typed, one of each part is.
use Rattle.std.proofs.Common.{◌≡◌, ℕ, zero, suc, ◌+◌, Bool, true, false, ◌&&◌, ◌==◌, if◌then◌else◌, List, [], ◌∷◌, ◌++◌, map, length, take, drop, replicate}
use Rattle.std.proofs.Common.{refl, sym, ap, subst, ◌∙◌}
use Rattle.std.proofs.Common.{Some, slice_get, eq-eqb, arith}
use Rattle.std.specs.Str.{bytes_eq}
use Rattle.std.proofs.lemmas.List.{length-append, drop-drop}
use Rattle.eu_base.specs.declared.value.Kind.{Kind}
use Rattle.eu_base.specs.declared.shape.Shape.{Shape}
use Rattle.eu_base.specs.declared.shape.Shape.TheVariants as shape
use Rattle.eu_base.specs.declared.shape.Shape.TheOpen.{Shape-F, Cell, Row, Struct}
use Rattle.eu_base.specs.declared.shape.Shape.TheFolds.{fold-Shape, ind-Shape, map-Shape, fold-roll-Shape}
use Rattle.eu_base.specs.Values.{same_kind}
use Rattle.eu_base.specs.Shapes.{cell_kinds, kinds_step, joined}
use Rattle.elan_types.specs.declared.core_phrase.Part.{Part}
use Rattle.elan_types.specs.declared.elan_type.ElanType.{ElanType, out-ElanType, roll-ElanType}
use Rattle.elan_types.specs.declared.elan_type.ElanType.TheOpen as open_types
use Rattle.elan_types.specs.declared.elan_type.ElanType.TheOpen.{ElanType-F, FieldType-F}
use Rattle.elan_types.specs.declared.elan_type.ElanType.TheViews.{roll-out-ElanType}
use Rattle.elan_types.specs.declared.elan_type.ElanType.TheFolds.{map-ElanType, fold-roll-ElanType, fold-roll-FieldType}
use Rattle.elan_types.specs.declared.elan_type.FieldType.{FieldType}
use Rattle.elan_types.specs.Types.{items_here, items, cells, field_from, field_here, field, shape_step, field_shape_step, shape_in, field_shape}
use Rattle.elan_types.specs.Typing.{all_true, begins, starts, if_true, item_kinds, has_part}
use Rattle.elan_types.proofs.Shapes.{both, kind_is, same_kind_self, row_kinds, struct_kinds}
use Rattle.elan_types.proofs.Types.{cells_kinds}

-- ---- lists of kinds that stand first

pub begins_take : (ks js : List Kind) → begins ks js ≡ true → take (length ks) js ≡ ks
begins_take [] js e = refl
begins_take (k ∷ ks) [] e = absurd cc
begins_take (k ∷ ks) (j ∷ js) e =
    let b = both (same_kind k j) (begins ks js) e in
    ap (λ (i : Kind). i ∷ take (length ks) js) (sym (kind_is k j b.0)) ∙ ap (λ (is : List Kind). k ∷ is) (begins_take ks js b.1)

pub begins_self : (ks : List Kind) → begins ks ks ≡ true
begins_self [] = refl
begins_self (k ∷ ks) = ap (λ (b : Bool). b && begins ks ks) (same_kind_self k) ∙ begins_self ks

pub begins_first : (ks is js : List Kind) → begins (ks ++ is) js ≡ true → begins ks js ≡ true
begins_first [] is js e = refl
begins_first (k ∷ ks) is [] e = absurd cc
begins_first (k ∷ ks) is (j ∷ js) e =
    let b = both (same_kind k j) (begins (ks ++ is) js) e in
    ap (λ (b : Bool). b && begins ks js) b.0 ∙ begins_first ks is js b.1

pub begins_then : (ks is js : List Kind) → begins (ks ++ is) js ≡ true → begins is (drop (length ks) js) ≡ true
begins_then [] is js e = e
begins_then (k ∷ ks) is [] e = absurd cc
begins_then (k ∷ ks) is (j ∷ js) e = begins_then ks is js (both (same_kind k j) (begins (ks ++ is) js) e).1

abbrev pub is_some_kind : List Kind → Bool
is_some_kind [] = false
is_some_kind (k ∷ ks) = true

pub starts_begins : (ks js : List Kind) → starts ks js ≡ true → begins ks js ≡ true
starts_begins [] js e = absurd cc
starts_begins (k ∷ ks) js e = e

pub begins_starts : (ks js : List Kind) → is_some_kind ks ≡ true → begins ks js ≡ true → starts ks js ≡ true
begins_starts [] js e b = absurd cc
begins_starts (k ∷ ks) js e b = b

some_first : (ks js : List Kind) → is_some_kind ks ≡ true → is_some_kind (ks ++ js) ≡ true
some_first [] js e = absurd cc
some_first (k ∷ ks) js e = refl

-- ---- a shape of which each part has a cell

abbrev pub is_any : List Bool → Bool
is_any [] = false
is_any (b ∷ bs) = true

abbrev pub is_many : ℕ → Bool
is_many zero = false
is_many (suc n) = true

abbrev pub sized_step : Shape-F Bool → Bool
sized_step (Cell k) = true
sized_step (Row n b) = is_many n && b
sized_step (Struct bs) = is_any bs && all_true bs

abbrev pub is_sized : Shape → Bool
is_sized = fold-Shape Bool sized_step

abbrev pub is_sized_type : ElanType → Bool
is_sized_type t = is_sized (shape_in t)

pub sized_cell : (k : Kind) → is_sized (shape.Cell k) ≡ true
sized_cell k = ap is_sized (sym (shape.rolls-Cell k)) ∙ fold-roll-Shape _ _ (Cell k)

pub sized_row : (n : ℕ) (s : Shape) → is_sized (shape.Row n s) ≡ (is_many n && is_sized s)
sized_row n s = ap is_sized (sym (shape.rolls-Row n s)) ∙ fold-roll-Shape _ _ (Row n s)

pub sized_struct : (ss : List Shape) → is_sized (shape.Struct ss) ≡ (is_any (map is_sized ss) && all_true (map is_sized ss))
sized_struct ss = ap is_sized (sym (shape.rolls-Struct ss)) ∙ fold-roll-Shape _ _ (Struct ss)

pub item_sized : (n : ℕ) (s : Shape) → is_sized (shape.Row n s) ≡ true → is_sized s ≡ true
item_sized n s e = (both (is_many n) (is_sized s) (sym (sized_row n s) ∙ e)).1

part_sized : (ss : List Shape) (i : ℕ) (s : Shape) → slice_get ss i ≡ Some s → all_true (map is_sized ss) ≡ true → is_sized s ≡ true
part_sized [] i s g e = absurd cc
part_sized (r ∷ ss) zero s g e = let h : r ≡ s = cc in subst (λ (q : Shape). is_sized q ≡ true) h (both (is_sized r) (all_true (map is_sized ss)) e).0
part_sized (r ∷ ss) (suc i) s g e = part_sized ss i s g (both (is_sized r) (all_true (map is_sized ss)) e).1

pub field_sized : (ss : List Shape) (i : ℕ) (s : Shape) → slice_get ss i ≡ Some s → is_sized (shape.Struct ss) ≡ true → is_sized s ≡ true
field_sized ss i s g e = part_sized ss i s g (both (is_any (map is_sized ss)) (all_true (map is_sized ss)) (sym (sized_struct ss) ∙ e)).1

-- it has a cell itself

abbrev HasCell : Shape → Type 0
HasCell s = is_sized s ≡ true → is_some_kind (cell_kinds s) ≡ true

has_cell_here : (y : Shape-F ((s : Shape) × HasCell s)) → sized_step (map-Shape _ _ is_sized (map-Shape _ _ (λ e. e.0) y)) ≡ true
    → is_some_kind (kinds_step (map-Shape _ _ cell_kinds (map-Shape _ _ (λ e. e.0) y))) ≡ true
has_cell_here (Cell k) e = refl
has_cell_here (Row zero of) e = absurd cc
has_cell_here (Row (suc n) of) e = some_first (cell_kinds of.0) (joined (replicate n (cell_kinds of.0))) (of.1 e)
has_cell_here (Struct []) e = absurd cc
has_cell_here (Struct (p ∷ ps)) e =
    some_first (cell_kinds p.0) (joined (map cell_kinds (map (λ e. e.0) ps))) (p.1 (both (is_sized p.0) (all_true (map is_sized (map (λ e. e.0) ps))) e).0)

pub sized_has_cell : (s : Shape) → is_sized s ≡ true → is_some_kind (cell_kinds s) ≡ true
sized_has_cell =
    ind-Shape HasCell (λ x y is. rw (← is) (λ e. rw (fold-roll-Shape (List Kind) kinds_step _) (has_cell_here y (sym (fold-roll-Shape _ _ _) ∙ e))))

pub sized_starts : (s : Shape) → is_sized s ≡ true → starts (cell_kinds s) (cell_kinds s) ≡ true
sized_starts s e = begins_starts (cell_kinds s) (cell_kinds s) (sized_has_cell s e) (begins_self (cell_kinds s))

-- ---- places of items and fields

items_are : (n : ℕ) (cs ks : List Kind) → is_many n ≡ true → begins (joined (replicate n cs)) ks ≡ true → item_kinds n (length cs) ks ≡ cs
items_are zero cs ks e b = absurd cc
items_are (suc n) cs ks e b =
    let whole = joined (replicate (suc n) cs) in
    let cut = begins_take cs ks (begins_first cs (joined (replicate n cs)) ks b) in
    ap (λ (js : List Kind). if_true (length js == length cs && begins (joined (replicate (suc n) js)) ks) js) cut
    ∙ ap (λ (c : Bool). if_true (c && begins whole ks) cs) (eq-eqb (length cs) (length cs) refl) ∙ ap (λ (c : Bool). if_true c cs) b

pub item_starts : (n : ℕ) (s : Shape) (ks : List Kind) → starts (cell_kinds (shape.Row n s)) ks ≡ true → is_sized (shape.Row n s) ≡ true
    → starts (cell_kinds s) (item_kinds n (length (cell_kinds s)) ks) ≡ true
item_starts n s ks b e =
    let some = both (is_many n) (is_sized s) (sym (sized_row n s) ∙ e) in
    let begin = starts_begins (joined (replicate n (cell_kinds s))) ks (ap (λ (js : List Kind). starts js ks) (sym (row_kinds n s)) ∙ b) in
    ap (starts (cell_kinds s)) (items_are n (cell_kinds s) ks some.0 begin) ∙ sized_starts s some.1

part_begins : (ss : List Shape) (i : ℕ) (s : Shape) (ks : List Kind) → slice_get ss i ≡ Some s → begins (joined (map cell_kinds ss)) ks ≡ true
    → begins (cell_kinds s) (drop (length (joined (map cell_kinds (take i ss)))) ks) ≡ true
part_begins [] i s ks g b = absurd cc
part_begins (r ∷ ss) zero s ks g b =
    let h : r ≡ s = cc in
    subst (λ (q : Shape). begins (cell_kinds q) ks ≡ true) h (begins_first (cell_kinds r) (joined (map cell_kinds ss)) ks b)
part_begins (r ∷ ss) (suc i) s ks g b =
    let before = joined (map cell_kinds (take i ss)) in
    let rest = drop (length (cell_kinds r)) ks in
    let later = part_begins ss i s rest g (begins_then (cell_kinds r) (joined (map cell_kinds ss)) ks b) in
    let same = ap (λ (n : ℕ). drop n ks) (length-append (cell_kinds r) before) ∙ sym (drop-drop (length before) (length (cell_kinds r)) ks) in
    ap (begins (cell_kinds s)) same ∙ later

pub field_starts : (ss : List Shape) (i : ℕ) (s : Shape) (ks : List Kind) → slice_get ss i ≡ Some s
    → starts (cell_kinds (shape.Struct ss)) ks ≡ true → is_sized (shape.Struct ss) ≡ true
    → starts (cell_kinds s) (drop (length (joined (map cell_kinds (take i ss)))) ks) ≡ true
field_starts ss i s ks g b e =
    let begin = starts_begins (joined (map cell_kinds ss)) ks (ap (λ (js : List Kind). starts js ks) (sym (struct_kinds ss)) ∙ b) in
    begins_starts (cell_kinds s) _ (sized_has_cell s (field_sized ss i s g e)) (part_begins ss i s ks g begin)

-- ---- items and fields of types

pub items_shape : (t u : ElanType) (n : ℕ) → items t ≡ Some (n, u) → shape_in t ≡ shape.Row n (shape_in u)
items_shape t u n e = ap shape_in (sym (roll-out-ElanType t)) ∙ fold-roll-ElanType _ _ _ _ (out-ElanType t) ∙ by_layer (out-ElanType t) e
  where
    by_layer : (y : ElanType-F ElanType FieldType) → items_here y ≡ Some (n, u)
        → shape_step (map-ElanType _ _ _ _ shape_in field_shape y) ≡ shape.Row n (shape_in u)
    by_layer (open_types.Row m v) h =
        let k : (m, v) ≡ (n, u) = cc in
        ap (λ (p : ℕ × ElanType). shape.Row p.0 (shape_in p.1)) k
    by_layer _ h = absurd cc

-- where the field of a structure stands
pub record IsField (t : ElanType) (k : ℕ) (u : ElanType) : Type 0 where
  pub shapes : List Shape
  pub number : ℕ
  pub whole : shape_in t ≡ shape.Struct shapes
  pub there : slice_get shapes number ≡ Some (shape_in u)
  pub before : k ≡ length (joined (map cell_kinds (take number shapes)))

pub shape_of_field : (f : FieldType) → field_shape f ≡ shape_in f.of
shape_of_field f = fold-roll-FieldType Shape Shape shape_step field_shape_step (record { name = f.name; of = f.of })

abbrev StandsIn : List FieldType → ℕ → ℕ → ElanType → ℕ → Type 0
StandsIn fs m k u i =
    (slice_get (map field_shape fs) i ≡ Some (shape_in u)) × (k ≡ m + length (joined (map cell_kinds (take i (map field_shape fs)))))

stands_in : (fs : List FieldType) (x : List ℕ) (m k : ℕ) (u : ElanType) → field_from m fs x ≡ Some (k, u) → (i : ℕ) × StandsIn fs m k u i
stands_in [] x m k u e = absurd cc
stands_in (f ∷ fs) x m k u e = by_test (λ n h. stands_in fs x n k u h) (bytes_eq f.name x) e
  where
    plus_none : m ≡ m + 0
    plus_none = omega arith

    by_test : ((n : ℕ) → field_from n fs x ≡ Some (k, u) → (i : ℕ) × StandsIn fs n k u i) → (b : Bool)
        → (if b then Some (m, f.of) else field_from (m + cells f.of) fs x) ≡ Some (k, u) → (i : ℕ) × StandsIn (f ∷ fs) m k u i
    by_test later true h =
        let p : (m, f.of) ≡ (k, u) = cc in
        let g : f.of ≡ u = ap (λ (q : ℕ × ElanType). q.1) p in
        let n : m ≡ k = ap (λ (q : ℕ × ElanType). q.0) p in
        (0, (ap (λ (s : Shape). Some s) (shape_of_field f ∙ ap shape_in g), sym n ∙ plus_none))
    by_test later false h =
        let r = later (m + cells f.of) h in
        let before = joined (map cell_kinds (take r.0 (map field_shape fs))) in
        let c = length-append (cell_kinds (field_shape f)) before in
        let d = ap (λ (s : Shape). length (cell_kinds s)) (shape_of_field f) ∙ cells_kinds f.of in
        let g = r.1.1 in
        (suc r.0, (r.1.0, omega arith))

pub field_is : (t : ElanType) (x : List ℕ) (k : ℕ) (u : ElanType) → field t x ≡ Some (k, u) → IsField t k u
field_is t x k u e = by_layer (out-ElanType t) (sym (roll-out-ElanType t)) e
  where
    by_layer : (y : ElanType-F ElanType FieldType) → t ≡ roll-ElanType y → field_here y x ≡ Some (k, u) → IsField t k u
    by_layer (open_types.Struct fs) h e =
        let r = stands_in fs x 0 k u e in
        let g = r.1.1 in
        record {
          shapes = map field_shape fs;
          number = r.0;
          whole = ap shape_in h ∙ fold-roll-ElanType _ _ _ _ (open_types.Struct fs);
          there = r.1.0;
          before = omega arith;
        }
    by_layer _ h e = absurd cc

pub item_of_type_starts : (t u : ElanType) (n : ℕ) (ks : List Kind) → items t ≡ Some (n, u) → starts (cell_kinds (shape_in t)) ks ≡ true
    → is_sized_type t ≡ true → starts (cell_kinds (shape_in u)) (item_kinds n (cells u) ks) ≡ true
item_of_type_starts t u n ks e b h =
    let s = items_shape t u n e in
    ap (λ (m : ℕ). starts (cell_kinds (shape_in u)) (item_kinds n m ks)) (sym (cells_kinds u))
    ∙ item_starts n (shape_in u) ks (ap (λ (r : Shape). starts (cell_kinds r) ks) (sym s) ∙ b) (ap is_sized (sym s) ∙ h)

pub item_of_type_sized : (t u : ElanType) (n : ℕ) → items t ≡ Some (n, u) → is_sized_type t ≡ true → is_sized_type u ≡ true
item_of_type_sized t u n e h = item_sized n (shape_in u) (ap is_sized (sym (items_shape t u n e)) ∙ h)

pub field_of_type_starts : (t : ElanType) (x : List ℕ) (k : ℕ) (u : ElanType) (ks : List Kind) → field t x ≡ Some (k, u)
    → starts (cell_kinds (shape_in t)) ks ≡ true → is_sized_type t ≡ true → starts (cell_kinds (shape_in u)) (drop k ks) ≡ true
field_of_type_starts t x k u ks e b h =
    let f = field_is t x k u e in
    ap (λ (m : ℕ). starts (cell_kinds (shape_in u)) (drop m ks)) f.before
    ∙ field_starts f.shapes f.number (shape_in u) ks f.there (ap (λ (r : Shape). starts (cell_kinds r) ks) (sym f.whole) ∙ b) (ap is_sized (sym f.whole) ∙ h)

pub field_of_type_sized : (t : ElanType) (x : List ℕ) (k : ℕ) (u : ElanType) → field t x ≡ Some (k, u) → is_sized_type t ≡ true → is_sized_type u ≡ true
field_of_type_sized t x k u e h =
    let f = field_is t x k u e in
    field_sized f.shapes f.number (shape_in u) f.there (ap is_sized (sym f.whole) ∙ h)

-- a field is a part of a structure's value
abbrev pub field_part_of : ElanType → ℕ → ElanType → Part
field_part_of t k u = record { of = cells t; before = k; cells = cells u }

pub field_has_part : (t : ElanType) (x : List ℕ) (k : ℕ) (u : ElanType) → field t x ≡ Some (k, u)
    → has_part (field_part_of t k u) (cell_kinds (shape_in u)) (Some (shape_in t)) ≡ true
field_has_part t x k u e =
    let f = field_is t x k u e in
    let all = ap cell_kinds f.whole ∙ struct_kinds f.shapes in
    let from = part_begins f.shapes f.number (shape_in u) (joined (map cell_kinds f.shapes)) f.there (begins_self (joined (map cell_kinds f.shapes))) in
    let part = begins (cell_kinds (shape_in u)) (drop k (cell_kinds (shape_in t))) in
    ap (λ (b : Bool). b && (length (cell_kinds (shape_in u)) == cells u && part)) (eq-eqb _ _ (cells_kinds t))
    ∙ ap (λ (b : Bool). b && part) (eq-eqb _ _ (cells_kinds u))
    ∙ ap (λ (n : ℕ). begins (cell_kinds (shape_in u)) (drop n (cell_kinds (shape_in t)))) f.before
    ∙ ap (λ (ks : List Kind). begins (cell_kinds (shape_in u)) (drop (length (joined (map cell_kinds (take f.number f.shapes)))) ks)) all ∙ from
