-- Each part of a type that is written has a cell, and all of them are no more than a data space has.
use Rattle.std.proofs.Common.{◌+◌, ◌≡◌, ℕ, ℤ, pos, negsuc, zero, suc, Bool, true, false, ◌&&◌, ◌||◌, if◌then◌else◌, nat_le, nat_lt, le-leb, List, [], ◌∷◌, ◌++◌, length, map}
use Rattle.std.proofs.Common.{Option, Some, None, refl, sym, ap, subst, ◌∙◌}
use Rattle.std.specs.Prelude.{flat_map}
use Rattle.std.specs.Option.{option_or}
use Rattle.std.proofs.lemmas.Bool.{ltb-false}
use Rattle.eu_base.specs.declared.value.Kind.{Kind}
use Rattle.eu_base.specs.declared.value.Kind.TheVariants as kinds
use Rattle.eu_base.specs.declared.shape.Shape.{Shape}
use Rattle.eu_base.specs.declared.shape.Shape.TheVariants as shape
use Rattle.eu_base.specs.Shapes.{cell_kinds}
use Rattle.eu_base.specs.Room.{cells_fit}
use Rattle.eu_base.specs.declared.address.TheConstants.{CELLS}
use Rattle.elan_types.specs.declared.elan_type.ElanType.{ElanType}
use Rattle.elan_types.specs.declared.elan_type.ElanType.TheVariants as types
use Rattle.elan_types.specs.declared.elan_type.ElanType.TheOpen.{Row, Struct, Own}
use Rattle.elan_types.specs.declared.elan_type.ElanType.TheFolds.{fold-roll-ElanType}
use Rattle.elan_types.specs.declared.elan_type.FieldType.{FieldType}
use Rattle.elan_types.specs.Types.{is_open, is_too_large, cells, nodes, shape_in, field_shape, type_in}
use Rattle.elan_types.specs.Typing.{all_true}
use Rattle.elan_types.proofs.Shapes.{cell_is}
use Rattle.elan_types.proofs.Types.{type_shape, open_shape, cells_kinds}
use Rattle.elan_types.proofs.Sized.{is_many, is_sized, is_sized_type, sized_cell, sized_row, sized_struct, shape_of_field}
use Rattle.elan_tree.specs.declared.written_type.Name.{Name}
use Rattle.elan_tree.specs.declared.written_type.Size.{Size}
use Rattle.elan_tree.specs.declared.written_type.Size.TheVariants as size
use Rattle.elan_tree.specs.declared.written_type.TypePhrase.{TypePhrase}
use Rattle.elan_tree.specs.declared.written_type.TypePhrase.TheOpen as phrase
use Rattle.elan_tree.specs.declared.written_type.TypePhrase.TheOpen.{TypePhrase-F, Field-F}
use Rattle.elan_tree.specs.declared.written_type.TypePhrase.TheFolds.{ind-TypePhrase, map-TypePhrase, map-Field, fold-roll-TypePhrase, fold-roll-Field}
use Rattle.elan_tree.specs.declared.written_type.Field.{Field}
use Rattle.elan_names.specs.declared.type_name.TypeName.{TypeName}
use Rattle.elan_names.specs.declared.type_name.Named.{Named}
use Rattle.elan_names.specs.declared.type_name.Named.TheVariants as named
use Rattle.elan_walk.specs.declared.definition.Defined.{Defined}
use Rattle.elan_walk.specs.declared.definition.Defined.TheVariants as defined
use Rattle.elan_walk.specs.declared.definition.Definition.{Definition}
use Rattle.type_names.specs.Types.{size_in, size_named, size_of, or_open, row_of, is_broken, structure_of, type_named, meant, fields_meant, meant_step}
use Rattle.type_names.specs.Types.{fields_step}
use Rattle.type_names.specs.Types.{look, first_from, made, as_defined, by_definition, denoted, names_of}
use Rattle.type_names.specs.walks.Judged.{named_alike}
use Rattle.type_names.proofs.Looked.{look_both}
use Rattle.type_names.proofs.Meaning.{Looks}
use Rattle.type_names.proofs.Rounds.{names_denote}

-- All cells of the type find room in a data space.
abbrev pub Fits : ElanType → Type 0
Fits t = cells_fit (length (cell_kinds (shape_in t))) ≡ true

abbrev pub IsSized : ElanType → Type 0
IsSized t = (is_sized_type t ≡ true) × Fits t

-- the types that a look-up tells
abbrev SizedBy : Looks → Type 0
SizedBy l = (x : List ℕ) (t : ElanType) → l x ≡ Some (named.Of t) → IsSized t

-- the types that these names denote
abbrev pub SizedNames : List TypeName → Type 0
SizedNames ts = SizedBy (look ts)

-- ---- types

and_true : (p q : Bool) → p ≡ true → q ≡ true → (p && q) ≡ true
and_true p q e f = cc

cell_sized : (t : ElanType) (k : Kind) → shape_in t ≡ shape.Cell k → IsSized t
cell_sized t k e =
    (ap is_sized e ∙ sized_cell k, ap (λ (s : Shape). cells_fit (length (cell_kinds s))) e ∙ ap (λ (ks : List Kind). cells_fit (length ks)) (cell_is k))

open_sized : IsSized types.Open
open_sized = cell_sized types.Open kinds.Int open_shape

kind_sized : (k : Kind) → IsSized (type_in k)
kind_sized k = cell_sized (type_in k) k (type_shape k)

neither : (p q : Bool) → (p || q) ≡ false → p ≡ false
neither true q e = absurd cc
neither false q e = refl

large_or : (t : ElanType) → is_sized_type t ≡ true → IsSized (or_open t)
large_or t e = by_test (is_too_large t) refl
  where
    by_test : (b : Bool) → is_too_large t ≡ b → IsSized (if b then types.Open else t)
    by_test true h = open_sized
    by_test false h =
        (e, ap cells_fit (cells_kinds t) ∙ le-leb (cells t) CELLS (ltb-false 16384 (cells t) (neither (nat_lt 16384 (cells t)) (nat_lt 800 (nodes t)) h)))

row_sized : (n : Option ℕ) (t : ElanType) → ((k : ℕ) → n ≡ Some k → is_many k ≡ true) → IsSized t → IsSized (row_of n t)
row_sized None t many e = open_sized
row_sized (Some n) t many e = by_test (is_open t)
  where
    row_shape : shape_in (types.Row n t) ≡ shape.Row n (shape_in t)
    row_shape = ap shape_in (sym (types.rolls-Row n t)) ∙ fold-roll-ElanType _ _ _ _ (Row n t)

    by_test : (b : Bool) → IsSized (if b then types.Open else or_open (types.Row n t))
    by_test true = open_sized
    by_test false =
        large_or (types.Row n t)
        (ap is_sized row_shape ∙ sized_row n (shape_in t) ∙ and_true (is_many n) (is_sized (shape_in t)) (many n refl) e.0)

abbrev AllSized : List FieldType → Type 0
AllSized [] = Unit {0}
AllSized (f ∷ fs) = IsSized f.of × AllSized fs

all_append : (fs gs : List FieldType) → AllSized fs → AllSized gs → AllSized (fs ++ gs)
all_append [] gs h k = k
all_append (f ∷ fs) gs h k = (h.0, all_append fs gs h.1 k)

all_sized : (fs : List FieldType) → AllSized fs → all_true (map is_sized (map field_shape fs)) ≡ true
all_sized [] h = refl
all_sized (f ∷ fs) h =
    and_true (is_sized (field_shape f)) (all_true (map is_sized (map field_shape fs))) (ap is_sized (shape_of_field f) ∙ h.0.0) (all_sized fs h.1)

structure_sized : (fs : List FieldType) → AllSized fs → IsSized (structure_of fs)
structure_sized [] h = open_sized
structure_sized (f ∷ fs) h = by_test (is_broken (f ∷ fs))
  where
    structure_shape : shape_in (types.Struct (f ∷ fs)) ≡ shape.Struct (map field_shape (f ∷ fs))
    structure_shape = ap shape_in (sym (types.rolls-Struct (f ∷ fs))) ∙ fold-roll-ElanType _ _ _ _ (Struct (f ∷ fs))

    by_test : (b : Bool) → IsSized (if b then types.Open else or_open (types.Struct (f ∷ fs)))
    by_test true = open_sized
    by_test false =
        large_or (types.Struct (f ∷ fs)) (ap is_sized structure_shape ∙ sized_struct (map field_shape (f ∷ fs)) ∙ all_sized (f ∷ fs) h)

size_many : (z : ℤ) (k : ℕ) → size_in z ≡ Some k → is_many k ≡ true
size_many (pos zero) k e = absurd cc
size_many (pos (suc n)) k e = by_test (nat_le 1 (suc n) && nat_le (suc n) 16384) e
  where
    by_test : (b : Bool) → (if b then Some (suc n) else None) ≡ Some k → is_many k ≡ true
    by_test true h = let i : suc n ≡ k = cc in ap is_many (sym i)
    by_test false h = absurd cc
size_many (negsuc n) k e = absurd cc

-- ---- what is written

module _ (l : Looks) (sized : SizedBy l) where
  abbrev Holds : TypePhrase → Type 0
  Holds of = (inside : Bool) → IsSized (meant l of inside)

  abbrev AllHold : Field → Type 0
  AllHold f = AllSized (fields_meant l f)

  abbrev Held : Type 0
  Held = (of : TypePhrase) × Holds of

  abbrev AllHeld : Type 0
  AllHeld = (f : Field) × AllHold f

  named_sized : (x : List ℕ) → IsSized (type_named (l x))
  named_sized x = by_found (l x) refl
    where
      by_found : (o : Option Named) → l x ≡ o → IsSized (type_named o)
      by_found None i = open_sized
      by_found (Some (named.Of t)) i = sized x t i
      by_found (Some (named.Size k)) i = open_sized
      by_found (Some named.Other) i = open_sized

  many : (s : Size) (k : ℕ) → size_of l s ≡ Some k → is_many k ≡ true
  many (size.Number at n) k e = size_many n k e
  many (size.Named n) k e = by_found (l n.text) e
    where
      by_found : (o : Option Named) → size_named o ≡ Some k → is_many k ≡ true
      by_found None h = absurd cc
      by_found (Some (named.Of t)) h = absurd cc
      by_found (Some (named.Size i)) h = size_many i k h
      by_found (Some named.Other) h = absurd cc

  fields_held : (fs : List AllHeld) → AllSized (flat_map (λ xs. xs) (map (fields_meant l) (map (λ e. e.0) fs)))
  fields_held [] = tt
  fields_held (f ∷ fs) = all_append (fields_meant l f.0) (flat_map (λ xs. xs) (map (fields_meant l) (map (λ e. e.0) fs))) f.1 (fields_held fs)

  held_here : (y : TypePhrase-F Held AllHeld) (inside : Bool)
      → IsSized (meant_step l (map-TypePhrase _ _ _ _ (meant l) (fields_meant l) (map-TypePhrase _ _ _ _ (λ e. e.0) (λ e. e.0) y)) inside)
  held_here (phrase.Int at) inside = kind_sized kinds.Int
  held_here (phrase.Bool at) inside = kind_sized kinds.Truth
  held_here (phrase.Text at) inside = kind_sized kinds.Text
  held_here (phrase.Task at) inside = kind_sized kinds.Task
  held_here (phrase.Dataspace at) true = open_sized
  held_here (phrase.Dataspace at) false = kind_sized kinds.Space
  held_here (phrase.Named n) inside = named_sized n.text
  held_here (phrase.Row at s of) inside = row_sized (size_of l s) (meant l of.0 true) (many s) (of.1 true)
  held_here (phrase.Struct at fs) inside = structure_sized _ (fields_held fs)

  alike_held : (t : ElanType) (ns : List Name) → IsSized t → AllSized (named_alike t ns)
  alike_held t [] e = tt
  alike_held t (n ∷ ns) e = (e, alike_held t ns e)

  pub meant_sized : (of : TypePhrase) (inside : Bool) → IsSized (meant l of inside)
  meant_sized =
      ind-TypePhrase Holds AllHold
      (λ x y is.
      let z = map-TypePhrase _ _ _ _ (λ e. e.0) (λ e. e.0) y in
      rw (← is) (λ inside.
      subst (λ (t : Bool → ElanType). IsSized (t inside))
      (sym (fold-roll-TypePhrase (Bool → ElanType) (List FieldType) (meant_step l) (fields_step l) z)) (held_here y inside)))
      (λ x y is.
      let z = map-Field _ _ _ _ (λ e. e.0) (λ e. e.0) y in
      rw (← is) (subst AllSized (sym (fold-roll-Field (Bool → ElanType) (List FieldType) (meant_step l) (fields_step l) z))
      (alike_held (meant l y.of.0 true) y.names (y.of.1 true))))

  own_sized : (n : ℕ) (t : ElanType) → IsSized t → IsSized (made n t)
  own_sized n t e = by_test (is_open t)
    where
      own_shape : shape_in (types.Own n t) ≡ shape_in t
      own_shape = ap shape_in (sym (types.rolls-Own n t)) ∙ fold-roll-ElanType _ _ _ _ (Own n t)

      by_test : (b : Bool) → IsSized (if b then types.Open else types.Own n t)
      by_test true = open_sized
      by_test false = (ap is_sized own_shape ∙ e.0, ap (λ (s : Shape). cells_fit (length (cell_kinds s))) own_shape ∙ e.1)

  defined_sized : (first n : ℕ) (w : Defined) (t : ElanType) → as_defined first l n w ≡ named.Of t → IsSized t
  defined_sized first n (defined.Abbreviation of) t e = let i : meant l of true ≡ t = cc in subst IsSized i (meant_sized of true)
  defined_sized first n (defined.New of) t e =
      let i : made (first + n) (meant l of true) ≡ t = cc in
      subst IsSized i (own_sized (first + n) (meant l of true) (meant_sized of true))
  defined_sized first n (defined.Number k) t e = absurd cc
  defined_sized first n defined.Other t e = absurd cc

-- ---- names

pub type_sized : (ts : List TypeName) → SizedNames ts → (of : TypePhrase) (inside : Bool) → IsSized (meant (look ts) of inside)
type_sized ts sized of inside = meant_sized (look ts) sized of inside

pub none_sized : SizedNames []
none_sized x t e = absurd cc

module _ (first : ℕ) (around : List TypeName) (ds : List Definition) (sized : SizedNames around) where
  found_sized : (l : Looks) → SizedBy l → (o : Option (ℕ × Definition)) (q : Option Named) → ((t : ElanType) → q ≡ Some (named.Of t) → IsSized t)
      → (t : ElanType) → by_definition first l o q ≡ Some (named.Of t) → IsSized t
  found_sized l h None q k t e = k t e
  found_sized l h (Some f) q k t e = let i : as_defined first l f.0 f.1.what ≡ named.Of t = cc in defined_sized l h first f.0 f.1.what t i

  denoted_sized : (n : ℕ) → SizedBy (denoted first around ds n)
  denoted_sized zero x t e = found_sized (λ y. None) (λ y u i. absurd cc) (first_from 0 ds x) (look around x) (sized x) t e
  denoted_sized (suc n) x t e = found_sized (denoted first around ds n) (denoted_sized n) (first_from 0 ds x) (look around x) (sized x) t e

  pub names_sized : SizedNames (names_of first around ds)
  names_sized x t e =
      found_sized (denoted first around ds (length ds)) (denoted_sized (length ds)) (first_from 0 ds x) None (λ u i. absurd cc) t
      (sym (names_denote first around ds x) ∙ e)

  pub seen_sized : SizedNames (names_of first around ds ++ around)
  seen_sized x t e = by_own (look (names_of first around ds) x) refl (sym (look_both x (names_of first around ds) around) ∙ e)
    where
      by_own : (o : Option Named) → look (names_of first around ds) x ≡ o → option_or o (look around x) ≡ Some (named.Of t) → IsSized t
      by_own None i k = sized x t k
      by_own (Some m) i k = names_sized x t (i ∙ k)
