-- The types of a text, and the kinds of their cells.
use Rattle.std.specs.Prelude.{ℕ, ◌+◌, ◌*◌, nat_le, nat_lt, Bool, true, false, ◌&&◌, ◌||◌, ◌==◌, if◌then◌else◌, List, [], ◌∷◌, ◌++◌, map, sum, Option, Some, None}
use Rattle.std.specs.List.{list_any}
use Rattle.std.specs.Str.{bytes_eq}
use Rattle.eu_base.specs.declared.value.Kind.{Kind}
use Rattle.eu_base.specs.declared.value.Kind.TheVariants as kinds
use Rattle.eu_base.specs.declared.request.RequestName.{RequestName}
use Rattle.eu_base.specs.Requests.{request_kinds, request_places}
use Rattle.elan_types.specs.declared.elan_type.ElanType.{ElanType}
use Rattle.elan_types.specs.declared.elan_type.ElanType.TheVariants as types
use Rattle.elan_types.specs.declared.elan_type.ElanType.TheOpen.{ElanType-F, FieldType-F, Int, Bool as Truths, Text, Task, Dataspace, Row, Struct, Own, Open}
use Rattle.elan_types.specs.declared.elan_type.ElanType.TheViews.{out-ElanType}
use Rattle.elan_types.specs.declared.elan_type.ElanType.TheFolds.{fold-ElanType, fold-FieldType}
use Rattle.elan_types.specs.declared.elan_type.FieldType.{FieldType}
use Rattle.elan_types.specs.declared.elan_type.Parameter.{Parameter}
use Rattle.elan_types.specs.declared.core_phrase.Access.TheVariants.{Const, Var}
use Rattle.elan_types.specs.declared.core_phrase.Formal.{Formal}
use Rattle.eu_base.specs.declared.shape.Shape.{Shape}
use Rattle.eu_base.specs.declared.shape.Shape.TheVariants as shape
use Rattle.elan_types.specs.Typing.{formal}

-- ---- sameness

-- the fields of two structures, where these are told to be the same as the one's
abbrev pub are_same : List (FieldType → Bool) → List FieldType → Bool
are_same [] [] = true
are_same (f ∷ fs) (t ∷ ts) = f t && are_same fs ts
are_same _ _ = false

-- two types are the same tree; rows and structures have equal sizes, names of fields and parts
abbrev pub same_here : ElanType-F (ElanType → Bool) (FieldType → Bool) → ElanType-F ElanType FieldType → Bool
same_here Int Int = true
same_here Truths Truths = true
same_here Text Text = true
same_here Task Task = true
same_here Dataspace Dataspace = true
same_here (Row n f) (Row m t) = n == m && f t
same_here (Struct fs) (Struct ts) = are_same fs ts
same_here (Own n f) (Own m t) = n == m && f t
same_here Open Open = true
same_here _ _ = false

abbrev pub same_step : ElanType-F (ElanType → Bool) (FieldType → Bool) → ElanType → Bool
same_step y t = same_here y (out-ElanType t)

abbrev pub same_field_step : FieldType-F (ElanType → Bool) (FieldType → Bool) → FieldType → Bool
same_field_step y f = bytes_eq y.name f.name && y.of f.of

-- A type of the text's own is equal to itself alone, by its number.
abbrev pub same_type : ElanType → ElanType → Bool
same_type = fold-ElanType (ElanType → Bool) (FieldType → Bool) same_step same_field_step

abbrev pub same_field : FieldType → FieldType → Bool
same_field = fold-FieldType (ElanType → Bool) (FieldType → Bool) same_step same_field_step

-- ---- what a type is

-- What is written for it has no meaning.
abbrev pub open_here : ElanType-F ElanType FieldType → Bool
open_here Open = true
open_here _ = false

abbrev pub is_open : ElanType → Bool
is_open t = open_here (out-ElanType t)

abbrev pub own_here : ElanType-F ElanType FieldType → Bool
own_here (Own n t) = true
own_here _ = false

abbrev pub is_own : ElanType → Bool
is_own t = own_here (out-ElanType t)

-- the type that stands behind one of the text's own
abbrev pub concrete_here : ElanType-F ElanType FieldType → Option ElanType
concrete_here (Own n t) = Some t
concrete_here _ = None

abbrev pub concrete : ElanType → Option ElanType
concrete t = concrete_here (out-ElanType t)

-- a type of the text's own that has this number or a greater one, so that it is none of the types before
abbrev pub own_here_from : ℕ → ElanType-F ElanType FieldType → Bool
own_here_from first (Own n t) = nat_le first n
own_here_from first _ = false

abbrev pub is_own_from : ℕ → ElanType → Bool
is_own_from first t = own_here_from first (out-ElanType t)

-- ---- parts

-- the size of a row, and the type of its items
abbrev pub items_here : ElanType-F ElanType FieldType → Option (ℕ × ElanType)
items_here (Row n t) = Some (n, t)
items_here _ = None

abbrev pub items : ElanType → Option (ℕ × ElanType)
items t = items_here (out-ElanType t)

-- the number of cells: of a row so many times those of an item, of a structure those of all fields
abbrev pub cells_step : ElanType-F ℕ ℕ → ℕ
cells_step (Row n c) = n * c
cells_step (Struct cs) = sum cs
cells_step (Own n c) = c
cells_step _ = 1

abbrev pub cells_of_field_step : FieldType-F ℕ ℕ → ℕ
cells_of_field_step f = f.of

abbrev pub cells : ElanType → ℕ
cells = fold-ElanType ℕ ℕ cells_step cells_of_field_step

abbrev pub cells_of_field : FieldType → ℕ
cells_of_field = fold-FieldType ℕ ℕ cells_step cells_of_field_step

-- the field of a name, with the number of cells before it, where so many stand before the first of these
abbrev pub field_from : ℕ → List FieldType → List ℕ → Option (ℕ × ElanType)
field_from k [] x = None
field_from k (f ∷ fs) x = if bytes_eq f.name x then Some (k, f.of) else field_from (k + cells f.of) fs x

abbrev pub field_here : ElanType-F ElanType FieldType → List ℕ → Option (ℕ × ElanType)
field_here (Struct fs) x = field_from 0 fs x
field_here _ x = None

abbrev pub field : ElanType → List ℕ → Option (ℕ × ElanType)
field t x = field_here (out-ElanType t) x

-- the number of nodes of its shape
abbrev pub nodes_step : ElanType-F ℕ ℕ → ℕ
nodes_step (Row n c) = c + 1
nodes_step (Struct cs) = sum cs + 1
nodes_step (Own n c) = c
nodes_step _ = 1

abbrev pub nodes_of_field_step : FieldType-F ℕ ℕ → ℕ
nodes_of_field_step f = f.of

abbrev pub nodes : ElanType → ℕ
nodes = fold-ElanType ℕ ℕ nodes_step nodes_of_field_step

abbrev pub nodes_of_field : FieldType → ℕ
nodes_of_field = fold-FieldType ℕ ℕ nodes_step nodes_of_field_step

-- A type is of at most 16,384 cells, and its shape of at most 800 nodes.
abbrev pub is_too_large : ElanType → Bool
is_too_large t = nat_lt 16384 (cells t) || nat_lt 800 (nodes t)

-- one of the text's own is it, or occurs in it
abbrev pub has_own_step : ElanType-F Bool Bool → Bool
has_own_step (Row n b) = b
has_own_step (Struct bs) = list_any (λ b. b) bs
has_own_step (Own n b) = true
has_own_step _ = false

abbrev pub field_has_own_step : FieldType-F Bool Bool → Bool
field_has_own_step f = f.of

abbrev pub has_own : ElanType → Bool
has_own = fold-ElanType Bool Bool has_own_step field_has_own_step

abbrev pub field_has_own : FieldType → Bool
field_has_own = fold-FieldType Bool Bool has_own_step field_has_own_step

-- ---- shapes

-- the shape of a type's values; names of fields are dropped, and types of the text's own are unfolded
abbrev pub shape_step : ElanType-F Shape Shape → Shape
shape_step Int = shape.Cell kinds.Int
shape_step Truths = shape.Cell kinds.Truth
shape_step Text = shape.Cell kinds.Text
shape_step Task = shape.Cell kinds.Task
shape_step Dataspace = shape.Cell kinds.Space
shape_step (Row n s) = shape.Row n s
shape_step (Struct ss) = shape.Struct ss
shape_step (Own n s) = s
shape_step Open = shape.Cell kinds.Int

abbrev pub field_shape_step : FieldType-F Shape Shape → Shape
field_shape_step f = f.of

abbrev pub shape_in : ElanType → Shape
shape_in = fold-ElanType Shape Shape shape_step field_shape_step

abbrev pub field_shape : FieldType → Shape
field_shape = fold-FieldType Shape Shape shape_step field_shape_step

-- the type of what is predefined for cells of a kind
abbrev pub type_in : Kind → ElanType
type_in kinds.Int = types.Int
type_in kinds.Truth = types.Bool
type_in kinds.Text = types.Text
type_in kinds.Task = types.Task
type_in kinds.Space = types.Dataspace

-- what a core knows of a parameter
abbrev pub formal_of : Parameter → Formal
formal_of p = formal p.access (shape_in p.of)

abbrev pub held_const : ElanType → Parameter
held_const t = record { of = t; access = Const }

abbrev pub held_var : ElanType → Parameter
held_var t = record { of = t; access = Var }

-- what takes values of these kinds
abbrev pub values_of : List Kind → List Parameter
values_of kinds = map (λ k. held_const (type_in k)) kinds

-- a request takes values, and then variables
abbrev pub request_parameters : RequestName → List Parameter
request_parameters name = values_of (request_kinds name) ++ map (λ k. held_var (type_in k)) (request_places name)
