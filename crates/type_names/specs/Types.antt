-- What names and types as they are written denote.
use Rattle.std.specs.Prelude.{ℕ, zero, suc, ◌+◌, ℤ, pos, negsuc, Bool, true, false, ◌&&◌, ◌||◌, List, [], ◌∷◌, ◌++◌, map, flat_map, length, Option, Some, None}
use Rattle.std.specs.Prelude.{option_map, if◌then◌else◌, nat_le}
use Rattle.std.specs.List.{list_any}
use Rattle.std.specs.Str.{bytes_eq}
use Rattle.elan_types.specs.declared.elan_type.ElanType.{ElanType}
use Rattle.elan_types.specs.declared.elan_type.ElanType.TheVariants as types
use Rattle.elan_types.specs.declared.elan_type.FieldType.{FieldType}
use Rattle.elan_types.specs.Types.{is_open, is_too_large}
use Rattle.elan_tree.specs.declared.written_type.TypePhrase.{TypePhrase}
use Rattle.elan_tree.specs.declared.written_type.TypePhrase.TheOpen as phrase
use Rattle.elan_tree.specs.declared.written_type.TypePhrase.TheOpen.{TypePhrase-F, Field-F}
use Rattle.elan_tree.specs.declared.written_type.TypePhrase.TheFolds.{fold-TypePhrase, fold-Field}
use Rattle.elan_tree.specs.declared.written_type.Field.{Field}
use Rattle.elan_tree.specs.declared.written_type.Size.{Size}
use Rattle.elan_tree.specs.declared.written_type.Size.TheVariants as size
use Rattle.elan_tree.specs.declared.written_type.Formal.{Formal}
use Rattle.elan_tree.specs.declared.tree.Body.{Body}
use Rattle.elan_tree.specs.declared.tree.Level.{Level}
use Rattle.elan_names.specs.declared.type_name.TypeName.{TypeName}
use Rattle.elan_names.specs.declared.type_name.Named.{Named}
use Rattle.elan_names.specs.declared.type_name.Named.TheVariants as named
use Rattle.elan_names.specs.Types.{first_type, type_of}
use Rattle.elan_walk.specs.declared.definition.Defined.{Defined}
use Rattle.elan_walk.specs.declared.definition.Defined.TheVariants as defined
use Rattle.elan_walk.specs.declared.definition.Definition.{Definition}
pub use Rattle.elan_walk.specs.Definitions.{defined_by, in_units, parameter_definitions, refinement_definitions, in_refinements}
pub use Rattle.elan_walk.specs.Definitions.{body_definitions, unit_definitions, level_definitions, first_from}

-- ---- types as they are written

-- The size of a row is a number from 1 to 16,384.
abbrev pub size_in : ℤ → Option ℕ
size_in (pos n) = if nat_le 1 n && nat_le n 16384 then Some n else None
size_in (negsuc n) = None

-- an identifier as a size names a LET of a number
abbrev pub size_named : Option Named → Option ℕ
size_named (Some (named.Size n)) = size_in n
size_named _ = None

-- A type that is too large has no meaning.
abbrev pub or_open : ElanType → ElanType
or_open t = if is_too_large t then types.Open else t

-- A row has a meaning where its size and the type of its items have one.
abbrev pub row_of : Option ℕ → ElanType → ElanType
row_of None t = types.Open
row_of (Some n) t = if is_open t then types.Open else or_open (types.Row n t)

-- two of these names are equal
abbrev pub any_doubled : List (List ℕ) → Bool
any_doubled [] = false
any_doubled (x ∷ xs) = list_any (λ y. bytes_eq y x) xs || any_doubled xs

-- the type of a field has no meaning, or two names are equal
abbrev pub is_broken : List FieldType → Bool
is_broken fs = list_any (λ f. is_open f.of) fs || any_doubled (map (λ f. f.name) fs)

-- A structure has a meaning where it has fields, their types have a meaning, and their names differ.
abbrev pub structure_of : List FieldType → ElanType
structure_of [] = types.Open
structure_of (f ∷ fs) = if is_broken (f ∷ fs) then types.Open else or_open (types.Struct (f ∷ fs))

-- the type that a name denotes; open where it denotes none
abbrev pub type_named : Option Named → ElanType
type_named None = types.Open
type_named (Some n) = type_of n

-- Where names denote this, a type is written alone, or inside another one, for a name of a type or for the content of a data space; there
-- DATASPACE has no meaning.
module _ (look : List ℕ → Option Named) where
  abbrev pub size_of : Size → Option ℕ
  size_of (size.Number at n) = size_in n
  size_of (size.Named n) = size_named (look n.text)

  abbrev pub meant_step : TypePhrase-F (Bool → ElanType) (List FieldType) → Bool → ElanType
  meant_step (phrase.Int at) inside = types.Int
  meant_step (phrase.Bool at) inside = types.Bool
  meant_step (phrase.Text at) inside = types.Text
  meant_step (phrase.Task at) inside = types.Task
  meant_step (phrase.Dataspace at) inside = if inside then types.Open else types.Dataspace
  meant_step (phrase.Named n) inside = type_named (look n.text)
  meant_step (phrase.Row at size t) inside = row_of (size_of size) (t true)
  meant_step (phrase.Struct at fields) inside = structure_of (flat_map (λ fs. fs) fields)

  -- fields of one type
  abbrev pub fields_step : Field-F (Bool → ElanType) (List FieldType) → List FieldType
  fields_step f = map (λ n. record { name = n.text; of = f.of true }) f.names

  -- the type that is written, inside another one or not; open where it has no meaning
  abbrev pub meant : TypePhrase → Bool → ElanType
  meant = fold-TypePhrase (Bool → ElanType) (List FieldType) meant_step fields_step

  abbrev pub fields_meant : Field → List FieldType
  fields_meant = fold-Field (Bool → ElanType) (List FieldType) meant_step fields_step

-- what a name denotes where these are declared
abbrev pub look : List TypeName → List ℕ → Option Named
look ts x = option_map (λ t. t.of) (first_type x ts)

abbrev pub type_in : List TypeName → TypePhrase → ElanType
type_in ts of = meant (look ts) of false

-- the type that is written for a name of a type, or for the content of a data space
abbrev pub type_within : List TypeName → TypePhrase → ElanType
type_within ts of = meant (look ts) of true

-- ---- what names denote

-- An own type has its number, and its concrete type. Where that is open, it is too.
abbrev pub made : ℕ → ElanType → ElanType
made n t = if is_open t then types.Open else types.Own n t

-- where own types are numbered from this number on
module _ (first : ℕ) where
  abbrev pub as_defined : (List ℕ → Option Named) → ℕ → Defined → Named
  as_defined look n (defined.Abbreviation of) = named.Of (meant look of true)
  as_defined look n (defined.New of) = named.Of (made (first + n) (meant look of true))
  as_defined look n (defined.Number k) = named.Size k
  as_defined look n defined.Other = named.Other

  abbrev pub by_definition : (List ℕ → Option Named) → Option (ℕ × Definition) → Option Named → Option Named
  by_definition look None around = around
  by_definition look (Some f) around = Some (as_defined look f.0 f.1.what)

  -- where these names are declared around, and these definitions stand here
  module _ (around : List TypeName) (ds : List Definition) where
    -- what a name denotes over at most so many further names. What leads to itself denotes nothing
    abbrev pub denoted : ℕ → List ℕ → Option Named
    denoted zero x = by_definition (λ y. None) (first_from 0 ds x) (look around x)
    denoted (suc n) x = by_definition (denoted n) (first_from 0 ds x) (look around x)

    abbrev pub type_name : ℕ → Definition → TypeName
    type_name n d = record { at = d.name_at; name = d.name; of = as_defined (denoted (length ds)) n d.what }

    abbrev pub names_from : ℕ → List Definition → List TypeName
    names_from n [] = []
    names_from n (d ∷ rest) = type_name n d ∷ names_from (n + 1) rest

  -- the names that definitions declare, where these are declared around
  abbrev pub names_of : List TypeName → List Definition → List TypeName
  names_of around ds = names_from around ds 0 ds

  -- the names of types that can be seen in a level: its own, and those around
  abbrev pub level_types : List TypeName → Level → List TypeName
  level_types around l = names_of around (level_definitions l) ++ around

-- those that a PROC or OP declares, where these are declared around; it makes no types of its own
abbrev pub body_types : List TypeName → List Formal → Body → List TypeName
body_types around fs b = names_of 0 around (body_definitions fs b)
