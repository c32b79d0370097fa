-- Which rules types break.
use Rattle.std.specs.Prelude.{ℕ, ℤ, Bool, true, false, not, ◌==◌, ◌&&◌, ◌||◌, List, [], ◌∷◌, ◌++◌, map, flat_map, length, Option, Some, None, option_map, option_to_list}
use Rattle.std.specs.Prelude.{slice_get, if◌then◌else◌}
use Rattle.std.specs.List.{list_any}
use Rattle.std.specs.Option.{is_some}
use Rattle.std.specs.Str.{bytes_eq}
use Rattle.call_graph.specs.Chains.{leads}
use Rattle.elan_types.specs.declared.elan_type.ElanType.{ElanType}
use Rattle.elan_types.specs.declared.elan_type.ElanType.TheVariants as types
use Rattle.elan_types.specs.declared.elan_type.FieldType.{FieldType}
use Rattle.elan_types.specs.Types.{is_open, is_too_large}
use Rattle.elan_types.specs.declared.why.Why.TheVariants.{Unknown, Doubled, WrongType, WrongPlace, TooLarge}
use Rattle.elan_tree.specs.declared.written_type.TypePhrase.{TypePhrase}
use Rattle.elan_tree.specs.declared.written_type.TypePhrase.TheOpen as phrase
use Rattle.elan_tree.specs.declared.written_type.TypePhrase.TheOpen.{TypePhrase-F, Field-F}
use Rattle.elan_tree.specs.declared.written_type.TypePhrase.TheFolds.{fold-TypePhrase, fold-Field}
use Rattle.elan_tree.specs.declared.written_type.Field.{Field}
use Rattle.elan_tree.specs.declared.written_type.Formal.{Formal}
use Rattle.elan_tree.specs.declared.written_type.Name.{Name}
use Rattle.elan_tree.specs.declared.written_type.Size.{Size}
use Rattle.elan_tree.specs.declared.written_type.Size.TheVariants as size
use Rattle.elan_tree.specs.declared.tree.Body.{Body}
use Rattle.elan_tree.specs.declared.tree.Refinement.{Refinement}
use Rattle.elan_tree.specs.declared.tree.Level.{Level}
use Rattle.elan_tree.specs.declared.tree.LevelUnit.{LevelUnit}
use Rattle.elan_tree.specs.declared.tree.LevelUnit.TheVariants as level
use Rattle.elan_walk.specs.Nodes as nodes
use Rattle.elan_walk.specs.declared.node.Held.{Held}
use Rattle.elan_walk.specs.declared.node.Held.TheVariants.{Bound}
use Rattle.elan_walk.specs.Nodes.{Node, of_type, content, item, abbreviation, new_type}
use Rattle.elan_names.specs.declared.heading.Sort.TheVariants.{Procedure}
use Rattle.elan_names.specs.declared.type_name.TypeName.{TypeName}
use Rattle.elan_names.specs.declared.type_name.Named.{Named}
use Rattle.elan_names.specs.declared.type_name.Named.TheVariants as named
use Rattle.elan_names.specs.Predefined.{predefined}
use Rattle.elan_scope.specs.Scope.{first, has_as_many, predefined_callable}
use Rattle.elan_scope.specs.Ruled.{Fault}
use Rattle.elan_walk.specs.declared.definition.Defined.{Defined}
use Rattle.elan_walk.specs.declared.definition.Defined.TheVariants as defined
use Rattle.elan_walk.specs.declared.definition.Definition.{Definition}
use Rattle.type_names.specs.Types.{first_from, names_of, level_definitions, body_definitions, look, type_named, size_in, size_of, row_of, structure_of}
use Rattle.type_names.specs.Types.{is_broken}

-- ---- which definitions each names

-- the names of types that are written in a type, in text order
abbrev pub named_step : TypePhrase-F (List (List ℕ)) (List (List ℕ)) → List (List ℕ)
named_step (phrase.Named n) = n.text ∷ []
named_step (phrase.Row at size xs) = xs
named_step (phrase.Struct at fields) = flat_map (λ xs. xs) fields
named_step _ = []

abbrev pub field_named_step : Field-F (List (List ℕ)) (List (List ℕ)) → List (List ℕ)
field_named_step f = f.of

abbrev pub named_in : TypePhrase → List (List ℕ)
named_in = fold-TypePhrase (List (List ℕ)) (List (List ℕ)) named_step field_named_step

abbrev pub named_in_field : Field → List (List ℕ)
named_in_field = fold-Field (List (List ℕ)) (List (List ℕ)) named_step field_named_step

-- the definition whose name is written
abbrev pub number_named : List Definition → List ℕ → Option ℕ
number_named ds x = option_map (λ f. f.0) (first_from 0 ds x)

abbrev pub numbers_named : List Definition → List (List ℕ) → List ℕ
numbers_named ds xs = flat_map (λ x. option_to_list (number_named ds x)) xs

abbrev pub names_in : Defined → List (List ℕ)
names_in (defined.Abbreviation of) = named_in of
names_in (defined.New of) = named_in of
names_in _ = []

-- the definitions that each names
abbrev pub calls : List Definition → List (List ℕ)
calls ds = map (λ d. numbers_named ds (names_in d.what)) ds

-- A definition that names these leads back to the one with this number: its type contains itself.
abbrev pub comes_back : List (List ℕ) → List ℕ → ℕ → Bool
comes_back calls ms n = list_any (λ m. leads (length calls) calls m n) ms

-- what is known of types where a phrase stands: all names that can be seen, the definitions that stand here, which of them each names, and
-- the refinements of the level, where the phrase stands in the level
pub record Here : Type 0 where
  pub seen : List TypeName
  pub definitions : List Definition
  pub calls : List (List ℕ)
  pub refinements : List Refinement

abbrev pub here : ℕ → List TypeName → List Definition → List Refinement → Here
here first around ds rs = record { seen = names_of first around ds ++ around; definitions = ds; calls = calls ds; refinements = rs }

-- ---- types as they are written

-- a type as it is written: what it means, and its faults in text order
pub record Judged : Type 0 where
  pub of : ElanType
  pub faults : List Fault

-- fields of one type: what they are, and the faults of the type
pub record JudgedFields : Type 0 where
  pub fields : List FieldType
  pub names : List Name
  pub faults : List Fault

-- DATASPACE stands in a wrong place inside another type, for a name of a type, and behind BOUND.
abbrev pub space_judged : ℕ → Bool → Judged
space_judged at inside =
    if inside then record { of = types.Open; faults = (at, WrongPlace) ∷ [] } else record { of = types.Dataspace; faults = [] }

-- What has a meaning in all its parts may be too large.
abbrev pub large_fault : ℕ → Bool → ElanType → List Fault
large_fault at sound t = if sound && is_too_large t then (at, TooLarge) ∷ [] else []

abbrev pub row_fault : ℕ → Option ℕ → ElanType → List Fault
row_fault at None t = []
row_fault at (Some n) t = large_fault at (not (is_open t)) (types.Row n t)

-- No text has a structure without fields.
abbrev pub structure_fault : ℕ → List FieldType → List Fault
structure_fault at [] = (at, Unknown) ∷ []
structure_fault at (f ∷ fs) = large_fault at (not (is_broken (f ∷ fs))) (types.Struct (f ∷ fs))

-- The second of two equal names of fields is doubled. These stand before
abbrev pub doubled_name : List (List ℕ) → Name → List Fault
doubled_name earlier n = if list_any (λ x. bytes_eq x n.text) earlier then (n.at, Doubled) ∷ [] else []

abbrev pub doubled_names : List (List ℕ) → List Name → List Fault
doubled_names earlier [] = []
doubled_names earlier (n ∷ ns) = doubled_name earlier n ++ doubled_names (earlier ++ n.text ∷ []) ns

-- the faults of fields in text order: of each its type's, and of names that were there before
abbrev pub fields_faults : List (List ℕ) → List JudgedFields → List Fault
fields_faults earlier [] = []
fields_faults earlier (f ∷ fs) = f.faults ++ doubled_names earlier f.names ++ fields_faults (earlier ++ map (λ n. n.text) f.names) fs

abbrev pub size_range : ℕ → ℤ → List Fault
size_range at n = if is_some (size_in n) then [] else (at, TooLarge) ∷ []

-- where these names can be seen, and these are the refinements of the level that the phrase stands in
module _ (seen : List TypeName) (refinements : List Refinement) where
  -- a name that no definition gives: that of a refinement, or of a predefined procedure without parameters
  abbrev pub is_known : List ℕ → Bool
  is_known x = list_any (λ r. bytes_eq r.name.text x) refinements || is_some (first (has_as_many Procedure x (Some 0)) (map predefined_callable predefined))

  -- An identifier as a size names a LET of a number.
  abbrev pub size_named_fault : Name → Option Named → List Fault
  size_named_fault n None = if is_known n.text then (n.at, WrongType) ∷ [] else (n.at, Unknown) ∷ []
  size_named_fault n (Some (named.Size k)) = size_range n.at k
  size_named_fault n (Some _) = (n.at, WrongType) ∷ []

  abbrev pub size_faults : Size → List Fault
  size_faults (size.Number at n) = size_range at n
  size_faults (size.Named n) = size_named_fault n (look seen n.text)

  -- A name that denotes no type is unknown.
  abbrev pub name_faults : Name → Option Named → List Fault
  name_faults n (Some (named.Of t)) = []
  name_faults n _ = (n.at, Unknown) ∷ []

  abbrev pub name_judged : Name → Judged
  name_judged n = record { of = type_named (look seen n.text); faults = name_faults n (look seen n.text) }

  abbrev pub judged_step : TypePhrase-F (Bool → Judged) JudgedFields → Bool → Judged
  judged_step (phrase.Int at) inside = record { of = types.Int; faults = [] }
  judged_step (phrase.Bool at) inside = record { of = types.Bool; faults = [] }
  judged_step (phrase.Text at) inside = record { of = types.Text; faults = [] }
  judged_step (phrase.Task at) inside = record { of = types.Task; faults = [] }
  judged_step (phrase.Dataspace at) inside = space_judged at inside
  judged_step (phrase.Named n) inside = name_judged n
  judged_step (phrase.Row at size t) inside =
      let u = t true in
      record { of = row_of (size_of (look seen) size) u.of; faults = row_fault at (size_of (look seen) size) u.of ++ size_faults size ++ u.faults }
  judged_step (phrase.Struct at fields) inside =
      let fs = flat_map (λ f. f.fields) fields in record { of = structure_of fs; faults = structure_fault at fs ++ fields_faults [] fields }

  abbrev pub judged_fields_step : Field-F (Bool → Judged) JudgedFields → JudgedFields
  judged_fields_step f =
      let t = f.of true in record { fields = map (λ n. record { name = n.text; of = t.of }) f.names; names = f.names; faults = t.faults }

  -- inside another type, or not
  abbrev pub judged : TypePhrase → Bool → Judged
  judged = fold-TypePhrase (Bool → Judged) JudgedFields judged_step judged_fields_step

  abbrev pub judged_fields : Field → JudgedFields
  judged_fields = fold-Field (Bool → Judged) JudgedFields judged_step judged_fields_step

-- The type of what BOUND variables stand for is as if it stood inside another.
abbrev pub is_inside : Held → Bool
is_inside Bound = true
is_inside _ = false

module _ (h : Here) where
  abbrev pub written_faults : TypePhrase → Bool → List Fault
  written_faults of inside = (judged h.seen h.refinements of inside).faults

  -- ---- definitions

  -- Whether the definition at this place contains itself. The second of two equal names is none that a name could lead to.
  abbrev pub contains_itself : ℕ → TypePhrase → ℕ × Definition → Bool
  contains_itself at of f = (f.1.at == at) && comes_back h.calls (numbers_named h.definitions (named_in of)) f.0

  -- A definition whose type contains itself stands in a wrong place.
  abbrev pub named_faults : ℕ → TypePhrase → Option (ℕ × Definition) → List Fault
  named_faults at of None = []
  named_faults at of (Some f) = if contains_itself at of f then (at, WrongPlace) ∷ [] else []

  -- It is asked for where all that is written for it has a meaning.
  abbrev pub or_named : List Fault → List Fault → List Fault
  or_named [] fs = fs
  or_named (f ∷ fs) gs = f ∷ fs

  abbrev pub definition_faults : ℕ → Name → TypePhrase → List Fault
  definition_faults at n of = or_named (written_faults of true) (named_faults at of (first_from 0 h.definitions n.text))

  abbrev pub node_faults : Node → List Fault
  node_faults (of_type of) = written_faults of false
  node_faults (content of) = written_faults of true
  node_faults (item held of n) = written_faults of (is_inside held)
  node_faults (abbreviation n of) = definition_faults n.at n of
  node_faults (new_type at n of) = definition_faults at n of
  node_faults _ = []

  abbrev pub nodes_faults : List Node → List Fault
  nodes_faults ns = flat_map node_faults ns

-- ---- a level

-- where own types are numbered from this number on, and these names are declared around
module _ (first : ℕ) (around : List TypeName) where
  -- A heading is read in the level, and a body in its own scope.
  abbrev pub routine_faults : List Definition → List Refinement → Option TypePhrase → List Formal → Body → List Fault
  routine_faults ds rs r fs b =
      nodes_faults (here first around ds rs) (nodes.result r ++ nodes.formals fs)
      ++ nodes_faults (here 0 (names_of first around ds ++ around) (body_definitions fs b) []) (nodes.in_units b.units ++ nodes.refinements b.refinements)

  abbrev pub unit_faults : List Definition → List Refinement → LevelUnit → List Fault
  unit_faults ds rs (level.Plain u) = nodes_faults (here first around ds rs) (nodes.in_unit u)
  unit_faults ds rs (level.NewType at n of) = nodes_faults (here first around ds rs) (new_type at n of ∷ [])
  unit_faults ds rs (level.Proc at r n fs b) = routine_faults ds rs r fs b
  unit_faults ds rs (level.Op at r n fs b) = routine_faults ds rs r fs b

  -- the faults of types in a level, in text order
  abbrev pub level_faults : Level → List Fault
  level_faults l =
      let ds = level_definitions l in
      flat_map (unit_faults ds l.refinements) l.units ++ nodes_faults (here first around ds l.refinements) (nodes.refinements l.refinements)

abbrev pub first_fault : List Fault → Option Fault
first_fault fs = slice_get fs 0
