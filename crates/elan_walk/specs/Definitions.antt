-- What the names of a level or a body are defined to be, as far as types are written with them.
use Rattle.std.specs.Prelude.{ℕ, ◌+◌, List, [], ◌∷◌, ◌++◌, flat_map, Option, Some, None, if◌then◌else◌}
use Rattle.std.specs.Str.{bytes_eq}
use Rattle.elan_tree.specs.declared.written_type.Name.{Name}
use Rattle.elan_tree.specs.declared.written_type.Constant.{Constant}
use Rattle.elan_tree.specs.declared.written_type.Constant.TheVariants as constant
use Rattle.elan_tree.specs.declared.written_type.Formal.{Formal}
use Rattle.elan_tree.specs.declared.phrase.Unit.{Unit as Statement}
use Rattle.elan_tree.specs.declared.tree.Body.{Body}
use Rattle.elan_tree.specs.declared.tree.Refinement.{Refinement}
use Rattle.elan_tree.specs.declared.tree.Level.{Level}
use Rattle.elan_tree.specs.declared.tree.LevelUnit.{LevelUnit}
use Rattle.elan_tree.specs.declared.tree.LevelUnit.TheVariants as level
use Rattle.elan_walk.specs.Nodes as nodes
use Rattle.elan_walk.specs.Nodes.{Node, item, let_name, abbreviation, new_type}
use Rattle.elan_walk.specs.declared.definition.Defined.{Defined}
use Rattle.elan_walk.specs.declared.definition.Defined.TheVariants as defined
use Rattle.elan_walk.specs.declared.definition.Definition.{Definition}

abbrev pub definition : Name → Defined → List Definition
definition n d = record { at = n.at; name_at = n.at; name = n.text; what = d } ∷ []

abbrev pub other : Name → List Definition
other n = definition n defined.Other

-- what LET gives a name to
abbrev pub constant_defined : Constant → Defined
constant_defined (constant.Number at n) = defined.Number n
constant_defined _ = defined.Other

-- LET gives a name to a number or a type, and TYPE to a type of its own. A name that is declared otherwise hides these
abbrev pub defined_by : Node → List Definition
defined_by (abbreviation n of) = definition n (defined.Abbreviation of)
defined_by (new_type at n of) = record { at = at; name_at = n.at; name = n.text; what = defined.New of } ∷ []
defined_by (let_name n c) = definition n (constant_defined c)
defined_by (item held of n) = other n
defined_by _ = []

abbrev pub in_units : List Statement → List Definition
in_units us = flat_map defined_by (nodes.in_units us)

abbrev pub parameter_definitions : List Formal → List Definition
parameter_definitions fs = flat_map (λ f. flat_map other f.names) fs

-- the names of refinements, and what is declared in them
abbrev pub refinement_definitions : List Refinement → List Definition
refinement_definitions rs = flat_map (λ r. other r.name ++ in_units r.units) rs

-- what is declared in refinements
abbrev pub in_refinements : List Refinement → List Definition
in_refinements rs = flat_map (λ r. in_units r.units) rs

-- the names of parameters, of what stands in the units, and of refinements
abbrev pub body_definitions : List Formal → Body → List Definition
body_definitions fs b = parameter_definitions fs ++ in_units b.units ++ refinement_definitions b.refinements

-- A PROC without parameters is known by its name alone.
abbrev pub procedure_definition : Name → List Formal → List Definition
procedure_definition n [] = other n
procedure_definition n (f ∷ fs) = []

abbrev pub unit_definitions : LevelUnit → List Definition
unit_definitions (level.Plain u) = flat_map defined_by (nodes.in_unit u)
unit_definitions (level.NewType at n of) = defined_by (new_type at n of)
unit_definitions (level.Proc at r n fs b) = procedure_definition n fs
unit_definitions (level.Op at r n fs b) = []

-- Refinements of a level are for its own units alone, and hide nothing.
abbrev pub level_definitions : Level → List Definition
level_definitions l = flat_map unit_definitions l.units ++ in_refinements l.refinements

-- the first definition of a name, with its number, where the first of these has number n
abbrev pub first_from : ℕ → List Definition → List ℕ → Option (ℕ × Definition)
first_from n [] x = None
first_from n (d ∷ ds) x = if bytes_eq d.name x then Some (n, d) else first_from (n + 1) ds x
