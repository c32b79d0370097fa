-- The PROCs, OPs and refinements of a level, numbered in text order, and the names that a level and a body declare.
use Rattle.std.specs.Prelude.{ℕ, suc, ◌+◌, List, [], ◌∷◌, ◌++◌, map, flat_map, length, Option, Some, None, option_map}
use Rattle.elan_types.specs.declared.elan_type.ElanType.{ElanType}
use Rattle.elan_types.specs.declared.core_phrase.Access.{Access}
use Rattle.elan_types.specs.declared.core_phrase.Access.TheVariants as held
use Rattle.elan_types.specs.declared.elan_type.Parameter.{Parameter}
use Rattle.elan_types.specs.declared.core_phrase.Scope.{Scope as Owner}
use Rattle.elan_types.specs.declared.core_phrase.Scope.TheVariants as owner
use Rattle.elan_types.specs.Types.{formal_of}
use Rattle.elan_tree.specs.declared.written_type.Name.{Name}
use Rattle.elan_tree.specs.declared.written_type.TypePhrase.{TypePhrase}
use Rattle.elan_tree.specs.declared.written_type.Access.{Access as Given}
use Rattle.elan_tree.specs.declared.written_type.Access.TheVariants.{Const, Var}
use Rattle.elan_tree.specs.declared.written_type.Formal.{Formal}
use Rattle.elan_tree.specs.declared.tree.Body.{Body}
use Rattle.elan_tree.specs.declared.tree.Refinement.{Refinement}
use Rattle.elan_tree.specs.declared.tree.Level.{Level}
use Rattle.elan_tree.specs.declared.tree.LevelUnit.{LevelUnit}
use Rattle.elan_tree.specs.declared.tree.LevelUnit.TheVariants as level
use Rattle.elan_names.specs.declared.entry.Denotes.{Denotes}
use Rattle.elan_names.specs.declared.entry.Denotes.TheVariants as denotes
use Rattle.elan_names.specs.declared.entry.Entry.{Entry}
use Rattle.elan_scope.specs.declared.scope.Scope.{Scope}
use Rattle.elan_scope.specs.declared.scope.Within.{Within}
use Rattle.elan_scope.specs.Scope.{placed, all_held, variables_of}
use Rattle.elan_scope.specs.declared.env.Env.{Env}
use Rattle.elan_scope.specs.Shown.{shown_types}
use Rattle.elan_names.specs.declared.heading.Sort.{Sort}
use Rattle.elan_names.specs.declared.heading.Sort.TheVariants.{Procedure, Operator}
use Rattle.elan_names.specs.declared.heading.What.TheVariants as what
use Rattle.elan_names.specs.declared.heading.Heading.{Heading}
use Rattle.type_names.specs.Declarations.{entry, in_unit, in_units}
use Rattle.elan_names.specs.declared.type_name.TypeName.{TypeName}
use Rattle.type_names.specs.Types.{type_in, level_types, body_types}
use Rattle.elan_walk.specs.Operators.{operator_text}

-- ---- parameters

abbrev pub access_of : Given → Access
access_of Const = held.Const
access_of Var = held.Var

abbrev pub named_as : List Name → Denotes → List Entry
named_as ns d = flat_map (λ n. entry n d) ns

-- where these names of types can be seen
module _ (ts : List TypeName) where
  abbrev pub parameter : Formal → Parameter
  parameter f = record { of = type_in ts f.of; access = access_of f.access }

  abbrev pub parameter_names : List Formal → List Entry
  parameter_names fs = flat_map (λ f. named_as f.names (denotes.Parameter (parameter f))) fs

  -- one for each name
  abbrev pub parameters : List Formal → List Parameter
  parameters fs = all_held (parameter_names fs)

  -- the type that a PROC or OP delivers
  abbrev pub result : Option TypePhrase → Option ElanType
  result type = option_map (type_in ts) type

  -- ---- the names of a scope

  abbrev pub refinement_names : List Refinement → List Entry
  refinement_names rs = flat_map (λ r. entry r.name denotes.Refinement ++ in_units ts r.units) rs

  -- what a body declares beside its parameters
  abbrev pub own_names : Body → List Entry
  own_names b = in_units ts b.units ++ refinement_names b.refinements

-- A PROC without parameters is known by its name alone.
abbrev pub procedure_name : Name → List Formal → List Entry
procedure_name n [] = entry n denotes.Procedure
procedure_name n (f ∷ fs) = []

-- The names of a PROC or OP, where these types are declared around: its parameters, what its units declare, and its refinements with
-- what they declare. Its heading is read in the level.
abbrev pub body_names : List TypeName → List Formal → Body → List Entry
body_names ts fs b = parameter_names ts fs ++ own_names (body_types ts fs b ++ ts) b

-- the parameters and variables of a PROC or OP
abbrev pub frame : List TypeName → List Formal → Body → Owner
frame ts fs b = owner.Own (map formal_of (parameters ts fs)) (variables_of (own_names (body_types ts fs b ++ ts) b))

-- the PROC or OP with this number, where these types are declared around
abbrev pub body_within : List TypeName → ℕ → List Formal → Body → Within
body_within ts k fs b = record { number = k; names = body_names ts fs b; types = body_types ts fs b }

-- in this PROC or OP
abbrev pub routine_scope : Scope → Within → Scope
routine_scope s w = placed s (Some w) None

abbrev pub unit_names : List TypeName → LevelUnit → List Entry
unit_names ts (level.Plain u) = in_unit ts u
unit_names ts (level.Proc at r n fs b) = procedure_name n fs
unit_names ts _ = []

abbrev pub names_in : List TypeName → Level → List Entry
names_in ts l = flat_map (unit_names ts) l.units ++ refinement_names ts l.refinements

-- the names of types that can be seen in a level after these packets: its own, and those that the packets show
abbrev pub seen_types : Env → Level → List TypeName
seen_types env l = level_types env.types (shown_types env) l

abbrev pub level_names : Env → Level → List Entry
level_names env l = names_in (seen_types env l) l

-- ---- the headings of bodies

abbrev pub refinement_headings : Option ℕ → List Refinement → List Heading
refinement_headings home rs = map (λ r. record { at = r.name.at; name = r.name.text; what = what.Refinement home }) rs

abbrev pub routine_heading : List TypeName → Sort → ℕ → List ℕ → List Formal → Option TypePhrase → Heading
routine_heading ts sort at x fs r = record { at = at; name = x; what = what.Routine sort (parameters ts fs) (result ts r) }

-- how many bodies a unit of a level has: a PROC or OP with its refinements
abbrev pub bodies_in : LevelUnit → ℕ
bodies_in (level.Proc at r n fs b) = suc (length b.refinements)
bodies_in (level.Op at r n fs b) = suc (length b.refinements)
bodies_in _ = 0

abbrev pub bodies_of_units : List LevelUnit → ℕ
bodies_of_units [] = 0
bodies_of_units (u ∷ us) = bodies_in u + bodies_of_units us

-- units, each with the number of its first body
abbrev pub numbered : ℕ → List LevelUnit → List (ℕ × LevelUnit)
numbered k [] = []
numbered k (u ∷ us) = (k, u) ∷ numbered (k + bodies_in u) us

-- the headings of a unit whose first body has this number
abbrev pub unit_headings : List TypeName → ℕ → LevelUnit → List Heading
unit_headings ts k (level.Proc at r n fs b) = routine_heading ts Procedure n.at n.text fs r ∷ refinement_headings (Some k) b.refinements
unit_headings ts k (level.Op at r n fs b) = routine_heading ts Operator n.at (operator_text n.operator) fs r ∷ refinement_headings (Some k) b.refinements
unit_headings ts k _ = []

-- Each PROC or OP has a number, and behind it its refinements; behind them all stand the refinements of the level.
abbrev pub headings_in : List TypeName → Level → List Heading
headings_in ts l = flat_map (λ u. unit_headings ts u.0 u.1) (numbered 0 l.units) ++ refinement_headings None l.refinements

abbrev pub headings : Env → Level → List Heading
headings env l = headings_in (seen_types env l) l
