-- The phrases of a text: of its units, PROCs, OPs and refinements.
use Rattle.std.specs.Prelude.{ℕ, suc, ◌+◌, Bool, true, false, ◌&&◌, not, List, [], ◌∷◌, ◌++◌, length, map, flat_map, Option, Some, None}
use Rattle.std.specs.Prelude.{option_and_then, if◌then◌else◌}
use Rattle.std.specs.List.{list_any}
use Rattle.std.specs.Option.{option_or, option_map_or}
use Rattle.std.specs.Str.{bytes_eq}
use Rattle.eu_base.specs.declared.value.Kind.{Kind}
use Rattle.elan_judge.specs.Below.cell_kinds.specs.Kinds.{packet_kinds}
use Rattle.elan_types.specs.Types.{is_open}
use Rattle.elan_types.specs.declared.elan_type.ElanType.{ElanType}
use Rattle.elan_types.specs.declared.core_phrase.Scope.{Scope as Owner}
use Rattle.elan_types.specs.declared.core_phrase.Scope.TheVariants as owner
use Rattle.elan_tree.specs.declared.written_type.Name.{Name}
use Rattle.elan_tree.specs.declared.written_type.TypePhrase.{TypePhrase}
use Rattle.elan_tree.specs.declared.written_type.Formal.{Formal}
use Rattle.elan_tree.specs.declared.tree.Body.{Body}
use Rattle.elan_tree.specs.declared.tree.Export.{Export}
use Rattle.elan_tree.specs.declared.tree.Export.TheVariants as export
use Rattle.elan_tree.specs.declared.tree.Refinement.{Refinement}
use Rattle.elan_tree.specs.declared.tree.Level.{Level}
use Rattle.elan_tree.specs.declared.tree.LevelUnit.{LevelUnit}
use Rattle.elan_tree.specs.declared.tree.LevelUnit.TheVariants as level
use Rattle.elan_tree.specs.declared.tree.Tree.{Tree}
use Rattle.elan_tree.specs.declared.tree.Tree.TheVariants as tree
use Rattle.elan_judge.specs.Below.elan_names.specs.declared.entry.Denotes.{Denotes}
use Rattle.elan_judge.specs.Below.elan_names.specs.declared.entry.Denotes.TheVariants as denotes
use Rattle.elan_judge.specs.Below.elan_names.specs.declared.heading.Sort.{Sort}
use Rattle.elan_judge.specs.Below.elan_names.specs.declared.heading.Sort.TheVariants.{Procedure, Operator}
use Rattle.elan_judge.specs.Below.elan_names.specs.declared.heading.Heading.{Heading}
use Rattle.elan_judge.specs.Below.elan_names.specs.declared.heading.What.{What}
use Rattle.elan_judge.specs.Below.elan_names.specs.declared.heading.What.TheVariants as what
use Rattle.elan_scope.specs.declared.env.Env.{Env}
use Rattle.elan_scope.specs.declared.scope.Scope.{Scope}
use Rattle.elan_scope.specs.declared.scope.Home.{Home}
use Rattle.elan_scope.specs.declared.scope.Home.TheVariants.{Level as of_level, Packet as of_packet}
use Rattle.elan_scope.specs.Scope.{placed, first_named}
use Rattle.elan_judge.specs.Below.elan_walk.specs.declared.definition.Defined.{Defined}
use Rattle.elan_judge.specs.Below.elan_walk.specs.declared.definition.Defined.TheVariants as defined
use Rattle.elan_judge.specs.Below.elan_walk.specs.Definitions.{level_definitions, first_from}
use Rattle.type_names.specs.Bodies as bodies
use Rattle.type_names.specs.Bodies.{parameters, result, frame, body_within, routine_scope, seen_types, level_names, headings, numbered, bodies_of_units}
use Rattle.elan_judge.specs.Below.elan_walk.specs.Operators.{operator_text, sign_text}
use Rattle.elan_scope.specs.Phrase as form
use Rattle.elan_scope.specs.Known.{delivered}
use Rattle.elan_scope.specs.declared.delivery.Delivery.TheVariants.{Open, Nothing}
use Rattle.elan_scope.specs.Phrase.{Phrase, row, leaf, around, pair}
use Rattle.elan_judge.specs.Shape.{written, role, unit, units, all_empty}

-- ---- scopes

-- the cells of the variables and constants of all packets
abbrev pub packet_cells : Env → List Kind
packet_cells env = packet_kinds env.packets

-- Where a level holds its variables and constants: a program its own, a packet behind those of the packets before it.
abbrev pub home_of : Env → Tree → Home
home_of env (tree.Program l) = of_level
home_of env (tree.Packet at n exports l) = of_packet (length (packet_cells env))

-- in the units of a level after these packets
abbrev pub level_scope : Env → Home → Level → Scope
level_scope env home l = record {
  packets = env.inserted;
  bodies_before = length env.bodies;
  types_before = env.types;
  home = home;
  headings = headings env l;
  level = level_names env l;
  types = seen_types env l;
  routine = None;
  refinement = None;
}

-- in the refinement with this number
abbrev pub refinement_scope : Scope → ℕ → Scope
refinement_scope s k = placed s s.routine (Some k)

-- a PROC or OP by its number among the bodies of all packets and the level
abbrev pub owner_of : Scope → Owner
owner_of s = option_map_or (λ w. owner.Of (s.bodies_before + w.number)) s.routine owner.Level

-- ---- refinements

module _ (s : Scope) where
  -- a name in its declaration
  abbrev pub declares : Name → Phrase
  declares n = leaf n.at (form.declares s n.text)

  abbrev pub declare_parameters : List Formal → List Phrase
  declare_parameters fs = flat_map (λ f. map declares f.names) fs

  -- the units of the refinement with this number
  abbrev pub refined_units : ℕ → Refinement → Phrase
  refined_units k r = units Open (map (unit (refinement_scope s k)) r.units)

  abbrev pub refinement : ℕ → Refinement → Phrase
  refinement k r = pair 0 (form.refinement (owner_of s)) (declares r.name) (refined_units k r)

  abbrev pub refinements : ℕ → List Refinement → List Phrase
  refinements k [] = []
  refinements k (r ∷ rs) = refinement k r ∷ refinements (suc k) rs

  abbrev pub all_refined_units : ℕ → List Refinement → List Phrase
  all_refined_units k [] = []
  all_refined_units k (r ∷ rs) = refined_units k r ∷ all_refined_units (suc k) rs

-- ---- PROCs and OPs

-- A PROC without parameters is a name of the level.
abbrev pub procedure_name : Scope → Name → List Formal → List Phrase
procedure_name s n fs = map (λ e. leaf e.at (form.declares s e.name)) (bodies.procedure_name n fs)

abbrev pub is_missing : Option ElanType → List (Option Phrase) → Bool
is_missing result us = option_map_or (λ t. not (is_open t)) result false && all_empty us

module _ (s : Scope) (k : ℕ) (at : ℕ) (x : List ℕ) (r : Option TypePhrase) (fs : List Formal) (b : Body) where
  abbrev pub inner : Scope
  inner = routine_scope s (body_within s.types k fs b)

  abbrev pub body_units : List (Option Phrase)
  body_units = map (unit inner) b.units

  -- The PROC or OP with this number, whose name is declared by these phrases. Its last unit delivers what it has to deliver.
  abbrev pub routine : Sort → List Phrase → Phrase
  routine sort names =
      row 0 form.routine
      ((names
      ++ leaf at (form.heading s sort x (parameters s.types fs) (result s.types r) (is_missing (result s.types r) body_units)) ∷ declare_parameters inner fs)
      ++ around 0 (form.body (frame s.types fs b) (result s.types r)) (units (delivered (result s.types r)) body_units)
      ∷ refinements inner (suc k) b.refinements)

  -- ---- what it is made of, as it is gone over; no definition of meaning needs these names

  abbrev pub own_units : Phrase
  own_units = units (delivered (result s.types r)) body_units

  abbrev pub own_body : Phrase
  own_body = around 0 (form.body (frame s.types fs b) (result s.types r)) own_units

  -- its heading, and its parameters
  abbrev pub heading_phrases : Sort → List Phrase → List Phrase
  heading_phrases sort names =
      names
      ++ (leaf at (form.heading s sort x (parameters s.types fs) (result s.types r) (is_missing (result s.types r) body_units)) ∷ declare_parameters inner fs)

  -- its body, and its refinements
  abbrev pub body_phrases : List Phrase
  body_phrases = own_body ∷ refinements inner (suc k) b.refinements

  -- the units of its body, and of its refinements
  abbrev pub routine_units : List Phrase
  routine_units = own_units ∷ all_refined_units inner (suc k) b.refinements

-- what stands in the scope of a PROC or OP: its parameters, its body, and its refinements
abbrev pub inside : Scope → ℕ → Option TypePhrase → List Formal → Body → List Phrase
inside s k r fs b =
    declare_parameters s fs
    ++ around 0 (form.body (frame s.types fs b) (result s.types r)) (units (delivered (result s.types r)) (map (unit s) b.units))
    ∷ refinements s (suc k) b.refinements

-- the units of its body, and of its refinements
abbrev pub inside_units : Scope → ℕ → Option TypePhrase → List Formal → Body → List Phrase
inside_units s k r fs b =
    units (delivered (result s.types r)) (map (unit (routine_scope s (body_within s.types k fs b))) b.units)
    ∷ all_refined_units (routine_scope s (body_within s.types k fs b)) (suc k) b.refinements

-- ---- the level

module _ (s : Scope) where
  -- a unit whose first body has this number
  abbrev pub level_unit : ℕ → LevelUnit → Phrase
  level_unit k (level.Plain u) = role Nothing (written (unit s u))
  level_unit k (level.Proc at r n fs b) = routine s k n.at n.text r fs b Procedure (procedure_name s n fs)
  level_unit k (level.Op at r n fs b) = routine s k n.at (operator_text n.operator) r fs b Operator []
  level_unit k (level.NewType at n of) = leaf n.at (form.type_name s n.text)

  -- the units of bodies, in the order of their numbers, as they are gone over; no definition of meaning needs these lists
  abbrev pub unit_bodies : ℕ → LevelUnit → List Phrase
  unit_bodies k (level.Proc at r n fs b) = routine_units s k n.at n.text r fs b
  unit_bodies k (level.Op at r n fs b) = routine_units s k n.at (operator_text n.operator) r fs b
  unit_bodies k _ = []

  -- The units of a level, and its refinements, which are numbered behind its PROCs and OPs.
  abbrev pub level_parts : Level → List Phrase
  level_parts l = map (λ u. level_unit u.0 u.1) (numbered 0 l.units) ++ refinements s (bodies_of_units l.units) l.refinements

  -- the units of its bodies as they are gone over; no definition of meaning needs this
  abbrev pub level_bodies : Level → List Phrase
  level_bodies l = flat_map (λ u. unit_bodies u.0 u.1) (numbered 0 l.units) ++ all_refined_units s (bodies_of_units l.units) l.refinements

-- ---- what a packet shows

abbrev pub export_name : Export → List ℕ
export_name (export.Ident n) = n.text
export_name (export.Bold n) = n.text
export_name (export.Sign at s) = sign_text s

abbrev pub export_place : Export → ℕ
export_place (export.Ident n) = n.at
export_place (export.Bold n) = n.at
export_place (export.Sign at s) = at

-- Constants, PROCs and OPs may be shown, and what TYPE makes. Variables and what LET declares may not. Refinements are no such things.
abbrev pub may_show_name : Denotes → Option Bool
may_show_name (denotes.Variable t) = Some false
may_show_name (denotes.Constant t) = Some true
may_show_name (denotes.Bound t) = Some false
may_show_name (denotes.Parameter p) = Some false
may_show_name denotes.Procedure = Some true
may_show_name denotes.Refinement = None
may_show_name (denotes.Denoter d) = Some false

abbrev pub may_show_type : Defined → Option Bool
may_show_type (defined.New of) = Some true
may_show_type (defined.Abbreviation of) = Some false
may_show_type _ = None

abbrev pub is_routine : What → Bool
is_routine (what.Routine sort ps r) = true
is_routine (what.Refinement home) = false

abbrev pub is_routine_named : List ℕ → Heading → Bool
is_routine_named x h = bytes_eq h.name x && is_routine h.what

module _ (s : Scope) (l : Level) where
  -- whether what the level declares under a name may be shown, where it declares that: a name, a type, or PROCs and OPs
  abbrev pub may_show : List ℕ → Option Bool
  may_show x =
      option_or (option_and_then (λ f. may_show_name f.1.denotes) (first_named s.level x))
      (option_or (option_and_then (λ f. may_show_type f.1.what) (first_from 0 (level_definitions l) x))
      (if list_any (is_routine_named x) s.headings then Some true else None))

  abbrev pub exports : List (List ℕ) → List Export → List Phrase
  exports earlier [] = []
  exports earlier (e ∷ es) =
      leaf (export_place e) (form.exported (list_any (λ y. bytes_eq y (export_name e)) earlier) (may_show (export_name e)))
      ∷ exports (earlier ++ export_name e ∷ []) es

-- ---- texts

abbrev pub level_in : Tree → Level
level_in (tree.Program l) = l
level_in (tree.Packet at n exports l) = l

-- the names that a text shows
abbrev pub exports_in : Tree → List Export
exports_in (tree.Program l) = []
exports_in (tree.Packet at n exports l) = exports

-- after these packets
module _ (env : Env) (t : Tree) where
  -- in the units of its level
  abbrev pub text_scope : Scope
  text_scope = level_scope env (home_of env t) (level_in t)

  -- The units of a text deliver nothing.
  abbrev pub text_parts : List Phrase
  text_parts = exports text_scope (level_in t) [] (exports_in t) ++ level_parts text_scope (level_in t)

  abbrev pub text : Phrase
  text = row 0 form.level text_parts
