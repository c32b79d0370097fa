-- The meaning of a text, and why it has none.
use Rattle.std.specs.Prelude.{◌≡◌, ◌≤◌, ◌<◌, ◌⊎◌, nat_lt, if◌then◌else◌, List, [], ◌++◌, Option, Some, None, Result, Ok, Err}
use Rattle.eu_base.specs.declared.value.Kind.{Kind}
use Rattle.elan_types.specs.declared.core_phrase.Core.{Core}
use Rattle.elan_types.specs.declared.core_phrase.Action.{Action}
use Rattle.elan_types.specs.declared.core_phrase.Body.{Body}
use Rattle.elan_tree.specs.declared.tree.Tree.{Tree}
use Rattle.elan_tree.specs.declared.tree.Tree.TheVariants as tree
use Rattle.elan_check.specs.declared.error.CheckError.{CheckError}
use Rattle.elan_check.specs.declared.error.CheckError.TheVariants.{NoMemory, NoMeaning}
use Rattle.elan_meant.specs.declared.meant.Meant.TheVariants as means
use Rattle.elan_scope.specs.declared.env.Env.{Env}
use Rattle.elan_scope.specs.Scope.{variables_of}
use Rattle.elan_scope.specs.Shown.{shown_types}
use Rattle.type_names.specs.Bodies.{level_names}
use Rattle.elan_meant.specs.declared.meant.Meant.{Meant}
use Rattle.elan_scope.specs.Ruled.{Fault, Ruled, gives, breaks}
use Rattle.type_names.specs.Faults.{first_fault, level_faults}
use Rattle.elan_judge.specs.Level.{level_in, level_bodies, text_scope, text}
use Rattle.elan_scope.specs.declared.known.Known.{Known}
use Rattle.elan_judge.specs.Refinements.{bodies_within, known_of}
use Rattle.elan_check.specs.Below.elan_rules.specs.Meaning as phrase

-- after these packets
module _ (env : Env) where
  -- what is known of the bodies of a text
  abbrev pub known : Tree → Known
  known t = known_of (text_scope env t).headings (bodies_within (text env t))

  -- the faults of types in a text, in text order
  abbrev pub faults : Tree → List Fault
  faults t = level_faults env.types (shown_types env) (level_in t)

  -- The variables and constants of a packet stand behind those of the packets before it, and are inserted with it.
  abbrev pub inserted : Tree → List Kind
  inserted (tree.Program l) = []
  inserted (tree.Packet at n exports l) = variables_of (level_names env l)

  -- A program has its own.
  abbrev pub declared : Tree → List Kind
  declared (tree.Program l) = variables_of (level_names env l)
  declared (tree.Packet at n exports l) = []

-- The text has this core after these packets: its bodies stand behind theirs.
pub record Means (env : Env) (t : Tree) (c : Core) : Type 0 where
  pub types : faults env t ≡ []
  pub packets : c.packets ≡ env.packets
  pub inserted : c.inserted ≡ inserted env t
  pub variables : c.variables ≡ declared env t
  pub start : c.start ≡ None
  pub own : List Body
  pub bodies : c.bodies ≡ env.bodies ++ own
  pub phrases : phrase.Means (known env t) (text env t) (means.Level c.units own)

-- The fault stands before all others: it is the first one of a type, or that of the first phrase that breaks a rule.
abbrev pub IsEarliest : Option Fault → (Fault → Type 0) → Fault → Type 0
IsEarliest None First f = First f
IsEarliest (Some e) First f = ((f ≡ e) × ((g : Fault) → First g → e.0 ≤ g.0)) ⊎ (First f × (f.0 < e.0))

-- This is the place of the first phrase that breaks a rule though all its parts have meaning, and its reason. Types are phrases too.
pub record Refused (env : Env) (t : Tree) (fault : Fault) : Type 0 where
  pub first : IsEarliest (first_fault (faults env t)) (phrase.IsFirst (known env t) (phrase.phrases (text env t))) fault

abbrev pub IsCore : Core → Result Core CheckError → Type 0
IsCore core (Ok c) = c ≡ core
IsCore core (Err NoMemory) = Unit {0}
IsCore core (Err (NoMeaning at why)) = ⊥

-- A refusal is one of these faults.
abbrev pub IsRefusal : (Fault → Type 0) → Result Core CheckError → Type 0
IsRefusal P (Ok c) = Unit {0}
IsRefusal P (Err NoMemory) = Unit {0}
IsRefusal P (Err (NoMeaning at why)) = P (at, why)

-- the first fault of a type, or what is said of the phrases, whichever stands before the other
abbrev pub earliest : {A : Type 0} → Option Fault → Ruled A → Option Fault
earliest None (breaks g) = Some g
earliest None r = None
earliest (Some f) (breaks g) = if nat_lt g.0 f.0 then Some g else Some f
earliest (Some f) r = Some f

-- a refusal with this fault, unless memory ran out
abbrev pub IsFault : Option Fault → CheckError → Type 0
IsFault fault NoMemory = Unit {0}
IsFault fault (NoMeaning at why) = fault ≡ Some (at, why)

-- what is known of the bodies of a text as they are gone over, and what it means, or its first fault, as phrases are judged
abbrev pub bodies_known : Env → Tree → Known
bodies_known env t = known_of (text_scope env t).headings (level_bodies (text_scope env t) (level_in t))

abbrev pub judged_text : Env → Tree → Ruled Meant
judged_text env t = phrase.judged (bodies_known env t) (text env t)

-- the core of a text with these units and bodies
abbrev pub core_of : Env → Tree → List Action → List Body → Core
core_of env t us own =
    record { packets = env.packets; inserted = inserted env t; variables = declared env t; bodies = env.bodies ++ own; units = us; start = None }

-- the meaning of a text, or its first fault
abbrev pub Answers : Env → Tree → Result Core CheckError → Type 0
Answers env t (Ok core) =
    (faults env t ≡ []) × (own : List Body) × (core ≡ core_of env t core.units own) × (judged_text env t ≡ gives (means.Level core.units own))
Answers env t (Err NoMemory) = Unit {0}
Answers env t (Err (NoMeaning at why)) = earliest (first_fault (faults env t)) (judged_text env t) ≡ Some (at, why)

-- A text has a core, or is refused.
pub data HasAnswer (env : Env) (t : Tree) : Type 0 where
  meaning : (c : Core) → Means env t c → HasAnswer env t
  refusal : (f : Fault) → Refused env t f → HasAnswer env t

pub record HasOneAnswer (env : Env) (t : Tree) : Type 0 where
  pub answer : HasAnswer env t
  pub no_core_and_refusal : (c : Core) (f : Fault) → Means env t c → Refused env t f → ⊥
