-- Operands: what they deliver, and what takes them.
use Rattle.std.specs.Prelude.{ℕ, Bool, true, false, ◌&&◌, ◌==◌, List, [], ◌∷◌, length, Option, codes}
use Rattle.std.specs.Option.{option_or, option_map_or}
use Rattle.elan_types.specs.declared.elan_type.ElanType.{ElanType}
use Rattle.elan_types.specs.declared.elan_type.Parameter.{Parameter}
use Rattle.elan_types.specs.Types.{same_type}
use Rattle.elan_meant.specs.Below.elan_names.specs.declared.heading.Sort.{Sort}
use Rattle.elan_scope.specs.declared.scope.Scope.{Scope}
use Rattle.elan_scope.specs.Scope.{Callable, is_called, called_by, first, has_open, is_open_callable, own_callables}
use Rattle.elan_meant.specs.declared.meant.Meant.{Meant}
use Rattle.elan_meant.specs.declared.meant.Meant.TheVariants.{Variable, Value}

abbrev pub delivers : ElanType → Meant → Bool
delivers t (Variable at u p) = same_type t u
delivers t (Value at u v) = same_type t u
delivers t _ = false

abbrev pub fit : List Parameter → List Meant → Bool
fit [] [] = true
fit [] (m ∷ ms) = false
fit (p ∷ ps) [] = false
fit (p ∷ ps) (m ∷ ms) = delivers p.of m && fit ps ms

-- It is called so, and takes exactly these operands.
abbrev pub takes : Sort → List ℕ → List Meant → Callable → Bool
takes sort x ms c = is_called sort x c && fit c.parameters ms

-- what is called by a name with these operands
abbrev pub chosen : Scope → Sort → List ℕ → List Meant → Option Callable
chosen s sort x ms = called_by (takes sort x ms) s

-- It is called so with as many operands, and what is written for one of its parameters has no meaning.
abbrev pub may_take : Sort → List ℕ → List Meant → Callable → Bool
may_take sort x ms c = is_called sort x c && (length c.parameters == length ms && has_open c.parameters)

-- the PROC or OP of a text that takes these operands, or else one that may take them
abbrev pub nearest : List Callable → Sort → List ℕ → List Meant → Option Callable
nearest cs sort x ms = option_or (first (takes sort x ms) cs) (first (may_take sort x ms) cs)

-- Whether it takes these operands, or what it delivers, hangs on a type that has no meaning.
abbrev pub is_unclear : Scope → Sort → List ℕ → List Meant → Bool
is_unclear s sort x ms = option_map_or is_open_callable (nearest (own_callables s.bodies_before s.headings) sort x ms) false

-- the operator of assignments, for which a text can have one of its own
abbrev pub becomes : List ℕ
becomes = codes ":="
