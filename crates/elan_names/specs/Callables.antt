-- What can be called, and bodies by their headings.
use Rattle.std.specs.Prelude.{ℕ, Bool, true, false, ◌&&◌, ◌||◌, ◌==◌, List, [], ◌∷◌, flat_map, length, Option, Some, None, option_map}
pub use Rattle.std.specs.Prelude.{find as first}
use Rattle.std.specs.List.{enumerate_from, list_any}
use lib.Pointwise.{pointwise}
use Rattle.std.specs.Option.{option_map_or}
use Rattle.std.specs.Str.{bytes_eq}
use Rattle.elan_types.specs.declared.elan_type.ElanType.{ElanType}
use Rattle.elan_types.specs.declared.elan_type.Parameter.{Parameter}
use Rattle.elan_types.specs.Typing.{same_home}
use Rattle.elan_types.specs.Types.{same_type, is_open}
use Rattle.elan_names.specs.declared.heading.Sort.{Sort}
use Rattle.elan_names.specs.declared.heading.Sort.TheVariants.{Procedure, Operator}
use Rattle.elan_names.specs.declared.heading.What.{What}
use Rattle.elan_names.specs.declared.heading.What.TheVariants.{Routine, Refinement}
use Rattle.elan_names.specs.declared.heading.Heading.{Heading}
use Rattle.elan_names.specs.Callees.{Callee, Predefined, Body}
use Rattle.elan_names.specs.Predefined.{Row, parameters, result}
pub use Rattle.elan_names.specs.Names.{types_of}

-- ---- what can be called

abbrev pub same_sort : Sort → Sort → Bool
same_sort Procedure Procedure = true
same_sort Operator Operator = true
same_sort _ _ = false

-- what it is called by, what it is given, what it delivers, and what it is
pub record Callable : Type 0 where
  pub sort : Sort
  pub name : List ℕ
  pub parameters : List Parameter
  pub result : Option ElanType
  pub callee : Callee

-- A PROC or OP is called by its number among all bodies.
abbrev pub own_callable : ℕ → List ℕ → What → List Callable
own_callable n x (Routine sort ps r) = record { sort = sort; name = x; parameters = ps; result = r; callee = Body n } ∷ []
own_callable n x (Refinement home) = []

-- those of a level, before whose bodies there are so many
abbrev pub own_callables : ℕ → List Heading → List Callable
own_callables n hs = flat_map (λ b. own_callable b.0 b.1.name b.1.what) (enumerate_from n hs)

abbrev pub predefined_callable : Row → Callable
predefined_callable r = record { sort = r.0; name = r.1; parameters = parameters r.2; result = result r.2; callee = Predefined r.2 }

abbrev pub is_called : Sort → List ℕ → Callable → Bool
is_called sort x c = same_sort sort c.sort && bytes_eq c.name x

-- so many parameters, or any number of them
abbrev pub are_many : Option ℕ → List Parameter → Bool
are_many None ps = true
are_many (Some n) ps = length ps == n

abbrev pub has_as_many : Sort → List ℕ → Option ℕ → Callable → Bool
has_as_many sort x count c = is_called sort x c && are_many count c.parameters

-- ---- what has no meaning

abbrev pub has_open : List Parameter → Bool
has_open ps = list_any (λ p. is_open p.of) ps

abbrev pub is_open_result : Option ElanType → Bool
is_open_result result = option_map_or is_open result false

abbrev pub delivers_open : What → Bool
delivers_open (Routine sort ps r) = is_open_result r
delivers_open (Refinement home) = false

abbrev pub is_open_heading : Option Heading → Bool
is_open_heading heading = option_map_or (λ h. delivers_open h.what) heading false

-- What is written for a parameter, or for what it delivers, has no meaning.
abbrev pub is_open_callable : Callable → Bool
is_open_callable c = has_open c.parameters || is_open_result c.result

-- ---- bodies

-- the first heading that passes a test, with its number
abbrev pub first_heading : (Heading → Bool) → List Heading → Option (ℕ × Heading)
first_heading test hs = first (λ b. test b.1) (enumerate_from 0 hs)

abbrev pub is_routine : Sort → List ElanType → What → Bool
is_routine sort ts (Routine other ps r) = same_sort sort other && pointwise same_type (types_of ps) ts
is_routine sort ts (Refinement home) = false

abbrev pub is_refinement_of : Option ℕ → What → Bool
is_refinement_of home (Routine sort ps r) = false
is_refinement_of home (Refinement other) = same_home home other

-- a PROC or OP of that name and with these types of parameters
abbrev pub is_alike : Sort → List ℕ → List ElanType → Heading → Bool
is_alike sort x ts h = bytes_eq h.name x && is_routine sort ts h.what

-- the refinement of that name, of the PROC or OP with this number, or of the level
abbrev pub is_refined : Option ℕ → List ℕ → Heading → Bool
is_refined home x h = bytes_eq h.name x && is_refinement_of home h.what

abbrev pub number_in : Option (ℕ × Heading) → Option ℕ
number_in body = option_map (λ b. b.0) body
