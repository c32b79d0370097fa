-- What names denote where a phrase stands.
use Rattle.std.specs.Prelude.{ℕ, ℤ, Bool, true, false, ◌&&◌, List, [], ◌∷◌, ◌++◌, map, Option, Some, None, if◌then◌else◌, slice_get}
use Rattle.std.specs.Prelude.{option_map, option_and_then, option_to_list}
use Rattle.std.specs.Option.{is_some, option_or, option_map_or}
use Rattle.std.specs.Str.{bytes_eq}
use Rattle.elan_types.specs.declared.core_phrase.Exit.{Exit}
use Rattle.elan_types.specs.declared.core_phrase.Exit.TheVariants as exits
use Rattle.elan_names.specs.declared.entry.Denotes.{Denotes}
use Rattle.elan_names.specs.declared.entry.Entry.{Entry}
use Rattle.elan_names.specs.declared.heading.Sort.{Sort}
use Rattle.elan_names.specs.declared.heading.Heading.{Heading}
use Rattle.elan_names.specs.declared.interface.Inserted.{Inserted}
use Rattle.elan_names.specs.declared.type_name.TypeName.{TypeName}
use Rattle.elan_names.specs.Predefined.{predefined}
use Rattle.elan_names.specs.Types.{first_type}
use Rattle.elan_names.specs.Interfaces.{exports}
use Rattle.elan_scope.specs.declared.scope.Within.{Within}
use Rattle.elan_scope.specs.declared.scope.Scope.{Scope}
use Rattle.elan_scope.specs.declared.scope.Home.{Home}
use Rattle.elan_scope.specs.declared.scope.Home.TheVariants.{Level as of_level, Routine as of_routine, Packet as of_packet}
pub use Rattle.elan_names.specs.Names.{held, cells_held, first_from, first_named, all_held, types_of, variables_of, is_refinement, number_of_denoter}
pub use Rattle.elan_names.specs.Callables.{Callable, first, same_sort, own_callable, own_callables, predefined_callable, is_called, are_many, has_as_many}
pub use Rattle.elan_names.specs.Callables.{has_open, is_open_result, delivers_open, is_open_heading, is_open_callable}
pub use Rattle.elan_names.specs.Callables.{first_heading, is_routine, is_refinement_of, is_alike, is_refined, number_in}

-- in the same level, in this PROC or OP and in this refinement
abbrev pub placed : Scope → Option Within → Option ℕ → Scope
placed s routine refinement = record {
  packets = s.packets;
  bodies_before = s.bodies_before;
  types_before = s.types_before;
  home = s.home;
  headings = s.headings;
  level = s.level;
  types = s.types;
  routine = routine;
  refinement = refinement;
}

-- the number of the PROC or OP
abbrev pub number_of : Option Within → Option ℕ
number_of routine = option_map (λ w. w.number) routine

-- ---- layers

-- the names that are declared somewhere around a phrase, and what can be called from there, as far as they can be seen
pub record Layer : Type 0 where
  pub home : Home
  pub sees : List ℕ → Bool
  pub names : List Entry
  pub callables : List Callable

abbrev pub routine_layer : Within → Layer
routine_layer w = record { home = of_routine; sees = λ x. true; names = w.names; callables = [] }

abbrev pub level_layer : Scope → Layer
level_layer s = record { home = s.home; sees = λ x. true; names = s.level; callables = own_callables s.bodies_before s.headings }

-- Of a packet the names can be seen that it exports.
abbrev pub packet_layer : Inserted → Layer
packet_layer p =
    record { home = of_packet p.cells_before; sees = exports p.interface; names = p.interface.names; callables = own_callables p.bodies_before p.interface.headings }

abbrev pub predefined_layer : Layer
predefined_layer = record { home = of_level; sees = λ x. true; names = []; callables = map predefined_callable predefined }

-- the layers around a phrase, from the inmost: the PROC or OP, the level, the packets from the last inserted on, and what is predefined
abbrev pub layers : Scope → List Layer
layers s = option_to_list (option_map routine_layer s.routine) ++ level_layer s ∷ (map packet_layer s.packets ++ predefined_layer ∷ [])

-- what the first layer gives that has it
abbrev pub first_in : {A : Type 0} → (Layer → Option A) → List Layer → Option A
first_in look [] = None
first_in look (l ∷ ls) = option_or (look l) (first_in look ls)

-- a declaration that was found, with the number of cells of what is held before it in its home
pub record Found : Type 0 where
  pub home : Home
  pub number : ℕ
  pub at : ℕ
  pub denotes : Denotes

abbrev pub found_in : Home → Option (ℕ × Entry) → Option Found
found_in home entry = option_map (λ f. record { home = home; number = f.0; at = f.1.at; denotes = f.1.denotes }) entry

abbrev pub found : List ℕ → Layer → Option Found
found x l = if l.sees x then found_in l.home (first_named l.names x) else None

-- The refinements of a layer are for its own units and refinements alone.
abbrev pub from_inside : Option Found → Option Found
from_inside found = option_and_then (λ f. if is_refinement f.denotes then None else Some f) found

abbrev pub find_in : List ℕ → List Layer → Option Found
find_in x [] = None
find_in x (l ∷ ls) = option_or (found x l) (first_in (λ m. from_inside (found x m)) ls)

-- what an identifier without actuals denotes
abbrev pub find : Scope → List ℕ → Option Found
find s x = find_in x (layers s)

abbrev pub number_named : Option Found → Option ℤ
number_named found = option_and_then (λ f. number_of_denoter f.denotes) found

-- what a name denotes in the scope that declares it
abbrev pub find_own : Scope → List ℕ → Option Found
find_own s x = option_and_then (found x) (slice_get (layers s) 0)

-- what is called by a name with operands
unfoldable pub called_by : (Callable → Bool) → Scope → Option Callable
called_by test s = first_in (λ l. first (λ c. l.sees c.name && test c) l.callables) (layers s)

-- The name can be called with that number of operands.
abbrev pub is_known : Scope → Sort → List ℕ → ℕ → Bool
is_known s sort x n = is_some (called_by (has_as_many sort x (Some n)) s)

-- The name can be called with some number of operands.
abbrev pub can_be_called : Scope → Sort → List ℕ → Bool
can_be_called s sort x = is_some (called_by (has_as_many sort x None) s)

-- the name of a type in the scope that declares it
abbrev pub find_own_type : Scope → List ℕ → Option TypeName
find_own_type s x = first_type x (option_map_or (λ w. w.types) s.routine s.types)

-- ---- bodies

abbrev pub refinement_in : Scope → List ℕ → Option Found → Option ℕ
refinement_in s x =
    option_and_then (λ f. if is_refinement f.denotes then number_in (first_heading (is_refined (number_of s.routine) x) s.headings) else None)

-- the number of the refinement that a name denotes, if it denotes one
abbrev pub refinement_named : Scope → List ℕ → Option ℕ
refinement_named s x = refinement_in s x (find s x)

-- ---- what a LEAVE leaves

abbrev pub is_named : List ℕ → Option Heading → Bool
is_named x heading = option_map_or (λ h. bytes_eq h.name x) heading false

-- the body with this number, where it has that name
abbrev pub body_named : List Heading → Option ℕ → List ℕ → Option ℕ
body_named hs body x = option_and_then (λ n. if is_named x (slice_get hs n) then Some n else None) body

abbrev pub left_by : Exit → Option ℕ → Option (Exit × ℕ)
left_by e body = option_map (λ n. (e, n)) body

-- A PROC or OP is left from itself, or from a refinement of it.
abbrev pub exit_from : Option ℕ → Exit
exit_from refinement = if is_some refinement then exits.Around else exits.Body

-- the body that a LEAVE of that name leaves: the refinement in which it stands, or the PROC or OP
abbrev pub left : Scope → List ℕ → Option (Exit × ℕ)
left s x =
    option_or (left_by exits.Body (body_named s.headings s.refinement x)) (left_by (exit_from s.refinement) (body_named s.headings (number_of s.routine) x))
