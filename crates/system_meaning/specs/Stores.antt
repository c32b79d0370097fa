-- What a task keeps for itself: the values of the variables of its packets, and its data spaces with names for them.
use Rattle.std.specs.Prelude.{ℕ, Bool, false, ◌&&◌, ◌||◌, ◌==◌, not, is_none, nat_le, if◌then◌else◌, List, [], length, Option, Some, None, option_and_then}
use Rattle.std.specs.List.{list_any, filter}
use Rattle.system_meaning.specs.Below.task_numbers.specs.declared.number.SpaceNo.{SpaceNo}
use Rattle.eu_base.specs.declared.stop.Stop.{Stop}
use Rattle.eu_base.specs.declared.stop.Stop.TheVariants.{BadName, ManySpaces, SpaceNumbers}
use Rattle.eu_base.specs.declared.value.Value.TheVariants as values
use Rattle.eu_base.specs.DataSpaces.{Space, Spaces, no_spaces, living, next_number, under, with_new, with_name, without_space}
pub use Rattle.eu_base.specs.DataSpaces.{most_live, last_number}
pub use Rattle.eu_base.specs.SpaceOperations.{is_name}
use Rattle.elan_types.specs.Eval.{Slot, Holds}

-- the variables of the packets, one after another; the data spaces and the directory
pub record Store : Type 0 where
  pub variables : List Slot
  pub spaces : Spaces

abbrev pub new_store : Store
new_store = record { variables = []; spaces = no_spaces }

-- a son begins with the variables of its father's packets, and no number of the father is given again
abbrev pub heir : Store → Store
heir father = record { variables = father.variables; spaces = record no_spaces { last = father.spaces.last } }

-- ---- spaces under names

abbrev pub without_named : Option SpaceNo → Spaces → Spaces
without_named None spaces = spaces
without_named (Some s) spaces = without_space s spaces

-- with a new space, which stands last under a name
abbrev pub named_last : List ℕ → Space → Spaces → Spaces
named_last name space spaces = with_name name (next_number spaces) (with_new space spaces)

-- an older space of that name is forgotten
abbrev pub with_named : List ℕ → Space → Store → Store
with_named name space store = record store { spaces = named_last name space (without_named (under name store.spaces) store.spaces) }

-- the space under a name
abbrev pub space_under : List ℕ → Store → Option Space
space_under name store = option_and_then (λ (s : SpaceNo). living s store.spaces) (under name store.spaces)

-- why no text can be entered under a name, the first reason that holds
abbrev pub entering_refusal : List ℕ → Store → Option Stop
entering_refusal name store =
    if not (is_name name) then Some BadName
    else if nat_le most_live (length store.spaces.live) && is_none (under name store.spaces) then Some ManySpaces
    else if nat_le last_number store.spaces.last then Some SpaceNumbers
    else None

-- ---- spaces that nothing denotes

-- a variable denotes the data space with this number
abbrev pub denotes : ℕ → Slot → Bool
denotes n (Holds (values.Space (Some s))) = s.0 == n
denotes n _ = false

-- some variable does, or a name
abbrev pub is_used : ℕ → Store → Bool
is_used n store = list_any (denotes n) store.variables || list_any (λ entry. entry.1.0 == n) store.spaces.names

abbrev pub only_used : Store → Spaces
only_used store = record store.spaces { live = filter (λ e. is_used e.0 store) store.spaces.live }

-- without those that nothing denotes
abbrev pub tidied : Store → Store
tidied store = record store { spaces = only_used store }
