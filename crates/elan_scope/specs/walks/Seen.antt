-- What the calls of this crate hand on by reference, and steps of their look-ups. No definition of meaning needs them.
use Rattle.std.specs.Prelude.{List, ℕ, Bool, ◌&&◌, map, option_map, Option, Some, None}
use Rattle.std.specs.Option.{option_or}
use Rattle.elan_names.specs.declared.interface.Inserted.{Inserted}
use Rattle.elan_scope.specs.declared.scope.Found.{Found as HandedFound}
use Rattle.elan_scope.specs.declared.scope.Scope.{Scope}
use Rattle.elan_scope.specs.declared.scope.Within.{Within}
use Rattle.elan_scope.specs.Scope.{Found, Callable, Layer, first, first_in, found, from_inside, packet_layer, level_layer, routine_layer}

abbrev pub found_there : HandedFound → Found
found_there f = record { home = f.home; number = f.number; at = f.at; denotes = f.denotes.now }

-- what the packets show of a name
abbrev pub found_in_packets : List ℕ → List Inserted → Option Found
found_in_packets x ps = first_in (λ l. from_inside (found x l)) (map packet_layer ps)

-- what is found in the PROC or OP, and else in the level
abbrev pub found_around : List ℕ → Option Within → Scope → Option Found
found_around x None s = found x (level_layer s)
found_around x (Some w) s = option_or (found x (routine_layer w)) (from_inside (found x (level_layer s)))

abbrev pub found_within : List ℕ → Scope → Option Found
found_within x s = found_around x s.routine s

-- what can be called of a layer, and of the packets
abbrev pub called_in : (Callable → Bool) → Layer → Option Callable
called_in test l = first (λ c. l.sees c.name && test c) l.callables

abbrev pub called_in_packet : (Callable → Bool) → Inserted → Option Callable
called_in_packet test p = called_in test (packet_layer p)

abbrev pub called_in_packets : (Callable → Bool) → List Inserted → Option Callable
called_in_packets test ps = first_in (called_in test) (map packet_layer ps)
