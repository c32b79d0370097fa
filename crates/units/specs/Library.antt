-- Live packets, by their numbers.
use Rattle.std.specs.Prelude.{◌≡◌, ◌≤◌, ◌⊎◌, ℕ, ◌+◌, Bool, not, List, [], ◌∷◌, ◌++◌, length, filter, find, Option, Some, None, is_some, nat_eq, nat_lt, ◌==◌, if◌then◌else◌}
use Rattle.std.specs.List.{list_any}
use Rattle.elan_names.specs.declared.interface.Interface.{Interface}
use Rattle.elan_scope.specs.declared.env.Env.{Env}
use Rattle.units.specs.Below.cell_kinds.specs.Kinds.{body_in_packet}
use Rattle.units.specs.declared.library.TheConstants.{PACKETS, LAST_NUMBER}
use Rattle.units.specs.declared.unit.Compiled.{Compiled}
use Rattle.units.specs.Packets.{nothing, after}
use Rattle.units.specs.Starts.{start_unit}

-- a live packet: its number, its unit, and what stands behind it: the packets behind which it was compiled, and it under its number
pub record Live : Type 0 where
  pub number : ℕ
  pub unit : Compiled
  pub after : Env

-- the live packets in the order in which they were installed, and the last number that was given
pub record Library : Type 0 where
  pub live : List Live
  pub last : ℕ

abbrev pub none_live : Library
none_live = record { live = []; last = 0 }

abbrev pub has_number : ℕ → Live → Bool
has_number n l = nat_eq l.number n

abbrev pub live_as : ℕ → Library → Option Live
live_as n lib = find (has_number n) lib.live

abbrev pub lives : ℕ → Library → Bool
lives n lib = is_some (live_as n lib)

-- what stands behind a packet: it, and the packets behind which it was compiled
abbrev pub behind : Option Live → Env → Env
behind None env = env
behind (Some l) env = l.after

abbrev pub env_behind : Library → Env → List ℕ → Env
env_behind lib env [] = env
env_behind lib env (n ∷ ns) = env_behind lib (behind (live_as n lib) env) ns

-- the packets of a task as texts see them, by their numbers in order. Each was compiled behind those before it, so these are those that
-- stand behind the last
abbrev pub env_of : Library → List ℕ → Env
env_of lib ns = env_behind lib nothing ns

-- the number of a PROC of a packet among the bodies of the packets: those of the packets before stand before its own
abbrev pub body_in : Option Live → ℕ → Option ℕ
body_in None k = None
body_in (Some l) k = if nat_lt (length l.unit.packets.bodies + k) (length l.unit.core.bodies) then Some (length l.unit.packets.bodies + k) else None

-- of a packet that stands among those with these numbers
abbrev pub start_number : Library → List ℕ → ℕ → ℕ → Option ℕ
start_number lib ns packet k = if list_any (λ n. n == packet) ns then body_in (live_as packet lib) k else None

abbrev pub start_unit_at : Env → ℕ → ℕ → Option ℕ → Option Compiled
start_unit_at env packet k None = None
start_unit_at env packet k (Some n) = start_unit env packet k n

-- the unit of a start procedure, for a task with these packets
abbrev pub started : Library → List ℕ → ℕ → ℕ → Option Compiled
started lib ns packet k = start_unit_at (env_of lib ns) packet k (start_number lib ns packet k)

-- the same, by the PROC's number among the bodies of all these packets
abbrev pub start_unit_behind : Env → ℕ → Option Compiled
start_unit_behind env n = let at = body_in_packet env.packets n in start_unit env at.0 at.1 n

abbrev pub started_at : Library → List ℕ → ℕ → Option Compiled
started_at lib ns n = start_unit_behind (env_of lib ns) n

-- The live packet is a packet, and behind it stand the packets before it, and it under its number in place of 0.
abbrev pub IsLive : ℕ → Live → Type 0
IsLive last l = (l.number ≤ last) × (i : Interface) × (l.unit.shown ≡ Some i) × (l.after ≡ after l.unit.packets i l.unit.core l.number)

abbrev pub AllLive : ℕ → List Live → Type 0
AllLive last [] = Unit {0}
AllLive last (l ∷ ls) = IsLive last l × AllLive last ls

pub record IsLibrary (lib : Library) : Type 0 where
  pub few : length lib.live ≤ PACKETS
  pub all : AllLive lib.last lib.live

-- ---- what calls leave

-- As many packets live as can, or the last number was given.
abbrev pub IsFull : Library → Type 0
IsFull lib = (length lib.live ≡ PACKETS) ⊎ (lib.last ≡ LAST_NUMBER)

-- The packet lives behind the others, under the next number.
abbrev pub IsInstalled : Library → Compiled → Library → Type 0
IsInstalled old u new =
    (i : Interface) × (u.shown ≡ Some i)
    × (new ≡ record {
      live = old.live ++ record { number = old.last + 1; unit = u; after = after u.packets i u.core (old.last + 1) } ∷ [];
      last = old.last + 1;
    })

abbrev pub released : ℕ → Library → Library
released n lib = record { live = filter (λ l. not (has_number n l)) lib.live; last = lib.last }
