-- What a text, or a start procedure, is compiled to.
use Rattle.std.specs.Prelude.{◌≡◌, ℕ, ◌-◌, Bool, length, List, [], ◌∷◌, ◌++◌, Option, Some, None, is_some, slice_get}
use Rattle.packet_store.specs.Below.cell_kinds.specs.declared.packet.Packet.{Packet}
use Rattle.elan_types.specs.Typing.{IsWellTyped}
use Rattle.packet_store.specs.Below.elan_names.specs.declared.interface.Interface.{Interface}
use Rattle.elan_types.specs.declared.core_phrase.Core.{Core}
use Rattle.elan_types.specs.declared.core_phrase.Body.{Body}
use Rattle.elan_scope.specs.declared.env.Env.{Env}
use Rattle.elan_tree.specs.declared.token.Token.{Token}
use Rattle.elan_tree.specs.declared.tree.Tree.{Tree}
use Rattle.elan_tree.specs.declared.tree.Tree.TheVariants as tree
use Rattle.units.specs.Packets.{after}
use Rattle.elan_check.specs.Packets.{AreCompiled, IsPacket, interface}
pub use Rattle.units.specs.Starts.{start_unit_of, start_unit}
use Rattle.units.specs.declared.unit.Source.TheVariants.{Text}
use Rattle.units.specs.declared.unit.Compiled.{Compiled}
use Rattle.packet_store.specs.Below.elan_grammar.specs.Reads.{Reads}
use Rattle.packet_store.specs.Meaning.{HasTokens, Means}

-- A packet shows what later texts see of it, and a program nothing.
abbrev pub Shows : Env → Core → Option Interface → Type 0
Shows env core None = Unit {0}
Shows env core (Some i) = IsPacket env i core

abbrev pub shown_by : Env → Tree → Option Interface
shown_by env (tree.Program l) = None
shown_by env (tree.Packet at name exports l) = Some (interface env (tree.Packet at name exports l))

-- Later texts see this of the text.
abbrev pub IsShown : Env → Bool → List ℕ → Option Interface → Type 0
IsShown env packet text shown = (ts : List Token) × (t : Tree) × HasTokens text ts × Reads packet ts t × (shown ≡ shown_by env t)

-- This is the unit of the text behind these packets, read as a packet or as a program.
pub record IsUnitOf (env : Env) (packet : Bool) (text : List ℕ) (u : Compiled) : Type 0 where
  pub source_is : u.source ≡ Text text
  pub packets_are : u.packets ≡ env
  pub kind_is : is_some u.shown ≡ packet
  pub means : Means env packet text u.core
  pub shows : Shows env u.core u.shown
  pub is_shown : IsShown env packet text u.shown
  pub typed : IsWellTyped u.core

-- Each unit is that of a text, or that of a start procedure, behind packets each of which was compiled behind those before it.
pub data IsUnit (u : Compiled) : Type 0 where
  of_text : (packet : Bool) (text : List ℕ) → AreCompiled u.packets → IsUnitOf u.packets packet text u → IsUnit u
  of_start : (packet number n : ℕ) → AreCompiled u.packets → start_unit u.packets packet number n ≡ Some u → IsUnit u

-- A text behind a packet with this core has the packet's bodies as they were compiled, before its own, and the packet's variables under its
-- number, behind those of the packets before it.
abbrev pub HasPacket : Env → Core → ℕ → Core → Type 0
HasPacket env c n later =
    (later.packets ≡ env.packets ++ record { number = n; variables = c.inserted; bodies = length c.bodies - length env.bodies } ∷ []) × (own : List Body) × (later.bodies ≡ c.bodies ++ own)

-- what stands behind these packets after further ones were installed, each compiled behind those before it
pub data Grows (env : Env) : Env → Type 0 where
  none : Grows env env
  more : {later : Env} (i : Interface) (c : Core) (n : ℕ) → Grows env later → IsPacket later i c → Grows env (after later i c n)

-- The packets and their bodies stand before all further ones, so a body that has a number has it there too, with the same content.
pub record Keeps (env later : Env) : Type 0 where
  pub further_packets : List Packet
  pub packets : later.packets ≡ env.packets ++ further_packets
  pub further_bodies : List Body
  pub bodies : later.bodies ≡ env.bodies ++ further_bodies
  pub numbers : (k : ℕ) (b : Body) → slice_get env.bodies k ≡ Some b → slice_get later.bodies k ≡ Some b

abbrev pub BodiesKeepTheirNumbers : Type 0
BodiesKeepTheirNumbers = (env later : Env) → Grows env later → Keeps env later
