-- The live packets and the tasks that have them.
use Rattle.std.specs.Prelude.{◌≡◌, ℕ, Bool, true, false, List, Option, Some, None}
use Rattle.eu_base.specs.declared.stop.Stop.{Stop}
use Rattle.eu_base.specs.declared.stop.Stop.TheVariants.{ManyPackets}
use Rattle.eu_base.specs.declared.value.Kind.{Kind}
use Rattle.cell_kinds.specs.Kinds.{packet_kinds}
use Rattle.live_packets.specs.Below.packet_store.specs.declared.error.CompileError.{CompileError}
use Rattle.live_packets.specs.Below.packet_store.specs.declared.error.CompileError.TheVariants.{NoMemory, Refused}
use Rattle.live_packets.specs.Below.units.specs.Library.{Library, env_of}
use Rattle.live_packets.specs.Below.units.specs.Refusals.{refusal_text}

-- the kinds of the variables of the packets with these numbers
abbrev pub kinds_in : Library → List ℕ → List Kind
kinds_in library ns = packet_kinds (env_of library ns).packets

-- the stop that is told of an insertion
abbrev pub insertion_told : Option Stop → Bool → Option Stop
insertion_told (Some stop) full = Some stop
insertion_told None true = Some ManyPackets
insertion_told None false = None

-- what is said of a text that is refused so
abbrev pub IsSaidOf : CompileError → List ℕ → List ℕ → Type 0
IsSaidOf NoMemory text said = ⊥
IsSaidOf (Refused refusal) text said = said ≡ refusal_text refusal text
