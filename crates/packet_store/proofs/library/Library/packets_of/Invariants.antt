use Rattle.std.proofs.Common.{◌≡◌, drop}
use Rattle.std.specs.Prelude.{option_map}
use Rattle.units.specs.Packets.{nothing}
use Rattle.units.specs.Library.{behind, env_behind, env_of}
use Rattle.packet_store.proofs.library.Library.packets_of.Given as goal

abbrev pub invariant-loop-number : goal.invariant-loop-number
invariant-loop-number l =
    env_behind l.self (behind (option_map (λ b. b.now) l.last) nothing) (drop l.number-index l.of) ≡ env_of l.self l.of
