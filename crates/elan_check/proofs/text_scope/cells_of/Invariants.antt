use Rattle.std.proofs.Common.{◌≡◌, ◌+◌, length, drop}
use Rattle.cell_kinds.specs.Kinds.{packet_kinds}
use Rattle.elan_check.proofs.text_scope.cells_of.Given as goal

abbrev pub invariant-loop-packet : goal.invariant-loop-packet
invariant-loop-packet l = l.cells + length (packet_kinds (drop l.packet-index l.packets)) ≡ length (packet_kinds l.packets)
