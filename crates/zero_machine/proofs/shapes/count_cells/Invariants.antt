use Rattle.std.proofs.Common.{◌≡◌, min, length, take}
use Rattle.cell_kinds.specs.Kinds.{packet_kinds}
use Rattle.zero_machine.proofs.shapes.count_cells.Given as goal

-- the cells of the packets so far
abbrev pub invariant-loop-packet : goal.invariant-loop-packet
invariant-loop-packet l = l.cells ≡ min (length (packet_kinds (take l.packet-index l.packets))) 18446744073709551615
