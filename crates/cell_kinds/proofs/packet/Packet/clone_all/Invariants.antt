use Rattle.std.proofs.Common.{◌≡◌, take}
use Rattle.cell_kinds.proofs.packet.Packet.clone_all.Given as goal

-- the packets so far are copied
abbrev pub invariant-loop-packet : goal.invariant-loop-packet
invariant-loop-packet l = l.copy ≡ take l.packet-index l.packets
