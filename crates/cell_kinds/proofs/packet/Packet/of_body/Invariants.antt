use Rattle.std.proofs.Common.{◌≡◌, drop}
use Rattle.cell_kinds.specs.Kinds.{body_in_packet}
use Rattle.cell_kinds.proofs.packet.Packet.of_body.Given as goal

-- the body is one of those of the packets that are left
abbrev pub invariant-loop-packet : goal.invariant-loop-packet
invariant-loop-packet l = body_in_packet (drop l.packet-index l.packets) l.rest ≡ body_in_packet l.packets l.body
