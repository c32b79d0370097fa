use Rattle.std.proofs.Common.{◌≡◌, drop}
use Rattle.code_form.specs.Listing.{cell_in_packet}
use Rattle.code_form.proofs.text.cell_in_packet.Given as goal

-- the cell is one of those of the packets that are left
abbrev pub invariant-loop-packet : goal.invariant-loop-packet
invariant-loop-packet l = cell_in_packet (drop l.packet-index l.packets) l.rest ≡ cell_in_packet l.packets l.cell
