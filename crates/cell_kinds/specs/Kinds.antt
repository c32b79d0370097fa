-- The kinds of the cells of many shapes, and packets.
use Rattle.std.specs.Prelude.{ℕ, ◌-◌, List, [], ◌∷◌, map, flat_map, nat_lt, if◌then◌else◌}
use Rattle.eu_base.specs.declared.value.Kind.{Kind}
use Rattle.eu_base.specs.declared.shape.Shape.{Shape}
use Rattle.eu_base.specs.Shapes.{cell_kinds, joined}
use Rattle.cell_kinds.specs.declared.packet.Packet.{Packet}

-- those of one shape after those of the other
abbrev pub all_kinds : List Shape → List Kind
all_kinds shapes = joined (map cell_kinds shapes)

-- those of the variables of packets, one packet behind the other
abbrev pub packet_kinds : List Packet → List Kind
packet_kinds packets = flat_map (λ (p : Packet). p.variables) packets

-- the number of the packet that has a body, and the body's number there. Behind those of the task stands the one that is inserted, by 0
abbrev pub body_in_packet : List Packet → ℕ → ℕ × ℕ
body_in_packet [] n = (0, n)
body_in_packet (p ∷ ps) n = if nat_lt n p.bodies then (p.number, n) else body_in_packet ps (n - p.bodies)
