use Rattle.std.proofs.Common.{Bool, sym, ap, ◌∙◌}
use Rattle.live_packets.specs.Below.system_meaning.specs.Ends.{released_unless}
use Rattle.live_packets.proofs.PacketKinds.{goes_unless}
use Rattle.live_packets.proofs.packets.release_if_unused.Goals as goal

pub returns-then-has_packet : goal.returns-then-has_packet
returns-then-has_packet c =
    goes_unless c.has_packet.result c.args.number c.args.packets.now c.args.packets.now c.args.tasks.now
    (sym (ap (λ (b : Bool). released_unless b c.args.number c.args.packets.now) c.if-has_packet.true)) (λ kinds_of owns stand. c.has_packet.ensures kinds_of owns stand)

pub returns : goal.returns
returns c =
    goes_unless c.has_packet.result c.args.number c.args.packets.now c.release.new.self c.args.tasks.now
    (c.release.ensures ∙ sym (ap (λ (b : Bool). released_unless b c.args.number c.args.packets.now) c.if-has_packet.false))
    (λ kinds_of owns stand. c.has_packet.ensures kinds_of owns stand)
