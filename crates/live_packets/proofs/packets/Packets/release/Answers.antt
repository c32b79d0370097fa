use Rattle.std.proofs.Common.{sym, ap, ◌∙◌}
use Rattle.std.specs.Option.{is_some}
use Rattle.live_packets.specs.Below.units.specs.Library.{Library, live_as}
use Rattle.live_packets.proofs.PacketKinds.{none_released, is_some_map}
use Rattle.live_packets.proofs.packets.Packets.release.Goals as goal

pub returns-else-is_some : goal.returns-else-is_some
returns-else-is_some c =
    sym
    (none_released c.args.number c.args.self.now
    (ap (λ (lib : Library). is_some (live_as c.args.number lib)) (sym c.self.view_is) ∙ ap is_some (sym c.get.ensures) ∙ is_some_map _ c.get.result
    ∙ sym c.is_some.ensures ∙ c.if-is_some.false))
