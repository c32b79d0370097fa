use Rattle.std.proofs.Common.{refl}
use Rattle.live_system.specs.Below.units.specs.Library.{none_live}
use Rattle.live_packets.specs.Packets.{kinds_in}
use Rattle.live_system.proofs.Opening.{opens}
use Rattle.live_system.proofs.system.System.opening.Goals as goal

pub returns-in-Ok : goal.returns-in-Ok
returns-in-Ok c =
    opens c.in_ok-desk.desk c.new.result c.in-Ok.tasks c.in_ok-desk.ensures c.new.ensures
    (c.in-Ok.ensures (kinds_in none_live) refl)
