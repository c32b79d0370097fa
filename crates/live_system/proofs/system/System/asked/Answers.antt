use Rattle.std.specs.Option.{option_copied}
use Rattle.live_system.specs.Below.system_meaning.specs.Systems.{System, requested}
use Rattle.live_packets.specs.Packets.{kinds_in}
use Rattle.live_system.proofs.Moments.{system_looked}
use Rattle.live_system.proofs.system.System.asked.Goals as goal

pub returns : goal.returns
returns c =
    system_looked c.self.inside.desk c.self.inside.packets c.self.inside.tasks c.args.self.now c.self.view_is
    (λ (s : System). requested c.args.task s) (option_copied c.asked.result)
    (λ owns many stand. c.asked.ensures many (kinds_in c.self.inside.packets) c.self.inside.packets owns stand)
