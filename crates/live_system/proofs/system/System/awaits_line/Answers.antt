use Rattle.std.proofs.Common.{ap, ◌∙◌}
use Rattle.live_system.specs.Below.system_meaning.specs.Systems.{System, requested}
use Rattle.live_system.specs.What.{is_input}
use Rattle.live_packets.specs.Packets.{kinds_in}
use Rattle.live_system.proofs.Moments.{system_looked}
use Rattle.live_system.proofs.system.System.awaits_line.Goals as goal

pub returns : goal.returns
returns c =
    system_looked c.self.inside.desk c.self.inside.packets c.self.inside.tasks c.args.self.now c.self.view_is
    (λ (s : System). is_input (requested c.args.task s)) c.is_input.result
    (λ owns many stand. c.is_input.ensures ∙ ap is_input (c.asked.ensures many (kinds_in c.self.inside.packets) c.self.inside.packets owns stand))
