use Rattle.live_system.specs.Below.system_meaning.specs.Systems.{Moment}
use Rattle.live_system.specs.Below.terminals.specs.Channels as channels
use Rattle.live_system.proofs.Moments.{looked}
use Rattle.live_system.proofs.system.System.last_at.Goals as goal

pub returns : goal.returns
returns c =
    looked c.self.inside.desk c.self.inside.packets c.self.inside.tasks c.args.self.now c.self.view_is
    (λ (m : Moment). (channels.channel c.args.channel m.system.shared.channels).last) c.last_at.result (λ owns. c.last_at.ensures)
