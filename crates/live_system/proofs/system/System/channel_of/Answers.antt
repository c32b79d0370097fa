use Rattle.live_system.specs.Below.system_meaning.specs.Systems.{Moment}
use Rattle.live_system.specs.Below.terminals.specs.Channels as channels
use Rattle.live_system.proofs.Moments.{looked}
use Rattle.live_system.proofs.system.System.channel_of.Goals as goal

pub returns-clause-channel : goal.returns-clause-channel
returns-clause-channel c =
    looked c.self.inside.desk c.self.inside.packets c.self.inside.tasks c.args.self.now c.self.view_is
    (λ (m : Moment). channels.channel_of c.args.task m.system.shared.channels) c.channel_of.result (λ owns. c.channel_of.ensures.channel)
