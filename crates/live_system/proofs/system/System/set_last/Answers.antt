use Rattle.std.proofs.Common.{refl}
use Rattle.live_system.specs.Below.terminals.specs.Channels as channels
use Rattle.live_system.specs.Below.system_meaning.specs.Systems.{on_system, on_channels}
use Rattle.live_system.proofs.Moments.{stepped}
use Rattle.live_system.proofs.system.System.set_last.Goals as goal

pub returns : goal.returns
returns c =
    stepped c.self.inside.desk c.self.inside.packets c.self.inside.tasks c.args.self.now c.self.view_is
    (on_system (on_channels (channels.with_last c.args.channel c.args.task))) (λ m. refl) c.set_last.new.self c.set_last.ensures
