use Rattle.std.proofs.Common.{refl}
use Rattle.std.specs.Prelude.{slice_get}
use Rattle.live_system.specs.Below.terminals.specs.Channels as channels
use Rattle.live_system.specs.Below.system_meaning.specs.Systems.{Moment, on_system, on_channels}
use Rattle.live_system.proofs.Moments.{looked, stepped}
use Rattle.live_system.proofs.system.System.unqueue.Goals as goal

pub returns-clause-line : goal.returns-clause-line
returns-clause-line c =
    looked c.self.inside.desk c.self.inside.packets c.self.inside.tasks c.args.self.now c.self.view_is
    (λ (m : Moment). slice_get (channels.channel c.args.channel m.system.shared.channels).queue 0) c.unqueue.result (λ owns. c.unqueue.ensures.line)

pub returns-clause-taken : goal.returns-clause-taken
returns-clause-taken c =
    stepped c.self.inside.desk c.self.inside.packets c.self.inside.tasks c.args.self.now c.self.view_is
    (on_system (on_channels (channels.unqueued c.args.channel))) (λ m. refl) c.unqueue.new.self c.unqueue.ensures.queue
