use Rattle.std.proofs.Common.{refl}
use Rattle.live_system.specs.Below.terminals.specs.Channels as channels
use Rattle.live_system.specs.Below.system_meaning.specs.Systems.{on_system, on_channels}
use Rattle.live_system.proofs.Moments.{stepped}
use Rattle.live_system.proofs.system.System.queue_line.Goals as goal

pub returns-then-as_slice-le-LONGEST_LINE : goal.returns-then-as_slice-le-LONGEST_LINE
returns-then-as_slice-le-LONGEST_LINE c = λ m short.
    stepped c.self.inside.desk c.self.inside.packets c.self.inside.tasks c.args.self.now c.self.view_is
    (on_system (on_channels (channels.queued c.args.channel c.args.line))) (λ m'. refl) c.queue_line.new.self c.queue_line.ensures.queued m
