use Rattle.std.proofs.Common.{refl}
use Rattle.message_wait.specs.Rendezvous.{left}
use Rattle.live_system.specs.Below.system_meaning.specs.Systems.{on_system, on_waits}
use Rattle.live_system.proofs.Moments.{stepped}
use Rattle.live_system.proofs.system.System.stop_waiting.Goals as goal

pub returns : goal.returns
returns c =
    stepped c.self.inside.desk c.self.inside.packets c.self.inside.tasks c.args.self.now c.self.view_is
    (on_system (on_waits (left c.args.task))) (λ m. refl) c.stop_waiting.new.self c.stop_waiting.ensures
