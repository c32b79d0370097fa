use Rattle.std.proofs.Common.{refl}
use Rattle.live_system.specs.Below.system_meaning.specs.Systems.{at_event}
use Rattle.live_system.proofs.Moments.{stepped}
use Rattle.live_system.proofs.system.System.begin_event.Goals as goal

pub returns : goal.returns
returns c =
    stepped c.self.inside.desk c.self.inside.packets c.self.inside.tasks c.args.self.now c.self.view_is
    (λ m. at_event m.system) (λ m. refl) c.clear.new.self c.clear.ensures
