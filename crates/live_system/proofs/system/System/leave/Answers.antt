use Rattle.std.proofs.Common.{refl}
use Rattle.live_system.specs.Below.slicer.specs.Rotation as rotation
use Rattle.live_system.specs.Below.system_meaning.specs.Systems.{on_system, on_ready}
use Rattle.live_system.proofs.Moments.{stepped}
use Rattle.live_system.proofs.system.System.leave.Goals as goal

pub returns : goal.returns
returns c =
    stepped c.self.inside.desk c.self.inside.packets c.self.inside.tasks c.args.self.now c.self.view_is
    (on_system (on_ready (rotation.without c.args.task))) (λ m. refl) c.leave.new.self c.leave.ensures
