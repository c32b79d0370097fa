use Rattle.live_system.specs.Below.system_meaning.specs.Systems.{Moment}
use Rattle.std.proofs.Common.{length}
use Rattle.live_system.proofs.Moments.{looked}
use Rattle.live_system.proofs.system.System.tasks.Goals as goal

pub returns : goal.returns
returns c =
    looked c.self.inside.desk c.self.inside.packets c.self.inside.tasks c.args.self.now c.self.view_is
    (λ (m : Moment). length m.system.shared.tree.tasks) c.tasks.result (λ owns. c.tasks.ensures)
