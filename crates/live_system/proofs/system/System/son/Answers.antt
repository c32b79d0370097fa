use Rattle.live_system.specs.Below.system_meaning.specs.Systems.{Moment}
use Rattle.task_tree.specs.Tree as tree
use Rattle.live_system.proofs.Moments.{looked}
use Rattle.live_system.proofs.system.System.son.Goals as goal

pub returns : goal.returns
returns c =
    looked c.self.inside.desk c.self.inside.packets c.self.inside.tasks c.args.self.now c.self.view_is
    (λ (m : Moment). tree.son c.args.task m.system.shared.tree) c.son.result (λ owns. c.son.ensures)
