use Rattle.live_system.specs.Below.system_meaning.specs.Systems.{Moment}
use Rattle.live_system.specs.Below.system_meaning.specs.Ends.{number_refusal}
use Rattle.task_tree.specs.Tree as tree
use Rattle.live_system.proofs.Moments.{looked}
use Rattle.live_system.proofs.system.System.tree_refusal.Goals as goal

pub returns : goal.returns
returns c =
    looked c.self.inside.desk c.self.inside.packets c.self.inside.tasks c.args.self.now c.self.view_is
    (λ (m : Moment). number_refusal (tree.refusal c.args.name.now m.system.shared.tree)) c.begin_stop.result (λ owns. c.begin_stop.ensures)
