use Rattle.std.proofs.lemmas.Result.{IfOk-weaker}
use Rattle.task_tree.specs.Families.{family}
use Rattle.live_system.specs.Below.system_meaning.specs.Systems.{Moment}
use Rattle.live_system.proofs.Moments.{looked, tree_law}
use Rattle.live_system.proofs.system.System.family.Goals as goal

pub returns-clause-family : goal.returns-clause-family
returns-clause-family c =
    IfOk-weaker c.family.result _ _
    (λ found is. looked c.self.inside.desk c.self.inside.packets c.self.inside.tasks c.args.self.now c.self.view_is
    (λ (m : Moment). family c.args.task m.system.shared.tree) found.items (λ owns. is))
    c.family.ensures

pub returns-clause-tree : goal.returns-clause-tree
returns-clause-tree c =
    IfOk-weaker c.family.result _ _
    (λ found is. tree_law c.self.inside.desk c.self.inside.packets c.self.inside.tasks c.args.self.now c.self.view_is c.law.ensures.tree) c.family.ensures
