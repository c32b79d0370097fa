use Rattle.std.proofs.lemmas.Result.{IfOk-weaker}
use Rattle.task_tree.specs.Families.{listed}
use Rattle.live_system.specs.Below.system_meaning.specs.Systems.{Moment}
use Rattle.live_system.proofs.Moments.{looked}
use Rattle.live_system.proofs.system.System.listed.Goals as goal

pub returns : goal.returns
returns c =
    IfOk-weaker c.listed.result _ _
    (λ found is. looked c.self.inside.desk c.self.inside.packets c.self.inside.tasks c.args.self.now c.self.view_is
    (λ (m : Moment). listed (record { 0 = 1 }) m.system.shared.tree) found.items (λ owns. is))
    c.listed.ensures
