use Rattle.std.proofs.Common.{◌≡◌, IfOk, subst}
use Rattle.task_tree.specs.Families.{family}
use Rattle.task_desk.specs.Desks.{Desk}
use Rattle.task_desk.proofs.desk.TaskDesk.family.Goals as goal

pub returns : goal.returns
returns c = subst (λ (d : Desk). IfOk c.family.result (λ found. found.items ≡ family c.args.task d.tree)) c.self.view_is c.family.ensures
