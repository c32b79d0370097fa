use Rattle.std.proofs.Common.{◌≡◌, IfOk, subst}
use Rattle.task_tree.specs.Tree.{number}
use Rattle.task_tree.specs.Families.{listed}
use Rattle.task_desk.specs.Desks.{Desk}
use Rattle.task_desk.proofs.desk.TaskDesk.listed.Goals as goal

pub returns : goal.returns
returns c = subst (λ (d : Desk). IfOk c.listed.result (λ found. found.items ≡ listed (number 1) d.tree)) c.self.view_is c.listed.ensures
