use Rattle.std.proofs.Common.{◌≡◌, All, take}
use Rattle.task_tree.specs.declared.row.TreeRow.{TreeRow}
use Rattle.task_tree.specs.Tree.{sons}
use Rattle.task_tree.proofs.tree.TaskTree.has_all_sons.Given as goal

abbrev pub invariant-loop-row : goal.invariant-loop-row
invariant-loop-row l = All (λ (r : TreeRow). r.sons ≡ sons r.number l.self) (take l.row-index l.rows)
