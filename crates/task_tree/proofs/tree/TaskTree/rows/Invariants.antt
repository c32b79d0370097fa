use Rattle.std.proofs.Common.{◌≡◌, map, take}
use Rattle.task_tree.specs.Rows.{row_of}
use Rattle.task_tree.proofs.tree.TaskTree.rows.Given as goal

abbrev pub invariant-loop-task : goal.invariant-loop-task
invariant-loop-task l = l.rows ≡ map (row_of l.self) (take l.task-index l.self.tasks)
