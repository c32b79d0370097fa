use Rattle.std.proofs.Common.{◌≡◌, map, take}
use Rattle.task_tree.specs.Rows.{task_of}
use Rattle.task_tree.specs.Whole.{IsGrown}
use Rattle.task_tree.proofs.rebuild.tasks_of.Given as goal

abbrev pub invariant-loop-row : goal.invariant-loop-row
invariant-loop-row l = record { grown : IsGrown (record { tasks = l.tasks.items; last = l.last }); tasks : l.tasks.items ≡ map task_of (take l.row-index l.rows) }
