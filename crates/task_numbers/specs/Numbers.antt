-- The numbers of tasks.
use Rattle.std.specs.Prelude.{Bool, ◌==◌}
use Rattle.task_numbers.specs.declared.number.TaskNo.{TaskNo}

-- the number that no task has
abbrev pub niltask : TaskNo
niltask = record { 0 = 0 }

abbrev pub is_nil : TaskNo → Bool
is_nil t = t.0 == 0

-- the one number is the other
abbrev pub is_task : TaskNo → TaskNo → Bool
is_task t u = t.0 == u.0
