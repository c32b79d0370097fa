-- The rows of a tree, one for each task by age.
use Rattle.std.specs.Prelude.{ℕ, Bool, not, ◌&&◌, nat_lt, nat_le, List, length, map, bytes_eq, if◌then◌else◌}
use Rattle.std.specs.List.{list_any, list_all}
use Rattle.task_numbers.specs.declared.limits.TheConstants.{TASKS}
use Rattle.task_numbers.specs.declared.number.TaskNo.{TaskNo}
use Rattle.task_numbers.specs.Numbers.{is_nil, is_task}
use Rattle.eu_base.specs.SpaceOperations.{is_name}
use Rattle.task_tree.specs.declared.row.TreeRow.{TreeRow}
use Rattle.task_tree.specs.declared.task.Task.{Task}
use Rattle.task_tree.specs.Tree.{Tree, number, has_number, sons}

-- a task with its sons
abbrev pub row_of : Tree → Task → TreeRow
row_of s u = record { number = u.number; name = u.name; father = u.father; sons = sons u.number s }

abbrev pub rows_of : Tree → List TreeRow
rows_of s = map (row_of s) s.tasks

abbrev pub task_of : TreeRow → Task
task_of r = record { number = r.number; name = r.name; father = r.father }

-- ---- whether a task can stand behind others by age

abbrev pub is_given : ℕ → TaskNo → Bool
is_given last t = not (is_nil t) && nat_le t.0 last

-- v is younger than u, and has another name
abbrev pub is_younger : Task → Task → Bool
is_younger v u = nat_lt u.number.0 v.number.0 && not (bytes_eq u.name v.name)

-- UR has no father, and that of each other stands before it
abbrev pub has_father_among : List Task → Task → Bool
has_father_among before u = if is_task u.number (number 1) then is_nil u.father else list_any (has_number u.father) before

abbrev pub can_follow : ℕ → List Task → Task → Bool
can_follow last before u =
    nat_lt (length before) TASKS && (is_name u.name && (is_given last u.number && (list_all (is_younger u) before && has_father_among before u)))
