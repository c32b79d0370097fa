-- Tasks with their descendants.
use Rattle.std.specs.Prelude.{ℕ, zero, suc, ◌+◌, List, [], ◌∷◌, ◌++◌}
use Rattle.std.specs.List.{flat_map}
use Rattle.task_numbers.specs.declared.number.TaskNo.{TaskNo}
use Rattle.task_numbers.specs.declared.limits.TheConstants.{TASKS}
use Rattle.task_tree.specs.Tree.{Tree, sons}
use Rattle.task_tree.specs.declared.walks.Entry.{Entry}

-- in a tree of at most n levels a task and its descendants, each behind its own descendants, sons from the oldest
abbrev pub descent : ℕ → TaskNo → Tree → List TaskNo
descent zero t s = []
descent (suc n) t s = flat_map (λ u. descent n u s) (sons t s) ++ t ∷ []

-- a tree of tasks has at most as many levels as there can be tasks
abbrev pub family : TaskNo → Tree → List TaskNo
family t s = descent TASKS t s

-- a task and its descendants, each before its own descendants, with how many levels it stands below the first
abbrev pub entries : ℕ → ℕ → TaskNo → Tree → List Entry
entries zero level t s = []
entries (suc n) level t s = record { task = t; level = level } ∷ flat_map (λ u. entries n (level + 1) u s) (sons t s)

abbrev pub listed : TaskNo → Tree → List Entry
listed t s = entries TASKS 0 t s
