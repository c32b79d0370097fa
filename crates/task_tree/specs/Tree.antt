-- The tree of tasks.
use Rattle.std.specs.Prelude.{ℕ, ◌+◌, Bool, not, ◌&&◌, nat_lt, nat_le, List, [], ◌∷◌, ◌++◌, bytes_eq, codes, filter, find, length, map, Option, None, Some}
use Rattle.std.specs.Prelude.{if◌then◌else◌}
use Rattle.std.specs.List.{list_any}
use Rattle.task_numbers.specs.declared.number.TaskNo.{TaskNo}
use Rattle.task_numbers.specs.declared.limits.TheConstants.{TASKS}
use Rattle.task_numbers.specs.Numbers.{niltask, is_nil, is_task}
use Rattle.task_tree.specs.declared.refusal.BeginError.{BeginError}
use Rattle.task_tree.specs.declared.refusal.BeginError.TheVariants.{NameTaken, TreeFull, NumbersSpent}
use Rattle.task_tree.specs.declared.task.Task.{Task}
use Rattle.task_tree.specs.declared.tree.TheConstants.{LAST_NUMBER}

-- the live tasks by age, the oldest first, and the last number that was given
pub record Tree : Type 0 where
  pub tasks : List Task
  pub last : ℕ

abbrev pub number : ℕ → TaskNo
number n = record { 0 = n }

abbrev pub task : TaskNo → List ℕ → TaskNo → Task
task t name father = record { number = t; name = name; father = father }

-- UR, and PUBLIC, its son
abbrev pub opening : Tree
opening = record {
  tasks = task (number 1) (codes "UR") niltask ∷ (task (number 2) (codes "PUBLIC") (number 1) ∷ []);
  last = 2;
}

abbrev pub has_number : TaskNo → Task → Bool
has_number t u = is_task u.number t

abbrev pub has_name : List ℕ → Task → Bool
has_name name u = bytes_eq u.name name

abbrev pub has_father : TaskNo → Task → Bool
has_father t u = is_task u.father t

-- v is a younger son of u's father
abbrev pub is_younger_brother : Task → Task → Bool
is_younger_brother u v = is_task v.father u.father && nat_lt u.number.0 v.number.0

abbrev pub number_of : Option Task → TaskNo
number_of None = niltask
number_of (Some u) = u.number

abbrev pub father_of : Option Task → TaskNo
father_of None = niltask
father_of (Some u) = u.father

abbrev pub name_of : Option Task → List ℕ
name_of None = []
name_of (Some u) = u.name

-- the task of a number, where it lives
abbrev pub with_number : TaskNo → Tree → Option Task
with_number t s = find (has_number t) s.tasks

abbrev pub lives : TaskNo → Tree → Bool
lives t s = list_any (has_number t) s.tasks

-- the number of the task of a name, or niltask
abbrev pub named : List ℕ → Tree → TaskNo
named name s = number_of (find (has_name name) s.tasks)

-- the name of a task, empty where it does not live
abbrev pub name : TaskNo → Tree → List ℕ
name t s = name_of (with_number t s)

-- the father, the oldest son, and the next younger son of the same father; niltask where there is none
abbrev pub father : TaskNo → Tree → TaskNo
father t s = father_of (with_number t s)

abbrev pub son : TaskNo → Tree → TaskNo
son t s = if is_nil t then niltask else number_of (find (has_father t) s.tasks)

abbrev pub younger : Option Task → Tree → TaskNo
younger None s = niltask
younger (Some u) s = number_of (find (is_younger_brother u) s.tasks)

abbrev pub brother : TaskNo → Tree → TaskNo
brother t s = younger (with_number t s) s

-- all sons, from the oldest
abbrev pub sons : TaskNo → Tree → List TaskNo
sons t s = map (λ u. u.number) (filter (has_father t) s.tasks)

-- why no task of this name begins, the first reason that holds
abbrev pub refusal : List ℕ → Tree → Option BeginError
refusal name s =
    if list_any (has_name name) s.tasks then Some NameTaken
    else if nat_le TASKS (length s.tasks) then Some TreeFull
    else if nat_le LAST_NUMBER s.last then Some NumbersSpent
    else None

-- with a youngest task, which has the next number
abbrev pub next : Tree → TaskNo
next s = number (s.last + 1)

-- where a number is left
abbrev pub next_number : Tree → Option TaskNo
next_number s = if nat_le LAST_NUMBER s.last then None else Some (next s)

abbrev pub begun : List ℕ → TaskNo → Tree → Tree
begun name father s = record { tasks = s.tasks ++ task (next s) name father ∷ []; last = s.last + 1 }

-- without a task, whose number is never given again
abbrev pub ended : TaskNo → Tree → Tree
ended t s = record s { tasks = filter (λ u. not (has_number t u)) s.tasks }
