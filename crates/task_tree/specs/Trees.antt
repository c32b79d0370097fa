-- What holds of every tree of tasks.
use Rattle.std.specs.Prelude.{◌≡◌, ◌<◌, ◌≤◌, ℕ, Bool, true, false, ◌||◌, length, bytes_eq, All, AllPairs}
use Rattle.task_numbers.specs.declared.limits.TheConstants.{TASKS}
use Rattle.task_numbers.specs.Numbers.{is_nil}
use Rattle.task_tree.specs.declared.task.Task.{Task}
use Rattle.task_tree.specs.Tree.{Tree, lives}

-- v is younger than u, so its number is greater, and it has another name
abbrev pub IsYounger : Task → Task → Type 0
IsYounger u v = (u.number.0 < v.number.0) × (bytes_eq u.name v.name ≡ false)

-- the number of a task was given
abbrev pub IsGiven : ℕ → Task → Type 0
IsGiven last u = (0 < u.number.0) × (u.number.0 ≤ last)

abbrev pub has_live_father : Tree → Task → Bool
has_live_father s u = is_nil u.father || lives u.father s

abbrev pub IsYoungerThanFather : Task → Type 0
IsYoungerThanFather u = u.father.0 < u.number.0

-- at most 16 tasks live; they stand by age, with different numbers and names; their numbers were given, and their fathers live and are older
pub record IsTree (s : Tree) : Type 0 where
  pub few : length s.tasks ≤ TASKS
  pub apart : AllPairs IsYounger s.tasks
  pub given : All (IsGiven s.last) s.tasks
  pub fathers : All (λ u. has_live_father s u ≡ true) s.tasks
  pub older : All IsYoungerThanFather s.tasks
