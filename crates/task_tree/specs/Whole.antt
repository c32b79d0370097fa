-- What holds of every tree that begins with UR and PUBLIC, and in which tasks begin and end.
use Rattle.std.specs.Prelude.{◌≡◌, true, All}
use Rattle.task_numbers.specs.Numbers.{is_nil, is_task}
use Rattle.eu_base.specs.SpaceOperations.{is_name}
use Rattle.task_tree.specs.declared.task.Task.{Task}
use Rattle.task_tree.specs.Tree.{Tree, number, lives}
use Rattle.task_tree.specs.Trees.{IsTree}

-- UR has no father, and each other task has one
abbrev pub IsRooted : Task → Type 0
IsRooted u = is_nil u.father ≡ is_task u.number (number 1)

-- the name has 1 to 60 bytes
abbrev pub IsNamed : Task → Type 0
IsNamed u = is_name u.name ≡ true

-- a tree whose tasks have names of a good length, and in which no other than UR has no father
pub record IsGrown (s : Tree) : Type 0 where
  pub tree : IsTree s
  pub rooted : All IsRooted s.tasks
  pub named : All IsNamed s.tasks

-- and UR lives: so there is one task without a father
pub record IsWhole (s : Tree) : Type 0 where
  pub grown : IsGrown s
  pub ur : lives (number 1) s ≡ true
