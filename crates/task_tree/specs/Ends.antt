-- Tasks that end one after another.
use Rattle.std.specs.Prelude.{◌≡◌, ◌<◌, true, List, [], ◌∷◌, ◌++◌, All}
use Rattle.task_numbers.specs.declared.number.TaskNo.{TaskNo}
use Rattle.task_numbers.specs.Numbers.{niltask}
use Rattle.task_tree.specs.Tree.{Tree, lives, son, ended}
use Rattle.task_tree.specs.Trees.{IsTree}
use Rattle.task_tree.specs.Families.{family}

-- what `TaskTree::end` requires of a task: it lives, it has no sons, and it is neither UR nor PUBLIC
pub record CanEnd (t : TaskNo) (s : Tree) : Type 0 where
  pub live : lives t s ≡ true
  pub childless : son t s ≡ niltask
  pub later : 2 < t.0

-- each of these tasks can end where those before it have ended
abbrev pub EndInTurn : List TaskNo → Tree → Type 0
EndInTurn [] s = Unit {0}
EndInTurn (t ∷ ts) s = CanEnd t s × EndInTurn ts (ended t s)

-- the tree where they have ended, one after another
abbrev pub all_ended : List TaskNo → Tree → Tree
all_ended [] s = s
all_ended (t ∷ ts) s = all_ended ts (ended t s)

abbrev pub FamiliesEndInTurn : Type 0
FamiliesEndInTurn = (s : Tree) (t : TaskNo) → IsTree s → lives t s ≡ true → 2 < t.0 → EndInTurn (family t s) s

-- a tree stays one where a task ends that can
abbrev pub TreesStay : Type 0
TreesStay = (s : Tree) (t : TaskNo) → IsTree s → CanEnd t s → IsTree (ended t s)

-- a task is the last of its family
abbrev pub FamiliesEndWithTheFirst : Type 0
FamiliesEndWithTheFirst = (s : Tree) (t : TaskNo) → (descendants : List TaskNo) × (family t s ≡ descendants ++ t ∷ [])

abbrev pub FamiliesLive : Type 0
FamiliesLive = (s : Tree) (t : TaskNo) → lives t s ≡ true → All (λ u. lives u s ≡ true) (family t s)
