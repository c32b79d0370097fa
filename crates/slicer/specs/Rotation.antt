-- The ready list: the numbers of the ready tasks, that of the next turn first.
use Rattle.std.specs.Prelude.{◌≡◌, ◌≤◌, Bool, false, length, AllPairs, not, ◌&&◌, nat_lt, List, [], ◌∷◌, ◌++◌, filter}
use Rattle.std.specs.List.{list_any}
use Rattle.task_numbers.specs.declared.number.TaskNo.{TaskNo}
use Rattle.task_numbers.specs.declared.limits.TheConstants.{TASKS}
use Rattle.task_numbers.specs.Numbers.{is_task}

-- a task that becomes ready, or whose turn ended, comes last
abbrev pub at_back : TaskNo → List TaskNo → List TaskNo
at_back t ready = ready ++ t ∷ []

abbrev pub is_ready : TaskNo → List TaskNo → Bool
is_ready t ready = list_any (λ u. is_task u t) ready

-- there is a place in the list for a task that is not there
abbrev pub has_place : TaskNo → List TaskNo → Bool
has_place t ready = nat_lt (length ready) TASKS && not (is_ready t ready)

-- a task that is not ready any more; the others keep their order
abbrev pub without : TaskNo → List TaskNo → List TaskNo
without t ready = filter (λ u. not (is_task u t)) ready

-- no task stands twice, and there are at most 16
pub record IsRotation (ready : List TaskNo) : Type 0 where
  pub few : length ready ≤ TASKS
  pub apart : AllPairs (λ t u. is_task t u ≡ false) ready
