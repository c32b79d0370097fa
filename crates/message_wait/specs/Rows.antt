-- Those that wait, as rows.
use Rattle.std.specs.Prelude.{◌≡◌, ◌≤◌, ◌+◌, Bool, false, not, ◌&&◌, nat_lt, nat_le, List, ◌++◌, length, map, AllPairs}
use Rattle.std.specs.List.{list_all}
use Rattle.task_numbers.specs.declared.limits.TheConstants.{TASKS}
use Rattle.task_numbers.specs.declared.number.TaskNo.{TaskNo}
use Rattle.task_numbers.specs.Numbers.{is_task}
use Rattle.message_wait.specs.declared.waits.Caller.{Caller}
use Rattle.message_wait.specs.declared.waits.Receiver.{Receiver}
use Rattle.message_wait.specs.Rendezvous.{Waits, AreByNumber, is_waiting}

-- the callers, and then the receivers
abbrev pub waiters : Waits → List TaskNo
waiters w = map (λ (c : Caller). c.from) w.callers ++ map (λ (r : Receiver). r.task) w.receivers

-- at most 16 tasks wait, none twice, and the receivers stand by number
pub record IsRendezvous (w : Waits) : Type 0 where
  pub few : length w.callers + length w.receivers ≤ TASKS
  pub once : AllPairs (λ t u. is_task t u ≡ false) (waiters w)
  pub by_number : AreByNumber w.receivers

-- a task that does not wait can wait besides
abbrev pub has_place : TaskNo → Waits → Bool
has_place t w = nat_lt (length w.callers + length w.receivers) TASKS && not (is_waiting t w)

-- no receiver has a greater number
abbrev pub is_last : TaskNo → List Receiver → Bool
is_last t receivers = list_all (λ (r : Receiver). nat_le r.task.0 t.0) receivers
