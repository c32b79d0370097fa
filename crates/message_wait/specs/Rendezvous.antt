-- Who waits for whom.
use Rattle.std.specs.Prelude.{ℕ, Bool, true, false, not, ◌&&◌, ◌||◌, nat_lt, List, [], ◌∷◌, ◌++◌, filter, insert, map, position, remove, slice_get, Option}
use Rattle.std.specs.Prelude.{None, Some, if◌then◌else◌}
use Rattle.std.specs.List.{list_any, position_or_len}
use Rattle.std.specs.List.Sorted.{IsNonDecreasingBy}
use Rattle.task_numbers.specs.declared.number.TaskNo.{TaskNo}
use Rattle.task_numbers.specs.Numbers.{is_task}
use Rattle.message_wait.specs.declared.waits.Caller.{Caller}
use Rattle.message_wait.specs.declared.waits.Receiver.{Receiver}
use Rattle.message_wait.specs.declared.waits.Offer.{Offer}
use Rattle.message_wait.specs.declared.waits.Offer.TheVariants.{Taken, NotReady, Queued}

-- the callers in order of arrival, and the receivers by number
pub record Waits : Type 0 where
  pub callers : List Caller
  pub receivers : List Receiver

abbrev pub number_of : Receiver → ℕ
number_of r = r.task.0

-- no receiver has a greater number than a later one
abbrev pub AreByNumber : List Receiver → Type 0
AreByNumber receivers = IsNonDecreasingBy number_of receivers

abbrev pub nobody : Waits
nobody = record { callers = []; receivers = [] }

abbrev pub takes_from : TaskNo → Option TaskNo → Bool
takes_from u None = true
takes_from u (Some v) = is_task v u

abbrev pub is_from : TaskNo → Option TaskNo → Bool
is_from u None = false
is_from u (Some v) = is_task v u

-- this receiver is the task `to`, and takes what u sends
abbrev pub is_open : TaskNo → TaskNo → Receiver → Bool
is_open to u r = is_task r.task to && takes_from u r.of

-- a task is ready to receive from u where it waits for anybody's message, or for that of u
abbrev pub is_ready : TaskNo → TaskNo → Waits → Bool
is_ready to u w = list_any (is_open to u) w.receivers

abbrev pub is_waiting : TaskNo → Waits → Bool
is_waiting t w = list_any (λ (c : Caller). is_task c.from t) w.callers || list_any (λ (r : Receiver). is_task r.task t) w.receivers

-- a task waits for no message any more
abbrev pub received : TaskNo → Waits → Waits
received t w = record w { receivers = filter (λ r. not (is_task r.task t)) w.receivers }

-- what becomes of a message of u for a task, and of those that wait
abbrev pub offer : TaskNo → TaskNo → Bool → Waits → Offer
offer u to queue w = if is_ready to u w then Taken else if queue then Queued else NotReady

abbrev pub offered : Caller → Bool → Waits → Waits
offered c queue w =
    if is_ready c.to c.from w then received c.to w
    else if queue then record w { callers = w.callers ++ c ∷ [] }
    else w

-- the place of the caller that has called a task longest
abbrev pub first_call : TaskNo → Waits → Option ℕ
first_call t w = position (λ (c : Caller). is_task c.to t) w.callers

abbrev pub caller_at : Option ℕ → List Caller → Option Caller
caller_at None callers = None
caller_at (Some k) callers = slice_get callers k

abbrev pub first_caller : TaskNo → Waits → Option Caller
first_caller t w = caller_at (first_call t w) w.callers

abbrev pub is_after : TaskNo → Receiver → Bool
is_after t r = nat_lt t.0 r.task.0

-- a receiver stands before those of greater numbers
abbrev pub entered : Receiver → Waits → Waits
entered r w = record w { receivers = insert w.receivers (position_or_len (is_after r.task) w.receivers) r }

-- the message of the caller at the place is taken; with none, the task waits for anybody's
abbrev pub waited_at : Option ℕ → TaskNo → Waits → Waits
waited_at None t w = entered (record { task = t; of = None }) w
waited_at (Some k) t w = record w { callers = remove w.callers k }

abbrev pub waited : TaskNo → Waits → Waits
waited t w = waited_at (first_call t w) t w

-- this receiver waits for the answer of t
abbrev pub is_answer : TaskNo → Receiver → Bool
is_answer t r = is_from t r.of

abbrev pub answered_by : TaskNo → Waits → List TaskNo
answered_by t w = map (λ (r : Receiver). r.task) (filter (is_answer t) w.receivers)

abbrev pub callers_of : TaskNo → Waits → List TaskNo
callers_of t w = map (λ (c : Caller). c.from) (filter (λ c. is_task c.to t) w.callers)

-- the tasks that wait for t: for its answer, by number, then its callers in order of arrival
abbrev pub waiting_for : TaskNo → Waits → List TaskNo
waiting_for t w = answered_by t w ++ callers_of t w

-- those that wait for the answer of t wait no longer
abbrev pub answered : TaskNo → Waits → Waits
answered t w = record w { receivers = filter (λ r. not (is_answer t r)) w.receivers }

-- nobody waits for t any more
abbrev pub released : TaskNo → Waits → Waits
released t w = record (answered t w) { callers = filter (λ c. not (is_task c.to t)) w.callers }

-- t itself waits no longer
abbrev pub left : TaskNo → Waits → Waits
left t w = record (received t w) { callers = filter (λ c. not (is_task c.from t)) w.callers }
