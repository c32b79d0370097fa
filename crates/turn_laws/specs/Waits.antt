-- What holds of the tasks that wait for messages, and of those that are ready, in each system that the opening system leads to.
use Rattle.std.specs.Prelude.{◌≡◌, ◌⊎◌, ℕ, true, false, Some, None}
use Rattle.std.specs.List.{AllByRecursion, list_any}
use Rattle.turn_laws.specs.Below.task_numbers.specs.declared.number.TaskNo.{TaskNo}
use Rattle.turn_laws.specs.Below.task_numbers.specs.Numbers.{is_task}
use Rattle.eu_base.specs.declared.request.Request.{Request}
use Rattle.eu_base.specs.declared.request.Request.TheVariants as requests
use Rattle.eu_base.specs.DataSpaces.{heads_of, without_space}
use Rattle.eu_base.specs.SpaceOperations.{room_refusal}
use Rattle.elan_types.specs.Eval.{World}
use Rattle.elan_types.specs.Command.{Asks, evaluate}
use Rattle.turn_laws.specs.Below.message_wait.specs.declared.waits.Caller.{Caller}
use Rattle.turn_laws.specs.Below.message_wait.specs.Rendezvous.{is_waiting}
use Rattle.turn_laws.specs.Below.task_tree.specs.Tree.{lives}
use Rattle.system_meaning.specs.Tasks.{Command, Running, ending, spent}
use Rattle.system_meaning.specs.Systems.{System, Moment, requested, kept, command as own_command, does, given, on_system}
use Rattle.system_meaning.specs.Serving.{Served, Replies, Rests, space_number, number}
use Rattle.system_meaning.specs.Whole.{IsSystem, AreWaits}

-- ---- systems

-- a caller has room for the data space of the answer, once its own was taken
abbrev pub HasRoom : Caller → System → Type 0
HasRoom c s =
    (space : ℕ) → requested c.from s ≡ Some (requests.Call c.to.0 c.code space)
    → room_refusal (heads_of (without_space (space_number space) (kept c.from s).spaces)) ≡ None

-- however many marks the command had, it would ask for the answer of no task
abbrev pub AsksNoAnswer : Command → Type 0
AsksNoAnswer c = (n of : ℕ) (w : World) → evaluate c.unit.core c.before.variables c.before.spaces n c.replies ≡ Asks (requests.Answer of) w → ⊥

abbrev pub IsFree : TaskNo → System → Type 0
IsFree t s = (c : Command) → own_command t s ≡ Some c → AsksNoAnswer c

-- those that wait do so rightly, callers have room, and no ready task asks for an answer
pub record AreOrderly (s : System) : Type 0 where
  pub waits : AreWaits s
  pub rooms : AllByRecursion (λ (c : Caller). HasRoom c s) s.shared.waits.callers
  pub free : AllByRecursion (λ t. IsFree t s) s.shared.ready

-- ---- in a turn

-- the command of a task asks for the answer of one that lives, and the task has room for a data space
pub record AsksAnswer (u : TaskNo) (c : Command) (s : System) : Type 0 where
  pub of : ℕ
  pub world : World
  pub asks : ending c 0 ≡ Asks (requests.Answer of) world
  pub alive : lives (number of) s.shared.tree ≡ true
  pub room : room_refusal (heads_of (kept u s).spaces) ≡ None

-- Between two evaluations of a task that has its turn: those that wait do so rightly, none of the others that are ready asks for an answer, and the
-- task itself does not wait, and is not ready. It asks for an answer only where it may.
pub record HasTurn (u : TaskNo) (s : System) : Type 0 where
  pub waits : AreWaits s
  pub rooms : AllByRecursion (λ (c : Caller). HasRoom c s) s.shared.waits.callers
  pub free : AllByRecursion (λ t. IsFree t s) s.shared.ready
  pub apart : is_waiting u s.shared.waits ≡ false
  pub out : list_any (λ t. is_task t u) s.shared.ready ≡ false
  pub itself : (c : Command) → own_command u s ≡ Some c → AsksNoAnswer c ⊎ AsksAnswer u c s

-- where the command of a task asks for something with so many marks more, and stands so then
pub record Asking (u : TaskNo) (q : Request) (m now : Moment) : Type 0 where
  pub command : Command
  pub left : ℕ
  pub world : World
  pub has : own_command u m.system ≡ Some command
  pub asks : ending command left ≡ Asks q world
  pub stands : now ≡ on_system (does u (Running (spent left world command))) m

-- Behind a request: where it is answered the task has its turn still, with the answer, and where the task rests all is orderly.
abbrev pub GoesOn : TaskNo → Served → Type 0
GoesOn u (Replies a m) = IsSystem (given u a m.system) × HasTurn u (given u a m.system)
GoesOn u (Rests m) = IsSystem m.system × AreOrderly m.system
