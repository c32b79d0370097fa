-- A data space goes from one of the tasks to another, and then their answers are due.
use Rattle.std.specs.Prelude.{◌≡◌, ◌≢◌, ◌<◌, ℕ, true, List, map, set, length, Option, Some, None, slice_get}
use Rattle.std.specs.List.{AllZip}
use Rattle.eu_base.specs.declared.value.Kind.{Kind}
use Rattle.eu_base.specs.Requests.{Answer}
use Rattle.page_pool.specs.Pool.{Pages}
use Rattle.live_tasks.specs.Below.space_memory.specs.Live.{IsLive}
use Rattle.task_numbers.specs.declared.number.SpaceNo.{SpaceNo}
use Rattle.live_tasks.specs.Below.system_meaning.specs.Tasks.{Own}
use Rattle.live_tasks.specs.Below.live_task.specs.declared.task.Task.{Task}
use Rattle.live_tasks.specs.Below.live_task.specs.Stands.{StandsFor, Due}
use Rattle.live_tasks.specs.Below.task_messages.specs.Passing.{does_run}
use Rattle.live_tasks.specs.Tasks.{Live}

-- ---- answers that are due

-- what a task has for itself, and the answer that it is due to get, if one is
pub record Owed : Type 0 where
  pub own : Own
  pub due : Option Answer

abbrev pub paid : Own → Owed
paid own = record { own = own; due = None }

abbrev pub owing : Answer → Own → Owed
owing a own = record { own = own; due = Some a }

abbrev pub StandsOrDue : List Kind → Pages → Task → Own → Option Answer → Type 0
StandsOrDue kinds pages task own None = StandsFor kinds pages task own
StandsOrDue kinds pages task own (Some a) = Due kinds pages task own a

-- there are as many tasks, and each stands for its own, or is due to get its answer
abbrev pub StandOrDue : (List ℕ → List Kind) → Live → List Owed → Type 0
StandOrDue kinds_of live all = AllZip (λ task (x : Owed). StandsOrDue (kinds_of x.own.packets) live.pages task x.own x.due) live.tasks all

-- those at two places are due to get these
abbrev pub handing : ℕ → Answer → Own → ℕ → Answer → Own → List Own → List Owed
handing from taken mine to message other owns = set (set (map paid owns) from (owing taken mine)) to (owing message other)

-- ---- whether it can go

-- the first runs a command and has the data space; the second, which is another, runs one too and has room for the space, and a number
pub record CanGo (tasks : List Task) (from to : ℕ) (space : SpaceNo) : Type 0 where
  pub apart : from ≢ to
  pub sends : (task : Task) → slice_get tasks from ≡ Some task → (does_run task.doing ≡ true) × IsLive space.0 task.memory.spaces
  pub takes : (task : Task) → slice_get tasks to ≡ Some task →
      (does_run task.doing ≡ true) × (length task.memory.spaces < 16) × (task.memory.last < 4294967295)
