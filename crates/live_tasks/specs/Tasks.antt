-- What it means that tasks over one pool do what the tasks of the source machine do.
use Rattle.std.specs.Prelude.{◌≡◌, ◌≢◌, ℕ, ◌≤◌, List, length, Option, Some, None, slice_get}
use Rattle.std.specs.List.{All, AllZip, flat_map, remove}
use Rattle.eu_base.specs.declared.value.Kind.{Kind}
use Rattle.eu_base.specs.declared.stop.Stop.TheVariants.{Halted}
use Rattle.page_pool.specs.Pool.{Pages}
use Rattle.live_tasks.specs.Below.page_table.specs.Entries.{Names}
use Rattle.live_tasks.specs.Below.page_table.specs.Sharing.{Agree}
use Rattle.live_tasks.specs.Below.space_memory.specs.Memories.{roots, most_roots}
use Rattle.elan_types.specs.Eval.{World}
use Rattle.elan_types.specs.Command.{Ending, Ended, Stopped, OutOfMarks, Asks}
use Rattle.live_tasks.specs.Below.system_meaning.specs.Tasks.{Command, Doing, Idle, Entering, Running, Own, ending, world_of, spent, with_doing}
use Rattle.live_tasks.specs.Below.system_meaning.specs.Systems.{with_own}
use Rattle.live_tasks.specs.Below.live_task.specs.declared.task.Task.{Task}
use Rattle.live_tasks.specs.Below.live_task.specs.declared.task.Went.{Went}
use Rattle.live_tasks.specs.Below.live_task.specs.declared.task.Went.TheVariants as went
use Rattle.live_tasks.specs.Below.live_task.specs.Stands.{StandsFor, StandsOver, IsSound, IsOver}

-- the pages of the pool, and the tasks in the order of the tree
pub record Live : Type 0 where
  pub pages : Pages
  pub tasks : List Task

abbrev pub task_roots : Task → Names
task_roots task = roots task.memory

-- the roots of the spaces of all tasks, one after another
abbrev pub all_roots : List Task → Names
all_roots tasks = flat_map task_roots tasks

-- ---- tasks over their pool

abbrev pub most_tasks : ℕ
most_tasks = 16

-- The pool agrees with the spaces of the tasks and no others, and there are not too many of them; each task is sound.
pub record IsFit (pages : Pages) (tasks : List Task) : Type 0 where
  pub agree : ∥ Agree pages (all_roots tasks) ∥₁
  pub few : length tasks ≤ most_tasks
  pub small : All (λ task. length (task_roots task) ≤ most_roots) tasks
  pub sound : All IsSound tasks

-- ---- what they do

-- There are as many, and each task stands for its own. What kinds the variables of packets have is told by the packets' numbers.
abbrev pub StandIn : (List ℕ → List Kind) → Pages → List Task → List Own → Type 0
StandIn kinds_of pages tasks owns = AllZip (λ task own. StandsFor (kinds_of own.packets) pages task own) tasks owns

abbrev pub Stand : (List ℕ → List Kind) → Live → List Own → Type 0
Stand kinds_of live owns = StandIn kinds_of live.pages live.tasks owns

-- all do but the one at this place
pub record StandBut (kinds_of : List ℕ → List Kind) (live : Live) (owns : List Own) (k : ℕ) : Type 0 where
  pub as_many : length live.tasks ≡ length owns
  pub others : StandIn kinds_of live.pages (remove live.tasks k) (remove owns k)

-- and the command of that one is over
pub record StandOver (kinds_of : List ℕ → List Kind) (live : Live) (owns : List Own) (k : ℕ) (c : Command) (w : World) : Type 0 where
  pub but : StandBut kinds_of live owns k
  pub over : (task : Task) (own : Own) → slice_get live.tasks k ≡ Some task → slice_get owns k ≡ Some own →
      StandsOver (kinds_of own.packets) live.pages task own c w

-- the same kinds, for all tasks but the one at this place
abbrev pub AgreeBut : (List ℕ → List Kind) → (List ℕ → List Kind) → List Own → ℕ → Type 0
AgreeBut kinds_of later owns k = (j : ℕ) (own : Own) → j ≢ k → slice_get owns j ≡ Some own → later own.packets ≡ kinds_of own.packets

-- ---- a task that goes on

-- the task at this place, which runs a command, went so on
abbrev pub WentAs : (List ℕ → List Kind) → Live → List Own → ℕ → ℕ → ℕ → Went → Command → Ending → Type 0
WentAs kinds_of live owns k left left' how c (Ended w) = IsOver how c None × StandOver kinds_of live owns k c w
WentAs kinds_of live owns k left left' how c (Stopped stop w) = IsOver how c (Some stop) × StandOver kinds_of live owns k c w
WentAs kinds_of live owns k left left' how c (OutOfMarks w) =
    (how ≡ went.Marked) × (left' ≡ w.marks) × Stand kinds_of live (with_own k (with_doing (Running (spent left w c))) owns)
WentAs kinds_of live owns k left left' how c (Asks q w) =
    (how ≡ went.Asks q) × (left' ≡ w.marks) × Stand kinds_of live (with_own k (with_doing (Running (spent left w c))) owns)

-- and one that runs none did not
abbrev pub WentOn : (List ℕ → List Kind) → Live → List Own → ℕ → ℕ → ℕ → Went → Doing → Type 0
WentOn kinds_of live owns k left left' how (Idle store) = (how ≡ went.NotRunning) × (left' ≡ left) × Stand kinds_of live owns
WentOn kinds_of live owns k left left' how (Entering name lines store) = (how ≡ went.NotRunning) × (left' ≡ left) × Stand kinds_of live owns
WentOn kinds_of live owns k left left' how (Running c) = WentAs kinds_of live owns k left left' how c (ending c left)

-- the task at this place is halted: its command is over where it stands
abbrev pub HaltedAs : (List ℕ → List Kind) → Live → List Own → ℕ → Went → Doing → Type 0
HaltedAs kinds_of live owns k how (Idle store) = (how ≡ went.NotRunning) × Stand kinds_of live owns
HaltedAs kinds_of live owns k how (Entering name lines store) = (how ≡ went.NotRunning) × Stand kinds_of live owns
HaltedAs kinds_of live owns k how (Running c) = IsOver how c (Some Halted) × StandOver kinds_of live owns k c (world_of (ending c 0))
