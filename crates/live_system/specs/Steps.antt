-- How a task goes on in a slice, and how a son begins that runs a start procedure.
use Rattle.std.specs.Prelude.{◌≡◌, ℕ, List, fold, Option, Some, None}
use Rattle.task_numbers.specs.declared.number.TaskNo.{TaskNo}
use Rattle.eu_base.specs.declared.stop.Stop.{Stop}
use Rattle.eu_base.specs.declared.stop.Stop.TheVariants.{Halted}
use Rattle.elan_types.specs.Eval.{World}
use Rattle.elan_types.specs.Command.{Ending, Ended, Stopped, OutOfMarks, Asks}
use Rattle.live_system.specs.Below.units.specs.declared.unit.Compiled.{Compiled}
use Rattle.live_system.specs.Below.system_meaning.specs.Tasks.{Command, Running, ending, world_of, spent}
use Rattle.live_system.specs.Below.system_meaning.specs.Systems.{Moment, does, on_system, woken}
use Rattle.live_system.specs.Below.system_meaning.specs.Ends.{next, no_task}
use Rattle.live_system.specs.Below.system_meaning.specs.Serving.{son_begins}
use Rattle.live_system.specs.Below.live_task.specs.declared.task.Went.{Went as Task}
use Rattle.live_system.specs.Below.live_task.specs.declared.task.Went.TheVariants as task
use Rattle.live_system.specs.declared.runs.Went.{Went}
use Rattle.live_system.specs.declared.runs.Went.TheVariants as went
use Rattle.live_system.specs.declared.runs.Finished.{Finished}
use Rattle.live_system.specs.Machines.{Machine, StandsAt, StandsOverAt}

-- this command is over, and stopped so, if it did
abbrev pub HasFinished : Option Finished → Compiled → Option Stop → Type 0
HasFinished None unit stop = ⊥
HasFinished (Some finished) unit stop = (finished.unit ≡ unit) × (finished.stop ≡ stop)

abbrev pub over_in : Went → Option Finished
over_in (went.Over finished) = Some finished
over_in _ = None

-- how a task went on, with a command that is over told as one
abbrev pub WentSo : Task → Went → Type 0
WentSo task.NotRunning how = how ≡ went.NotRunning
WentSo task.Marked how = how ≡ went.Marked
WentSo (task.Asks q) how = how ≡ went.Asks q
WentSo (task.Over unit code stop) how = HasFinished (over_in how) unit stop

-- the command that is over, if one is
abbrev pub FinishedSo : Task → Option Finished → Type 0
FinishedSo (task.Over unit code stop) finished = HasFinished finished unit stop
FinishedSo _ finished = finished ≡ None

-- a command is over, in this world, and stopped so, if it did
abbrev pub IsOver : Machine → Went → TaskNo → Command → Option Stop → World → Moment → Type 0
IsOver new (went.Over finished) t c stop w m = (finished.unit ≡ c.unit) × (finished.stop ≡ stop) × StandsOverAt new t c w m
IsOver new _ t c stop w m = ⊥

-- a task went so on with so many marks, of which others are left
abbrev pub WentAs : Ending → Machine → TaskNo → ℕ → ℕ → Went → Command → Moment → Type 0
WentAs (Ended w) new t left left' how c m = IsOver new how t c None w m
WentAs (Stopped stop w) new t left left' how c m = IsOver new how t c (Some stop) w m
WentAs (OutOfMarks w) new t left left' how c m =
    (how ≡ went.Marked) × StandsAt new (on_system (does t (Running (spent left w c))) m)
WentAs (Asks q w) new t left left' how c m =
    (how ≡ went.Asks q) × (left' ≡ w.marks) × StandsAt new (on_system (does t (Running (spent left w c))) m)

-- one that runs no command does not
abbrev pub WentOn : Option Command → Machine → TaskNo → ℕ → ℕ → Went → Moment → Type 0
WentOn None new t left left' how m = (how ≡ went.NotRunning) × StandsAt new m
WentOn (Some c) new t left left' how m = WentAs (ending c left) new t left left' how c m

-- the command of a task that is halted is over where it stands
abbrev pub HaltedOver : Machine → Option Finished → TaskNo → Command → Moment → Type 0
HaltedOver new None t c m = ⊥
HaltedOver new (Some finished) t c m =
    (finished.unit ≡ c.unit) × (finished.stop ≡ Some Halted) × StandsOverAt new t c (world_of (ending c 0)) m

abbrev pub HaltedAs : Option Command → Machine → Option Finished → TaskNo → Moment → Type 0
HaltedAs None new how t m = (how ≡ None) × StandsAt new m
HaltedAs (Some c) new how t m = HaltedOver new how t c m

-- a son runs the start procedure, where it is one
abbrev pub BeginsRunning : Option Compiled → Machine → List ℕ → TaskNo → Moment → Option TaskNo → Type 0
BeginsRunning None new name t m began = (began ≡ None) × StandsAt new m
BeginsRunning (Some unit) new name t m began = (began ≡ Some (next m.system)) × StandsAt new (on_system (son_begins name t unit) m)

-- tasks that wait are told one after another that no task answers
abbrev pub woken_each : List TaskNo → Moment → Moment
woken_each ts m = fold (λ (m : Moment) (t : TaskNo). on_system (woken t no_task) m) m ts
