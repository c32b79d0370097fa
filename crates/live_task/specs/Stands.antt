-- What it means that a task, over its pages, does what a task of the source machine does.
use Rattle.std.specs.Prelude.{◌≡◌, ℕ, ◌<◌, ◌≤◌, List, length, Option, Some, None}
use Rattle.std.specs.List.{All}
use Rattle.eu_base.specs.declared.value.Kind.{Kind}
use Rattle.eu_base.specs.declared.request.Request.{Request}
use Rattle.eu_base.specs.Requests.{Answer}
use Rattle.eu_base.specs.declared.stop.Stop.{Stop}
use Rattle.eu_base.specs.declared.stop.Stop.TheVariants.{Halted}
use Rattle.live_task.specs.Below.cell_kinds.specs.Kinds.{packet_kinds}
use Rattle.page_pool.specs.Pool.{Pages}
use Rattle.live_task.specs.Below.space_names.specs.Directory as directory
use Rattle.live_task.specs.Below.space_memory.specs.Memories.{MemoryData}
use Rattle.elan_types.specs.Eval.{World}
use Rattle.elan_types.specs.Command.{Ending, Ended, Stopped, OutOfMarks, Asks}
use Rattle.live_task.specs.Below.packet_store.specs.Units.{IsUnit}
use Rattle.live_task.specs.Below.source_texts.specs.declared.shape.TheConstants.{LONGEST_LINE}
use Rattle.live_task.specs.Below.source_texts.specs.Sources.{most_lines}
use Rattle.live_task.specs.Below.system_meaning.specs.Stores.{Store, most_live, last_number}
use Rattle.live_task.specs.Below.system_meaning.specs.Tasks.{Command, Doing, Idle, Entering, Running, Own, ending, world_of, store_in, own_variables, spent, request_of, with_doing}
use Rattle.task_job.specs.Standing.{Keeps, Left, Leaves, RunsFor, Receives, IsSoundJob}
use Rattle.task_job.specs.declared.job.Job.{Job}
use Rattle.live_task.specs.declared.task.Task.{Task}
use Rattle.live_task.specs.declared.task.Doing.{Doing as Does}
use Rattle.live_task.specs.declared.task.Doing.TheVariants as does
use Rattle.live_task.specs.declared.task.Went.{Went}
use Rattle.live_task.specs.declared.task.Went.TheVariants as went

-- ---- what it does

abbrev pub DoesAs : List Kind → Pages → Task → Doing → Type 0
DoesAs kinds pages task (Idle store) = (task.doing ≡ does.Idle) × Keeps kinds pages task.memory store
DoesAs kinds pages task (Entering name lines store) = (task.doing ≡ does.Entering name lines) × Keeps kinds pages task.memory store
DoesAs kinds pages task (Running c) = (job : Job) × (task.doing ≡ does.Running job) × RunsFor kinds pages task.memory job c

-- the kinds are those of the variables of the task's packets
pub record StandsFor (kinds : List Kind) (pages : Pages) (task : Task) (own : Own) : Type 0 where
  pub packets : task.packets ≡ own.packets
  pub does : DoesAs kinds pages task own.doing

-- a task whose command is over: the variables of a packet that was inserted stand behind those of its packets
pub record StandsOver (kinds : List Kind) (pages : Pages) (task : Task) (own : Own) (c : Command) (w : World) : Type 0 where
  pub packets : task.packets ≡ own.packets
  pub idle : task.doing ≡ does.Idle
  pub own_are : own_variables c ≡ length kinds
  pub kinds_are : packet_kinds c.unit.core.packets ≡ kinds
  pub leaves : Leaves kinds c.unit.core.inserted pages task.memory (store_in w)

-- what an answer does to the data spaces of a task is done; to those of one that asks nothing nothing is
abbrev pub Received : Option Request → Answer → Pages → Pages → MemoryData → MemoryData → Type 0
Received None a old new m n = (old ≡ new) × (m ≡ n)
Received (Some q) a old new m n = Receives q a old new m n

-- A task stood for this, and what an answer does to its data spaces was done since: with the answer it stands for what the other is with it.
pub record Due (kinds : List Kind) (pages : Pages) (task : Task) (own : Own) (a : Answer) : Type 0 where
  pub old : Pages
  pub before : MemoryData
  pub stood : StandsFor kinds old (record task { memory = before }) own
  pub received : Received (request_of own.doing) a old pages before task.memory

-- ---- a task is sound

-- a text that is entered: it has room, and when it ends there is room for its space and a number for it
pub record IsEntering (memory : MemoryData) (name : List ℕ) (lines : List (List ℕ)) : Type 0 where
  pub few : length lines ≤ most_lines
  pub short : All (λ line. length line ≤ LONGEST_LINE) lines
  pub room : (directory.get name memory.names ≡ None) → length memory.spaces < most_live
  pub number : memory.last < last_number

-- and a command that runs fits its code
abbrev pub IsSoundDoing : MemoryData → Does → Type 0
IsSoundDoing memory does.Idle = Unit {0}
IsSoundDoing memory (does.Entering name lines) = IsEntering memory name lines
IsSoundDoing memory (does.Running job) = IsSoundJob job

abbrev pub IsSound : Task → Type 0
IsSound task = IsSoundDoing task.memory task.doing

-- what is given back of a command that is over
abbrev pub IsWhole : Went → Type 0
IsWhole (went.Over unit code stop) = IsUnit unit
IsWhole _ = Unit {0}

-- ---- a command that goes on

-- the command is over, and stopped so, if it did
abbrev pub IsOver : Went → Command → Option Stop → Type 0
IsOver (went.Over unit code stop) c s = (unit ≡ c.unit) × (stop ≡ s)
IsOver _ c s = ⊥

-- a task that runs a command went so on
abbrev pub WentAs : List Kind → Pages → Task → ℕ → ℕ → Went → Own → Command → Ending → Type 0
WentAs kinds pages task left left' how own c (Ended w) = IsOver how c None × StandsOver kinds pages task own c w
WentAs kinds pages task left left' how own c (Stopped stop w) = IsOver how c (Some stop) × StandsOver kinds pages task own c w
WentAs kinds pages task left left' how own c (OutOfMarks w) =
    (how ≡ went.Marked) × (left' ≡ w.marks) × StandsFor kinds pages task (with_doing (Running (spent left w c)) own)
WentAs kinds pages task left left' how own c (Asks q w) =
    (how ≡ went.Asks q) × (left' ≡ w.marks) × StandsFor kinds pages task (with_doing (Running (spent left w c)) own)

-- and one that runs none did not
abbrev pub WentOn : List Kind → Pages → Task → ℕ → ℕ → Went → Own → Doing → Type 0
WentOn kinds pages task left left' how own (Idle store) = (how ≡ went.NotRunning) × (left' ≡ left) × StandsFor kinds pages task own
WentOn kinds pages task left left' how own (Entering name lines store) = (how ≡ went.NotRunning) × (left' ≡ left) × StandsFor kinds pages task own
WentOn kinds pages task left left' how own (Running c) = WentAs kinds pages task left left' how own c (ending c left)

-- a task that is halted: its command is over where it stands
abbrev pub HaltedAs : List Kind → Pages → Task → Went → Own → Doing → Type 0
HaltedAs kinds pages task how own (Idle store) = (how ≡ went.NotRunning) × StandsFor kinds pages task own
HaltedAs kinds pages task how own (Entering name lines store) = (how ≡ went.NotRunning) × StandsFor kinds pages task own
HaltedAs kinds pages task how own (Running c) = IsOver how c (Some Halted) × StandsOver kinds pages task own c (world_of (ending c 0))

-- the command that a task runs is over: its cells are cleared. Where it runs none, nothing changes
abbrev pub EndsAs : Pages → Pages → Task → Task → Option Stop → Went → Does → Type 0
EndsAs old new was now stop how does.Idle = (how ≡ went.NotRunning) × (new ≡ old) × (now ≡ was)
EndsAs old new was now stop how (does.Entering name lines) = (how ≡ went.NotRunning) × (new ≡ old) × (now ≡ was)
EndsAs old new was now stop how (does.Running job) =
    (how ≡ went.Over job.unit job.code stop) × (now ≡ record was { memory = now.memory; doing = does.Idle })
    × ((kinds inserted : List Kind) (store : Store) → Left kinds inserted old was.memory store → Leaves kinds inserted new now.memory store)
