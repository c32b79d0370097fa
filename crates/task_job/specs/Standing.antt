-- What it means that a job, over the memory of its task, does what a command of the source machine does, and what a memory keeps.
use Rattle.std.specs.Prelude.{◌≡◌, ℕ, ◌≤◌, true, false, List, ◌++◌, length, take}
use Rattle.eu_base.specs.declared.value.Kind.{Kind}
use Rattle.eu_base.specs.declared.address.Area.TheVariants.{Packets}
use Rattle.eu_base.specs.Room.{cells_fit}
use Rattle.eu_base.specs.declared.request.Request.{Request}
use Rattle.eu_base.specs.Requests.{Answer, reply_changes}
use Rattle.eu_base.specs.Cells.{Free, Cells, run_cell, packet_cell}
use Rattle.eu_base.specs.DataSpaces.{Spaces, heads_after}
use Rattle.eu_base.specs.SoundSpaces.{CanCome}
use Rattle.task_job.specs.Below.cell_kinds.specs.Kinds.{packet_kinds}
use Rattle.page_pool.specs.Pool.{Pages}
use Rattle.space_memory.specs.Memories.{MemoryData, memory_heads}
use Rattle.task_job.specs.Here.{HoldsAll}
use Rattle.code_form.specs.declared.halt.Halt.{Halt}
use Rattle.code_form.specs.declared.halt.Halt.TheVariants as halts
use Rattle.code_form.specs.Machine.{after_reply}
use Rattle.code_form.specs.Valid.{Fits}
use Rattle.task_job.specs.Below.zero_state.specs.Stepping.{mem_of}
use Rattle.task_job.specs.Below.place_gen.specs.Correct.{Image, HasVariables, HasSpaces}
use Rattle.elan_types.specs.Eval.{Slot}
use Rattle.elan_types.specs.Command.{Ending, Ended, Stopped, OutOfMarks, Asks}
use Rattle.packet_store.specs.Units.{IsUnit}
use Rattle.system_meaning.specs.Stores.{Store}
use Rattle.system_meaning.specs.Tasks.{Command, store_in, spent}
use Rattle.task_job.specs.Runs.{IsStill, Reaches}
use Rattle.task_job.specs.declared.job.Job.{Job}

-- ---- what a task keeps

-- The variables of packets, which have these kinds, stand in their cells, behind them those of a packet that is inserted, and nothing is
-- known of other cells. Where all together have no room, those of the packets stand there alone.
pub record HasBehind (kinds inserted : List Kind) (slots : List Slot) (cells : Cells) : Type 0 where
  pub all : HasVariables Packets (kinds ++ inserted) slots cells
  pub front : Image Packets (take (length kinds) slots) cells
  pub bare : cells_fit (length (kinds ++ inserted)) ≡ false → (x : ℕ) → length kinds ≤ x → cells (packet_cell x) ≡ Free

-- a memory of which these cells are known has these data spaces
abbrev pub KeepsSpaces : MemoryData → Spaces → Cells → Type 0
KeepsSpaces memory spaces cells = HasSpaces spaces (mem_of (memory_heads memory) cells)

-- a task that runs no command has variables of these kinds, for which there is room, and its data spaces, and nothing is known of the cells of a command
pub record Keeps (kinds : List Kind) (pages : Pages) (memory : MemoryData) (store : Store) : Type 0 where
  pub fits : cells_fit (length kinds) ≡ true
  pub cells : Cells
  pub holds : HoldsAll pages memory cells
  pub packets : HasVariables Packets kinds store.variables cells
  pub spaces : KeepsSpaces memory store.spaces cells
  pub command : (x : ℕ) → cells (run_cell x) ≡ Free

-- what a command leaves that is over; then the cells of the command are cleared
pub record Left (kinds inserted : List Kind) (pages : Pages) (memory : MemoryData) (store : Store) : Type 0 where
  pub fits : cells_fit (length kinds) ≡ true
  pub cells : Cells
  pub holds : HoldsAll pages memory cells
  pub variables : HasBehind kinds inserted store.variables cells
  pub spaces : KeepsSpaces memory store.spaces cells

pub record Leaves (kinds inserted : List Kind) (pages : Pages) (memory : MemoryData) (store : Store) : Type 0 where
  pub left : Left kinds inserted pages memory store
  pub command : (x : ℕ) → left.cells (run_cell x) ≡ Free

-- ---- what it does

-- A run stands for a command of the source machine: its code is that of the command, and it stands where the command stands.
pub record ReachesFor (kinds : List Kind) (pages : Pages) (memory : MemoryData) (job : Job) (c : Command) : Type 0 where
  pub unit : job.unit ≡ c.unit
  pub kinds_are : packet_kinds c.unit.core.packets ≡ kinds
  pub fits : cells_fit (length kinds) ≡ true
  pub now : Cells
  pub holds : HoldsAll pages memory now
  pub reaches : Reaches c.unit.core c.before.variables c.before.spaces c.marks c.replies job.code job.run (mem_of (memory_heads memory) now)

-- and right before its next mark, its end or its stop
pub record RunsFor (kinds : List Kind) (pages : Pages) (memory : MemoryData) (job : Job) (c : Command) : Type 0 where
  pub reaches : ReachesFor kinds pages memory job c
  pub still : IsStill job.code job.run (mem_of (memory_heads memory) reaches.now)

-- What an answer to a request does to the data spaces of a memory is done: the one that was sent was taken out, and the one that came with a message
-- was given. With most answers that is nothing.
pub record Receives (q : Request) (a : Answer) (old new : Pages) (m n : MemoryData) : Type 0 where
  pub content : CanCome a.content
  pub heads : memory_heads n ≡ heads_after (reply_changes q a (memory_heads m)) (memory_heads m)
  pub holds : (cells : Cells) → HoldsAll old m cells → HoldsAll new n (after_reply q a (mem_of (memory_heads m) cells)).cells

-- ---- a command that runs fits its code

pub record IsSoundJob (job : Job) : Type 0 where
  pub unit : IsUnit job.unit
  pub fits : Fits job.code job.run

-- ---- a command that goes on

-- a run came so to rest, as the command does that had so many marks more
abbrev pub RestsFor : List Kind → Pages → MemoryData → Job → ℕ → ℕ → Halt → Command → Ending → Type 0
RestsFor kinds pages memory job left left' halt c (Ended w) = (halt ≡ halts.Ended) × Left kinds c.unit.core.inserted pages memory (store_in w)
RestsFor kinds pages memory job left left' halt c (Stopped stop w) =
    (halt ≡ halts.Stopped stop) × Left kinds c.unit.core.inserted pages memory (store_in w)
RestsFor kinds pages memory job left left' halt c (OutOfMarks w) =
    (halt ≡ halts.Marked) × (left' ≡ w.marks) × RunsFor kinds pages memory job (spent left w c)
RestsFor kinds pages memory job left left' halt c (Asks q w) = (halt ≡ halts.Asks q) × (left' ≡ w.marks) × RunsFor kinds pages memory job (spent left w c)
