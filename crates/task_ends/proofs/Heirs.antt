-- A son, and its father.
use Rattle.std.proofs.Common.{◌≡◌, ℕ, true, false, true≢false, List, [], ◌++◌, None, refl, sym, ap, ◌∙◌, subst}
use Rattle.eu_base.specs.declared.value.Kind.{Kind}
use Rattle.eu_base.specs.declared.address.Area.{Area}
use Rattle.eu_base.specs.declared.address.Area.TheVariants.{Run, Packets, Space}
use Rattle.eu_base.specs.Cells.{Cell, Free, Cells, area_cell}
use Rattle.eu_base.specs.DataSpaces.{Heads, Spaces, no_spaces}
use Rattle.task_ends.specs.Below.cell_kinds.specs.Kinds.{packet_kinds}
use Rattle.page_pool.specs.Pool.{Pages}
use Rattle.task_ends.specs.Below.text_heap.specs.Held.{HoldsCells}
use Rattle.task_ends.specs.Below.text_heap.proofs.Kept.{kept_held, moved_held}
use Rattle.task_ends.specs.Below.space_memory.specs.Memories.{MemoryData, heir, roots, is_there, memory_heads}
use Rattle.task_ends.specs.Below.task_job.specs.Here.{content_at, KeepsBytes, HoldsAll, bytes_in}
use Rattle.task_ends.specs.Below.task_job.proofs.Here.{nothing_held}
use Rattle.task_ends.specs.Below.system_meaning.specs.Stores as stores
use Rattle.task_ends.specs.Below.system_meaning.specs.Stores.{Store}
use Rattle.task_ends.specs.Below.system_meaning.specs.Tasks.{Command, Doing, Idle, Entering, Running, Own, ending, world_of, store_in, settled, now}
use Rattle.task_ends.specs.Below.task_job.specs.Standing.{KeepsSpaces, Keeps, Left, Leaves, RunsFor}
use Rattle.task_ends.specs.Below.task_job.specs.declared.job.Job.{Job}
use Rattle.task_ends.specs.Below.task_job.proofs.Beginning.{same_variables}
use Rattle.task_ends.specs.Below.task_job.proofs.Keeping.{none_live}
use Rattle.task_ends.specs.Below.task_job.proofs.Standing.{many_own, left_now}
use Rattle.live_task.specs.Stands.{DoesAs, StandsFor}
use Rattle.live_task.specs.declared.task.Task.{Task}
use Rattle.live_task.specs.declared.task.Doing.TheVariants as does
use Rattle.live_task.proofs.Tasking.{runs_for}
use Rattle.task_ends.proofs.Settled.{Frees, frees_for}

-- ---- what a son keeps

-- the cells of the packets, and nothing is known of those of a command and of data spaces
abbrev known_in : Area → Cell → Cell
known_in Run x = Free
known_in Packets x = x
known_in (Space s) x = Free

abbrev left_alone : Cells → Cells
left_alone cells = λ a. known_in a.area (cells a)

module _ (old new : Pages) (m : MemoryData) (k : KeepsBytes old new (roots m)) where
  heir_holds : (cells : Cells) → HoldsAll old m cells → HoldsAll new (heir m) (left_alone cells)
  heir_holds cells h = record { knows = k.knows h.knows; there = there; gone = gone }
    where
      there : (area : Area) → is_there area (heir m) ≡ true → HoldsCells area (bytes_in area new (heir m)) (left_alone cells)
      there Run is = moved_held Run Run (content_at new None) (λ _. Free) (left_alone cells) (λ c. refl) (nothing_held Run new)
      there Packets is =
          moved_held Packets Packets (content_at new m.packets.root) cells (left_alone cells) (λ c. refl)
          (kept_held Packets (content_at old m.packets.root) (content_at new m.packets.root) cells k.each.1.0 (h.there Packets refl))
      there (Space s) is = absurd (true≢false (sym is))

      gone : (area : Area) → is_there area (heir m) ≡ false → (x : ℕ) → left_alone cells (area_cell area x) ≡ Free
      gone Run not x = refl
      gone Packets not x = absurd (true≢false not)
      gone (Space s) not x = refl

  heir_spaces : (spaces : Spaces) (cells : Cells) → KeepsSpaces m spaces cells
      → KeepsSpaces (heir m) (record no_spaces { last = spaces.last }) (left_alone cells)
  heir_spaces spaces cells h =
      let last : m.last ≡ spaces.last = ap (λ (u : Heads). u.last) h.heads in
      subst (λ n. KeepsSpaces (record (heir m) { last = n }) (record no_spaces { last = spaces.last }) (left_alone cells)) (sym last)
      (none_live spaces.last (left_alone cells) h.sound.given (λ s x. refl))

  idle_heir : (kinds : List Kind) (store : Store) → Keeps kinds old m store → Keeps kinds new (heir m) (stores.heir store)
  idle_heir kinds store h = record {
    fits = h.fits;
    cells = left_alone h.cells;
    holds = heir_holds h.cells h.holds;
    packets = same_variables Packets kinds store.variables h.cells (left_alone h.cells) (λ x. refl) h.packets;
    spaces = heir_spaces store.spaces h.cells h.spaces;
    command = λ x. refl;
  }

  -- of a father that runs, with the variables of a packet that is inserted
  running_heir : (kinds inserted : List Kind) (store : Store) → Left kinds inserted old m store → Leaves kinds inserted new (heir m) (stores.heir store)
  running_heir kinds inserted store h = record {
    left =
        record {
          fits = h.fits;
          cells = left_alone h.cells;
          holds = heir_holds h.cells h.holds;
          variables =
              record {
                all = same_variables Packets (kinds ++ inserted) store.variables h.cells (left_alone h.cells) (λ x. refl) h.variables.all;
                front = h.variables.front;
                bare = h.variables.bare;
              };
          spaces = heir_spaces store.spaces h.cells h.spaces;
        };
    command = λ x. refl;
  }

module _ (old new : Pages) (m son : MemoryData) (is : son ≡ heir m) (k : KeepsBytes old new (roots m)) where
  idle_son : (kinds : List Kind) (store : Store) → Keeps kinds old m store → Keeps kinds new son (stores.heir store)
  idle_son kinds store h = subst (λ (u : MemoryData). Keeps kinds new u (stores.heir store)) (sym is) (idle_heir old new m k kinds store h)

  -- the variables of a packet that is inserted went
  running_son : (kinds : List Kind) (job : Job) (c : Command) → RunsFor kinds old m job c → (last : Pages) (n : MemoryData)
      → Frees new last son n (packet_kinds job.unit.core.packets) job.unit.core.inserted → Keeps kinds last n (stores.heir (now (Running c)))
  running_son kinds job c h last n frees =
      let store = store_in (world_of (ending c 0)) in
      let leaves = subst (λ (u : MemoryData). Leaves kinds c.unit.core.inserted new u (stores.heir store)) (sym is)
      (running_heir old new m k kinds c.unit.core.inserted store (left_now kinds old m job c h)) in
      subst (λ j. Keeps kinds last n (settled j (stores.heir store))) (sym (many_own kinds old m job c h))
      (frees_for new last son n job.unit c.unit kinds h.reaches.unit h.reaches.kinds_are frees (stores.heir store) leaves)

-- ---- a task and its son

module _ (kinds : List Kind) (old new : Pages) (task : Task) (son : MemoryData) (own : Own) (is : son ≡ heir task.memory)
    (k : KeepsBytes old new (roots task.memory)) (h : StandsFor kinds old task own) where
  pub son_of_idle : ((job : Job) → task.doing ≡ does.Running job → ⊥) → Keeps kinds new son (stores.heir (now own.doing))
  son_of_idle not = by own.doing h.does
    where
      by : (d : Doing) → DoesAs kinds old task d → Keeps kinds new son (stores.heir (now d))
      by (Idle store) g = idle_son old new task.memory son is k kinds store g.1
      by (Entering name lines store) g = idle_son old new task.memory son is k kinds store g.1
      by (Running c) g = absurd (not g.0 g.1)

  pub son_of_running : (job : Job) → task.doing ≡ does.Running job → (last : Pages) (n : MemoryData)
      → Frees new last son n (packet_kinds job.unit.core.packets) job.unit.core.inserted → Keeps kinds last n (stores.heir (now own.doing))
  son_of_running job runs last n frees =
      let r = runs_for kinds old task own h job runs in
      subst (λ (d : Doing). Keeps kinds last n (stores.heir (now d))) (sym r.1)
      (running_son old new task.memory son is k kinds job r.0 r.2 last n frees)

-- an idle task with this memory
pub son_stands : (kinds : List Kind) (old new : Pages) (task : Task) (packets : List ℕ) (memory : MemoryData) (own : Own) → StandsFor kinds old task own
    → packets ≡ task.packets → Keeps kinds new memory (stores.heir (now own.doing))
    → StandsFor kinds new (record { packets = packets; memory = memory; doing = does.Idle })
    (record { packets = own.packets; doing = Idle (stores.heir (now own.doing)) })
son_stands kinds old new task packets memory own h same keeps = record { packets = same ∙ h.packets; does = (refl, keeps) }
