-- A task stands for what it stood for where no byte of its spaces changed.
use Rattle.std.proofs.Common.{◌≡◌, ℕ, ◌≤◌, true, List, [], ◌∷◌, Option}
use Rattle.std.specs.Option.{ForSome}
use Rattle.std.specs.List.{AllByRecursion}
use Rattle.eu_base.specs.declared.value.Kind.{Kind}
use Rattle.eu_base.specs.declared.address.Area.{Area}
use Rattle.eu_base.specs.declared.address.Area.TheVariants.{Run, Packets, Space}
use Rattle.eu_base.specs.Spaces.{IsKept}
use Rattle.eu_base.specs.Cells.{Cells}
use Rattle.page_pool.specs.Pool.{Pages}
use Rattle.live_task.specs.Below.page_table.specs.Entries.{Names}
use Rattle.live_task.specs.Below.page_table.specs.Sharing.{occ}
use Rattle.live_task.specs.Below.page_table.proofs.Framing.{named_first, named_later}
use Rattle.live_task.specs.Below.text_heap.specs.Held.{HoldsCells}
use Rattle.live_task.specs.Below.text_heap.proofs.Kept.{kept_held}
use Rattle.live_task.specs.Below.space_memory.specs.Live.{the_space}
use Rattle.live_task.specs.Below.space_memory.specs.Memories.{MemoryData, roots, is_there}
use Rattle.task_job.specs.Here.{Knows, content_at, KeepsBytes, HoldsAll, bytes_in}
use Rattle.live_task.specs.Below.space_memory.proofs.Areas.{root_among}
use Rattle.elan_types.specs.Eval.{World}
use Rattle.live_task.specs.Below.system_meaning.specs.Stores.{Store}
use Rattle.live_task.specs.Below.system_meaning.specs.Tasks.{Command, Doing, Idle, Entering, Running, Own, store_in}
use Rattle.task_job.specs.Standing.{Keeps, Leaves, RunsFor}
use Rattle.live_task.specs.Stands.{DoesAs, StandsFor, StandsOver}
use Rattle.task_job.specs.declared.job.Job.{Job}
use Rattle.live_task.specs.declared.task.Task.{Task}

pub each_kept : (old new : Pages) (names : Names)
    → ((root : Option ℕ) → ForSome root (λ r. 1 ≤ occ r names) → IsKept (content_at old root) (content_at new root))
    → AllByRecursion (λ root. IsKept (content_at old root) (content_at new root)) names
each_kept old new [] kept = tt
each_kept old new (o ∷ os) kept = (kept o (named_first o os), each_kept old new os (λ root among. kept root (named_later o root os among)))

module _ (old new : Pages) (m : MemoryData) (bytes : KeepsBytes old new (roots m)) (cells : Cells) (h : HoldsAll old m cells) where
  area_carried : (area : Area) → is_there area m ≡ true → HoldsCells area (bytes_in area new m) cells
  area_carried Run is = kept_held Run (content_at old m.run.root) (content_at new m.run.root) cells bytes.each.0 (h.there Run is)
  area_carried Packets is =
      kept_held Packets (content_at old m.packets.root) (content_at new m.packets.root) cells bytes.each.1.0 (h.there Packets is)
  area_carried (Space s) is =
      kept_held (Space s) (content_at old (the_space s.0 m.spaces).root) (content_at new (the_space s.0 m.spaces).root) cells
      (root_among (λ root. IsKept (content_at old root) (content_at new root)) s.0 m.spaces is bytes.each.1.1) (h.there (Space s) is)

  pub cells_carried : HoldsAll new m cells
  cells_carried = record { knows = bytes.knows h.knows; there = area_carried; gone = h.gone }

module _ (old new : Pages) (m : MemoryData) (bytes : KeepsBytes old new (roots m)) where
  pub keeps_carried : (kinds : List Kind) (store : Store) → Keeps kinds old m store → Keeps kinds new m store
  keeps_carried kinds store h = record {
    fits = h.fits;
    cells = h.cells;
    holds = cells_carried old new m bytes h.cells h.holds;
    packets = h.packets;
    spaces = h.spaces;
    command = h.command;
  }

  pub leaves_carried : (kinds inserted : List Kind) (store : Store) → Leaves kinds inserted old m store → Leaves kinds inserted new m store
  leaves_carried kinds inserted store h = record {
    left =
        record {
          fits = h.left.fits;
          cells = h.left.cells;
          holds = cells_carried old new m bytes h.left.cells h.left.holds;
          variables = h.left.variables;
          spaces = h.left.spaces;
        };
    command = h.command;
  }

  pub runs_carried : (kinds : List Kind) (job : Job) (c : Command) → RunsFor kinds old m job c → RunsFor kinds new m job c
  runs_carried kinds job c h = record {
    reaches =
        record {
          unit = h.reaches.unit;
          kinds_are = h.reaches.kinds_are;
          fits = h.reaches.fits;
          now = h.reaches.now;
          holds = cells_carried old new m bytes h.reaches.now h.reaches.holds;
          reaches = h.reaches.reaches;
        };
    still = h.still;
  }

module _ (kinds : List Kind) (old new : Pages) (task : Task) (own : Own) where
  pub stands_kept : KeepsBytes old new (roots task.memory) → StandsFor kinds old task own → StandsFor kinds new task own
  stands_kept bytes h = record { packets = h.packets; does = by own.doing h.does }
    where
      by : (d : Doing) → DoesAs kinds old task d → DoesAs kinds new task d
      by (Idle store) k = (k.0, keeps_carried old new task.memory bytes kinds store k.1)
      by (Entering name lines store) k = (k.0, keeps_carried old new task.memory bytes kinds store k.1)
      by (Running c) k = (k.0, k.1, runs_carried old new task.memory bytes kinds k.0 c k.2)

  module _ (known : Knows old → Knows new)
      (kept : (root : Option ℕ) → ForSome root (λ r. 1 ≤ occ r (roots task.memory)) → (n : ℕ) → content_at new root n ≡ content_at old root n) where
    pub stands_carried : StandsFor kinds old task own → StandsFor kinds new task own
    stands_carried h = stands_kept (record { knows = known; each = each_kept old new (roots task.memory) kept }) h

    pub over_carried : (c : Command) (w : World) → StandsOver kinds old task own c w → StandsOver kinds new task own c w
    over_carried c w h = record {
      packets = h.packets;
      idle = h.idle;
      own_are = h.own_are;
      kinds_are = h.kinds_are;
      leaves =
          leaves_carried old new task.memory (record { knows = known; each = each_kept old new (roots task.memory) kept }) kinds c.unit.core.inserted (store_in w)
          h.leaves;
    }
