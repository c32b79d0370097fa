-- A task whose command is over, and the cells behind those of its packets are freed.
use Rattle.std.proofs.Common.{◌≡◌, ℕ, List, length, sym, ap, subst, arith}
use Rattle.std.specs.Prelude.{Result, Ok, Err, OnOk}
use Rattle.eu_base.specs.declared.value.Kind.{Kind}
use Rattle.eu_base.specs.DataSpaces.{Heads}
use Rattle.eu_base.proofs.Heads.{long_heads}
use Rattle.task_ends.specs.Below.cell_kinds.specs.Kinds.{packet_kinds}
use Rattle.page_pool.specs.Pool.{Pages}
use Rattle.task_ends.specs.Below.space_memory.specs.Memories.{MemoryData, StandsWhole, memory_heads, head_of, roots}
use Rattle.task_ends.specs.Below.task_job.specs.Here.{MemoryFrames}
use Rattle.task_ends.specs.Below.space_memory.proofs.Framed.{roots_long}
use Rattle.elan_types.specs.Eval.{World}
use Rattle.task_ends.specs.Below.units.specs.declared.unit.Compiled.{Compiled}
use Rattle.task_ends.specs.Below.system_meaning.specs.Stores.{Store}
use Rattle.task_ends.specs.Below.system_meaning.specs.Tasks.{Command, Own, Idle, own_variables, settled, store_in, with_doing}
use Rattle.task_ends.specs.Below.task_job.specs.Standing.{Leaves, Keeps}
use Rattle.live_task.specs.Stands.{StandsFor, StandsOver}
use Rattle.live_task.specs.declared.task.Task.{Task}
use Rattle.task_ends.proofs.Pages.{whole_then}

-- what stands behind the variables of the packets goes
abbrev pub Frees : Pages → Pages → MemoryData → MemoryData → List Kind → List Kind → Type 0
Frees old new m n kinds inserted = (store : Store) → Leaves kinds inserted old m store → Keeps kinds new n (settled (length kinds) store)

-- so it is for the unit of a command
pub frees_for : (old new : Pages) (m n : MemoryData) (unit other : Compiled) (kinds : List Kind) → unit ≡ other → packet_kinds other.core.packets ≡ kinds
    → Frees old new m n (packet_kinds unit.core.packets) unit.core.inserted → Frees old new m n kinds other.core.inserted
frees_for old new m n unit other kinds is are frees =
    subst (λ ks. Frees old new m n ks other.core.inserted) are
    (subst (λ (u : Compiled). Frees old new m n (packet_kinds u.core.packets) u.core.inserted) is frees)

-- there are as many spaces
pub as_many : (m n : MemoryData) → memory_heads n ≡ memory_heads m → length (roots n) ≡ length (roots m)
as_many m n same =
    let many : length (memory_heads n).live ≡ length (memory_heads m).live = ap (λ (u : Heads). length u.live) same in
    omega (arith, many, long_heads head_of m.spaces, long_heads head_of n.spaces, roots_long m.spaces, roots_long n.spaces)

-- and room for a whole memory still
pub whole_still : (old new : Pages) (m n : MemoryData) → memory_heads n ≡ memory_heads m → MemoryFrames old new (roots m) (roots n)
    → StandsWhole old (roots m) → StandsWhole new (roots n)
whole_still old new m n same f s = whole_then old new (roots m) (roots n) (omega (arith, as_many m n same, s.few)) f s

module _ (kinds : List Kind) (old new : Pages) (was : Task) (memory : MemoryData) (own : Own) (c : Command) (w : World) (unit : Compiled)
    (h : StandsOver kinds old was own c w) (is : c.unit ≡ unit)
    (frees : Frees old new was.memory memory (packet_kinds unit.core.packets) unit.core.inserted) where
  pub settles : StandsFor kinds new (record was { memory = memory }) (with_doing (Idle (settled (own_variables c) (store_in w))) own)
  settles = record {
    packets = h.packets;
    does = (
      h.idle,
      subst (λ n. Keeps kinds new memory (settled n (store_in w))) (sym h.own_are)
          (frees_for old new was.memory memory unit c.unit kinds (sym is) h.kinds_are frees (store_in w) h.leaves),
    );
  }

-- whether memory was wanting or not
pub settled_so : {A E : Type 0} (result : Result A E) (old new : Pages) (was : Task) (memory : MemoryData) (unit : Compiled)
    → OnOk result (Frees old new was.memory memory (packet_kinds unit.core.packets) unit.core.inserted)
    → OnOk result ((kinds : List Kind) (own : Own) (c : Command) (w : World) → StandsOver kinds old was own c w → c.unit ≡ unit
    → StandsFor kinds new (record was { memory = memory }) (with_doing (Idle (settled (own_variables c) (store_in w))) own))
settled_so (Ok x) old new was memory unit frees = λ kinds own c w h is. settles kinds old new was memory own c w unit h is frees
settled_so (Err e) old new was memory unit frees = tt
