-- A memory over its pool, and one that is equal to it.
use Rattle.std.proofs.Common.{◌≡◌, ℕ, sym, subst}
use Rattle.eu_base.specs.Cells.{Cells}
use Rattle.page_pool.specs.Pool.{Pages}
use Rattle.task_job.specs.Below.page_table.specs.Entries.{Names}
use Rattle.code_form.specs.declared.halt.Halt.{Halt}
use Rattle.code_form.specs.Program.{Program}
use Rattle.code_form.specs.Machine.{Control, Rest}
use Rattle.code_form.specs.Runs.{Rests}
use Rattle.task_job.specs.Below.zero_state.specs.Stepping.{mem_of, scene_of}
use Rattle.task_job.specs.Below.zero_machine.specs.Running.{RestsSo}
use Rattle.space_memory.specs.Memories.{MemoryData, StandsWhole, memory_heads}
use Rattle.task_job.specs.Here.{HoldsAll}

-- what is known of the cells of equal memories
pub holds_there : (p p' : Pages) (m m' : MemoryData) (cells : Cells) → m' ≡ m → p' ≡ p → HoldsAll p m cells → HoldsAll p' m' cells
holds_there p p' m m' cells same pool h =
    subst (λ pages. HoldsAll pages m' cells) (sym pool) (subst (λ (u : MemoryData). HoldsAll p u cells) (sym same) h)

pub whole_there : (p p' : Pages) (names names' : Names) → names' ≡ names → p' ≡ p → StandsWhole p names → StandsWhole p' names'
whole_there p p' names names' same pool s =
    subst (λ pages. StandsWhole pages names') (sym pool) (subst (StandsWhole p) (sym same) s)

pub so_there : (p p' : Pages) (m m' : MemoryData) (h : Halt) (run : Control) (marks : ℕ) (r : Rest) → m' ≡ m → p' ≡ p
    → RestsSo (HoldsAll p m) (memory_heads m) h run marks r → RestsSo (HoldsAll p' m') (memory_heads m') h run marks r
so_there p p' m m' h run marks r same pool so =
    subst (λ (pages : Pages). RestsSo (HoldsAll pages m') (memory_heads m') h run marks r) (sym pool)
    (subst (λ (u : MemoryData). RestsSo (HoldsAll p u) (memory_heads u) h run marks r) (sym same) so)

pub rests_there : (code : Program) (run : Control) (m m' : MemoryData) (cells : Cells) (marks : ℕ) (r : Rest) → m' ≡ m
    → Rests code run (scene_of (mem_of (memory_heads m) cells) marks) r → Rests code run (scene_of (mem_of (memory_heads m') cells) marks) r
rests_there code run m m' cells marks r same h =
    subst (λ (u : MemoryData). Rests code run (scene_of (mem_of (memory_heads u) cells) marks) r) (sym same) h
