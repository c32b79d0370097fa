-- A task that has nothing.
use Rattle.std.proofs.Common.{◌≡◌, ℕ, List, [], length, sym, ◌∙◌, ap, arith}
use Rattle.std.proofs.lemmas.List.{length-map}
use Rattle.eu_base.specs.DataSpaces.{Heads}
use Rattle.eu_base.proofs.Heads.{long_heads}
use Rattle.page_pool.specs.Pool.{Pages}
use Rattle.live_tasks.specs.Below.data_space.specs.Data.{SpaceData}
use Rattle.live_tasks.specs.Below.space_memory.specs.Memories.{head_of}
use Rattle.live_tasks.specs.Below.system_meaning.specs.Systems.{new_own}
use Rattle.live_tasks.specs.Below.live_task.specs.declared.task.Task.{Task}
use Rattle.live_tasks.specs.Below.live_task.specs.Stands.{StandsFor}
use Rattle.live_tasks.specs.Tasks.{task_roots}

-- it has two spaces, without bytes
pub two_roots : (pages : Pages) (task : Task) → StandsFor [] pages task new_own → length (task_roots task) ≡ 2
two_roots pages task h =
    let none : length task.memory.spaces ≡ 0 =
    sym (long_heads head_of task.memory.spaces) ∙ ap (λ (heads : Heads). length heads.live) h.does.1.spaces.heads in
    omega (arith, none, length-map task.memory.spaces (λ (s : ℕ × SpaceData). s.1.root))
