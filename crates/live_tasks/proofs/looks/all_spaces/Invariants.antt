use Rattle.std.proofs.Common.{◌≡◌, ℕ, ◌*◌, ◌≤◌, List, map, sum, take}
use Rattle.eu_base.specs.declared.value.Kind.{Kind}
use Rattle.page_pool.specs.Pool.{Pages}
use Rattle.live_tasks.specs.Below.system_meaning.specs.Tasks.{Own}
use Rattle.live_tasks.specs.Below.system_meaning.specs.Supervisor.{spaces_of}
use Rattle.live_tasks.specs.Tasks.{StandIn}
use Rattle.live_tasks.proofs.looks.all_spaces.Given as goal

abbrev pub invariant-loop-task : goal.invariant-loop-task
invariant-loop-task l = record {
  few : l.count ≤ 16 * l.task-index;
  told : (kinds_of : List ℕ → List Kind) (pages : Pages) (owns : List Own) → StandIn kinds_of pages l.tasks owns
      → l.count ≡ sum (map spaces_of (take l.task-index owns));
}
