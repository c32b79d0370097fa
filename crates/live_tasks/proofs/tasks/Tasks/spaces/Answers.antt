use Rattle.std.proofs.Common.{List, length, ap, subst, sym, arith}
use Rattle.live_tasks.specs.Below.live_task.specs.declared.task.Task.{Task}
use Rattle.live_tasks.specs.Tasks.{StandIn}
use Rattle.live_tasks.proofs.Standing.{stood}
use Rattle.live_tasks.proofs.tasks.Tasks.spaces.Goals as goal

pub all_spaces-requires : goal.all_spaces-requires
all_spaces-requires c = omega (arith, c.self.invariant.few, ap (λ (tasks : List Task). length tasks) c.as_slice.ensures.value)

pub returns-clause-count : goal.returns-clause-count
returns-clause-count c = λ kinds_of owns h.
    let all = stood kinds_of c.self.inside.pool c.self.inside.tasks.items c.args.self.now owns c.self.view_is h in
    c.all_spaces.ensures.count kinds_of c.self.inside.pool owns
    (subst (λ (tasks : List Task). StandIn kinds_of c.self.inside.pool tasks owns) (sym c.as_slice.ensures.value) all)
