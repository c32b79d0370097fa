use Rattle.std.proofs.Common.{◌≡◌, ◌++◌, ◌∷◌, [], List, ap, sym, ◌∙◌, subst}
use Rattle.page_pool.specs.Pool.{Pages}
use Rattle.live_tasks.specs.Below.task_job.specs.Here.{Knows}
use Rattle.live_tasks.specs.Below.system_meaning.specs.Systems.{new_own}
use Rattle.live_tasks.specs.Below.live_task.specs.declared.task.Task.{Task}
use Rattle.live_tasks.specs.Tasks.{IsFit, StandIn}
use Rattle.live_tasks.proofs.Fresh.{two_roots}
use Rattle.live_tasks.proofs.Opening.{empty, empty_known, opening_fits, opening_stands}
use Rattle.live_tasks.proofs.tasks.Tasks.opening.Goals as goal

pub invariant_of-result : goal.invariant_of-result
invariant_of-result c =
    let begun = c.push_reserved.ensures.items ∙ ap (λ (tasks : List Task). tasks ++ c.new-2.result ∷ []) c.in_ok-tasks.ensures.items in
    let both = c.push_reserved-2.ensures.items ∙ ap (λ (tasks : List Task). tasks ++ c.new-3.result ∷ []) begun in
    subst (λ (pages : Pages). IsFit pages c.push_reserved-2.new.self.items) (sym c.in_ok-pool.ensures) (subst (λ (tasks : List Task). IsFit empty tasks) (sym both)
    (opening_fits c.new-2.result c.new-3.result (two_roots empty c.new-2.result (c.new-2.ensures.new empty empty_known))
    (two_roots empty c.new-3.result (c.new-3.ensures.new empty empty_known))
    c.new-2.ensures.frames c.new-3.ensures.frames c.new-2.ensures.sound c.new-3.ensures.sound))

pub returns : goal.returns
returns c = λ kinds_of none.
    let begun = c.push_reserved.ensures.items ∙ ap (λ (tasks : List Task). tasks ++ c.new-2.result ∷ []) c.in_ok-tasks.ensures.items in
    let both = c.push_reserved-2.ensures.items ∙ ap (λ (tasks : List Task). tasks ++ c.new-3.result ∷ []) begun in
    let known = subst Knows (sym c.in_ok-pool.ensures) empty_known in
    subst (λ (tasks : List Task). StandIn kinds_of c.in_ok-pool.pool tasks (new_own ∷ (new_own ∷ []))) (sym both)
    (opening_stands kinds_of c.in_ok-pool.pool c.new-2.result c.new-3.result none (c.new-2.ensures.new c.in_ok-pool.pool known)
    (c.new-3.ensures.new c.in_ok-pool.pool known))
