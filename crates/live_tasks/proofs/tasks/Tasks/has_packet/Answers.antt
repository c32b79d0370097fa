use Rattle.std.proofs.Common.{◌≡◌, ◌==◌, ◌∙◌, List, ap, arith}
use Rattle.std.specs.List.{list_any}
use Rattle.live_tasks.specs.Below.live_task.specs.declared.task.Task.{Task}
use Rattle.live_tasks.proofs.Standing.{stood, any_has}
use Rattle.live_tasks.proofs.tasks.Tasks.has_packet.Goals as goal

pub returns : goal.returns
returns c = λ kinds_of owns h.
    let all = stood kinds_of c.self.inside.pool c.self.inside.tasks.items c.args.self.now owns c.self.view_is h in
    c.one_has.ensures ∙ ap (λ (tasks : List Task). list_any (λ (task : Task). list_any (λ p. p == c.args.number) task.packets) tasks) c.as_slice.ensures.value
    ∙ any_has kinds_of c.self.inside.pool c.self.inside.tasks.items owns c.args.number all
