use Rattle.std.proofs.Common.{◌∙◌}
use Rattle.live_tasks.specs.Below.task_messages.proofs.Passed.{lives_alike}
use Rattle.live_tasks.proofs.Standing.{reads, stood, stands_at}
use Rattle.live_tasks.proofs.tasks.Tasks.has_space.Goals as goal

pub returns : goal.returns
returns c = λ kinds_of owns own h has.
    let at = reads c.self.inside.pool c.self.inside.tasks.items c.args.self.now c.args.k c.index-task.result.now c.self.view_is c.requires.task c.index-task.ensures in
    let all = stood kinds_of c.self.inside.pool c.self.inside.tasks.items c.args.self.now owns c.self.view_is h in
    c.live.ensures
    ∙ lives_alike (kinds_of own.packets) c.self.inside.pool c.index-task.result.now own c.args.space
    (stands_at kinds_of c.self.inside.pool c.self.inside.tasks.items owns c.args.k c.index-task.result.now own all at has)
