use Rattle.std.proofs.Common.{◌∙◌, ap, arith}
use Rattle.live_tasks.proofs.Standing.{stood, as_long}
use Rattle.live_tasks.proofs.tasks.Tasks.count.Goals as goal

pub returns-clause-owns : goal.returns-clause-owns
returns-clause-owns c = λ kinds_of owns h.
    let all = stood kinds_of c.self.inside.pool c.self.inside.tasks.items c.args.self.now owns c.self.view_is h in
    let long = as_long kinds_of c.self.inside.pool c.self.inside.tasks.items owns all in
    omega (arith, long)
