use Rattle.std.proofs.lemmas.Result.{IfOk-weaker}
use Rattle.live_tasks.proofs.Standing.{reads, stood, stands_at}
use Rattle.live_tasks.proofs.tasks.Tasks.names.Goals as goal

pub returns : goal.returns
returns c =
    let at = reads c.self.inside.pool c.self.inside.tasks.items c.args.self.now c.args.k c.index.result.now c.self.view_is c.requires.task c.index.ensures in
    IfOk-weaker c.names.result _ _ (λ names told kinds_of owns own h has.
    let all = stood kinds_of c.self.inside.pool c.self.inside.tasks.items c.args.self.now owns c.self.view_is h in
    told (kinds_of own.packets) c.self.inside.pool own (stands_at kinds_of c.self.inside.pool c.self.inside.tasks.items owns c.args.k c.index.result.now own all at has))
    c.names.ensures
