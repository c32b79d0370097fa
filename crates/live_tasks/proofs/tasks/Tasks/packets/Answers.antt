use Rattle.std.proofs.Common.{◌∙◌, arith}
use Rattle.live_tasks.proofs.Standing.{reads, stood, stands_at}
use Rattle.live_tasks.proofs.tasks.Tasks.packets.Goals as goal

pub returns : goal.returns
returns c = λ kinds_of owns own h has.
    let at = reads c.self.inside.pool c.self.inside.tasks.items c.args.self.now c.args.k c.index.result.now c.self.view_is c.requires.task c.index.ensures in
    let all = stood kinds_of c.self.inside.pool c.self.inside.tasks.items c.args.self.now owns c.self.view_is h in
    let mine = stands_at kinds_of c.self.inside.pool c.self.inside.tasks.items owns c.args.k c.index.result.now own all at has in
    c.as_slice.ensures ∙ mine.packets
