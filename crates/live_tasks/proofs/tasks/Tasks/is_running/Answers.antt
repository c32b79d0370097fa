use Rattle.std.proofs.Common.{◌∙◌, ap, sym, not}
use Rattle.live_tasks.proofs.Standing.{reads, stood, stands_at}
use Rattle.live_tasks.proofs.Counting.{not_idle, idle}
use Rattle.live_tasks.proofs.tasks.Tasks.is_running.Goals as goal

pub returns-then-not-is_idle : goal.returns-then-not-is_idle
returns-then-not-is_idle c = λ kinds_of owns own h has.
    let at = reads c.self.inside.pool c.self.inside.tasks.items c.args.self.now c.args.k c.index-task.result.now c.self.view_is c.requires.task c.index-task.ensures in
    let all = stood kinds_of c.self.inside.pool c.self.inside.tasks.items c.args.self.now owns c.self.view_is h in
    let mine = stands_at kinds_of c.self.inside.pool c.self.inside.tasks.items owns c.args.k c.index-task.result.now own all at has in
    let no = c.is_idle.ensures.idle (kinds_of own.packets) c.self.inside.pool own mine in
    let other = c.is_entering.ensures.entering (kinds_of own.packets) c.self.inside.pool own mine in
    ap (λ b. not b) other ∙ not_idle own.doing (sym c.if-not-is_idle.true ∙ no)

pub returns-else-not-is_idle : goal.returns-else-not-is_idle
returns-else-not-is_idle c = λ kinds_of owns own h has.
    let at = reads c.self.inside.pool c.self.inside.tasks.items c.args.self.now c.args.k c.index-task.result.now c.self.view_is c.requires.task c.index-task.ensures in
    let all = stood kinds_of c.self.inside.pool c.self.inside.tasks.items c.args.self.now owns c.self.view_is h in
    let mine = stands_at kinds_of c.self.inside.pool c.self.inside.tasks.items owns c.args.k c.index-task.result.now own all at has in
    let yes = c.is_idle.ensures.idle (kinds_of own.packets) c.self.inside.pool own mine in
    ap (λ b. not b) c.if-not-is_idle.false ∙ idle own.doing (sym c.if-not-is_idle.false ∙ yes)
