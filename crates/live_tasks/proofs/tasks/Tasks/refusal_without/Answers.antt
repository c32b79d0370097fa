use Rattle.std.proofs.Common.{ℕ, ap, ◌∙◌}
use Rattle.live_tasks.proofs.Rooms.{refusal_of, room_without}
use Rattle.live_tasks.proofs.Standing.{reads, stood, stands_at}
use Rattle.live_tasks.proofs.tasks.Tasks.refusal_without.Goals as goal

pub returns : goal.returns
returns c = λ kinds_of owns own space h has live.
    let at = reads c.self.inside.pool c.self.inside.tasks.items c.args.self.now c.args.k c.index-task.result.now c.self.view_is c.requires.task c.index-task.ensures in
    let all = stood kinds_of c.self.inside.pool c.self.inside.tasks.items c.args.self.now owns c.self.view_is h in
    c.refusal.ensures ∙ ap (λ (n : ℕ). refusal_of 0 n) c.last_number.ensures.last
    ∙ room_without (kinds_of own.packets) c.self.inside.pool c.index-task.result.now own
    (stands_at kinds_of c.self.inside.pool c.self.inside.tasks.items owns c.args.k c.index-task.result.now own all at has) space
    c.last_number.ensures.numbered.few live
