use Rattle.std.proofs.Common.{ℕ, length, ap, ◌∙◌}
use Rattle.live_tasks.specs.Below.task_messages.proofs.Passed.{room_alike}
use Rattle.live_tasks.proofs.Rooms.{refusal_of}
use Rattle.live_tasks.proofs.Standing.{reads, stood, stands_at}
use Rattle.live_tasks.proofs.tasks.Tasks.room_refusal.Goals as goal

pub returns : goal.returns
returns c = λ kinds_of owns own h has.
    let at = reads c.self.inside.pool c.self.inside.tasks.items c.args.self.now c.args.k c.index-task.result.now c.self.view_is c.requires.task c.index-task.ensures in
    let all = stood kinds_of c.self.inside.pool c.self.inside.tasks.items c.args.self.now owns c.self.view_is h in
    c.refusal.ensures
    ∙ ap (λ (n : ℕ). refusal_of n c.last_number.result) c.count.ensures.count
    ∙ ap (λ (n : ℕ). refusal_of (length c.index-task.result.now.memory.spaces) n) c.last_number.ensures.last
    ∙ room_alike (kinds_of own.packets) c.self.inside.pool c.index-task.result.now own
    (stands_at kinds_of c.self.inside.pool c.self.inside.tasks.items owns c.args.k c.index-task.result.now own all at has)
