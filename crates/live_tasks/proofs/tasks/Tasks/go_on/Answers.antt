use Rattle.std.proofs.lemmas.Result.{IfOk-weaker}
use Rattle.live_tasks.proofs.Standing.{reads, stood, stands_at, call_sound, call_whole, call_fits}
use Rattle.live_tasks.proofs.Going.{went_on}
use Rattle.live_tasks.proofs.tasks.Tasks.go_on.Goals as goal

pub go_on-requires-clause-sound : goal.go_on-requires-clause-sound
go_on-requires-clause-sound c =
    let at = reads c.self.inside.pool c.self.inside.tasks.items c.args.self.now c.args.k c.index_mut-task.result.now c.self.view_is c.requires.task
    c.index_mut-task.ensures.value in
    call_sound c.self.inside.pool c.self.inside.pool c.self.inside.tasks.items c.args.k c.index_mut-task.result.now at c.self.invariant

pub go_on-requires-clause-agree : goal.go_on-requires-clause-agree
go_on-requires-clause-agree c =
    let at = reads c.self.inside.pool c.self.inside.tasks.items c.args.self.now c.args.k c.index_mut-task.result.now c.self.view_is c.requires.task
    c.index_mut-task.ensures.value in
    call_whole c.self.inside.pool c.self.inside.pool c.self.inside.tasks.items c.args.k c.index_mut-task.result.now at c.self.invariant

pub invariant_of-self : goal.invariant_of-self
invariant_of-self c =
    let at = reads c.self.inside.pool c.self.inside.tasks.items c.args.self.now c.args.k c.index_mut-task.result.now c.self.view_is c.requires.task
    c.index_mut-task.ensures.value in
    call_fits c.self.inside.pool c.go_on.new.pool c.self.inside.tasks.items c.args.k c.index_mut-task.result.now at c.self.invariant c.go_on.new.self c.go_on.ensures.frames c.go_on.ensures.few c.go_on.ensures.sound

pub returns-clause-went : goal.returns-clause-went
returns-clause-went c =
    let at = reads c.self.inside.pool c.self.inside.tasks.items c.args.self.now c.args.k c.index_mut-task.result.now c.self.view_is c.requires.task
    c.index_mut-task.ensures.value in
    IfOk-weaker c.go_on.result _ _ (λ went goes kinds_of owns own h has.
    let all = stood kinds_of c.self.inside.pool c.self.inside.tasks.items c.args.self.now owns c.self.view_is h in
    let mine = stands_at kinds_of c.self.inside.pool c.self.inside.tasks.items owns c.args.k c.index_mut-task.result.now own all at has in
    went_on c.self.inside.pool c.go_on.new.pool c.self.inside.tasks.items c.args.k c.index_mut-task.result.now at c.self.invariant c.go_on.new.self c.go_on.ensures.frames
    kinds_of owns all own has _ _ went own.doing (goes (kinds_of own.packets) own mine))
    c.go_on.ensures.went
