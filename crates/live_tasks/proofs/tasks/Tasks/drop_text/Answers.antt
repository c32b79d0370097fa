use Rattle.live_tasks.specs.Below.system_meaning.specs.Tasks.{Idle, with_doing}
use Rattle.live_tasks.proofs.Standing.{reads, stood, stands_at, call_sound, call_small, call_fits, call_set, call_same}
use Rattle.live_tasks.proofs.Closing.{same_small, same_frames}
use Rattle.live_tasks.proofs.tasks.Tasks.drop_text.Goals as goal

pub invariant_of-self : goal.invariant_of-self
invariant_of-self c =
    let at = reads c.self.inside.pool c.self.inside.tasks.items c.args.self.now c.args.k c.index_mut-task.result.now c.self.view_is c.requires.task
    c.index_mut-task.ensures.value in
    let p = c.self.inside.pool in
    let sound = call_sound p p c.self.inside.tasks.items c.args.k c.index_mut-task.result.now at c.self.invariant in
    let small = call_small p p c.self.inside.tasks.items c.args.k c.index_mut-task.result.now at c.self.invariant in
    call_fits p p c.self.inside.tasks.items c.args.k c.index_mut-task.result.now at c.self.invariant c.drop_text.new.task
    (same_frames c.index_mut-task.result.now c.drop_text.new.task c.drop_text.ensures.memory p)
    (same_small c.index_mut-task.result.now c.drop_text.new.task c.drop_text.ensures.memory small) (c.drop_text.ensures.sound sound)

pub returns-clause-dropped : goal.returns-clause-dropped
returns-clause-dropped c = λ kinds_of owns own name lines store h has entering.
    let at = reads c.self.inside.pool c.self.inside.tasks.items c.args.self.now c.args.k c.index_mut-task.result.now c.self.view_is c.requires.task
    c.index_mut-task.ensures.value in
    let p = c.self.inside.pool in
    let all = stood kinds_of c.self.inside.pool c.self.inside.tasks.items c.args.self.now owns c.self.view_is h in
    let mine = stands_at kinds_of c.self.inside.pool c.self.inside.tasks.items owns c.args.k c.index_mut-task.result.now own all at has in
    call_set p p c.self.inside.tasks.items c.args.k c.index_mut-task.result.now at c.self.invariant c.drop_text.new.task
    (same_frames c.index_mut-task.result.now c.drop_text.new.task c.drop_text.ensures.memory p) kinds_of owns all own has
    (with_doing (Idle store)) (c.drop_text.ensures.dropped (kinds_of own.packets) p own name lines store entering mine)

pub returns-clause-none : goal.returns-clause-none
returns-clause-none c = λ kinds_of owns own h has none.
    let at = reads c.self.inside.pool c.self.inside.tasks.items c.args.self.now c.args.k c.index_mut-task.result.now c.self.view_is c.requires.task
    c.index_mut-task.ensures.value in
    let p = c.self.inside.pool in
    let all = stood kinds_of c.self.inside.pool c.self.inside.tasks.items c.args.self.now owns c.self.view_is h in
    let mine = stands_at kinds_of c.self.inside.pool c.self.inside.tasks.items owns c.args.k c.index_mut-task.result.now own all at has in
    call_same p p c.self.inside.tasks.items c.args.k c.index_mut-task.result.now at c.self.invariant c.drop_text.new.task
    (same_frames c.index_mut-task.result.now c.drop_text.new.task c.drop_text.ensures.memory p) kinds_of owns all own has
    (c.drop_text.ensures.none (kinds_of own.packets) p own none mine)
