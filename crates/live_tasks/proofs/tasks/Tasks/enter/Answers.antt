use Rattle.std.proofs.lemmas.Result.{on_ok_weaker}
use Rattle.std.proofs.Common.{[]}
use Rattle.live_tasks.specs.Below.system_meaning.specs.Tasks.{Entering, with_doing}
use Rattle.live_tasks.proofs.Standing.{reads, stood, stands_at, call_sound, call_small, call_fits, call_set}
use Rattle.live_tasks.proofs.Closing.{same_small, same_frames}
use Rattle.live_tasks.proofs.tasks.Tasks.enter.Goals as goal

pub invariant_of-self : goal.invariant_of-self
invariant_of-self c =
    let at = reads c.self.inside.pool c.self.inside.tasks.items c.args.self.now c.args.k c.index_mut-task.result.now c.self.view_is c.requires.task
    c.index_mut-task.ensures.value in
    let p = c.self.inside.pool in
    let sound = call_sound p p c.self.inside.tasks.items c.args.k c.index_mut-task.result.now at c.self.invariant in
    let small = call_small p p c.self.inside.tasks.items c.args.k c.index_mut-task.result.now at c.self.invariant in
    call_fits p p c.self.inside.tasks.items c.args.k c.index_mut-task.result.now at c.self.invariant c.enter.new.task
    (same_frames c.index_mut-task.result.now c.enter.new.task c.enter.ensures.memory p)
    (same_small c.index_mut-task.result.now c.enter.new.task c.enter.ensures.memory small) (c.enter.ensures.sound sound)

pub returns : goal.returns
returns c =
    let at = reads c.self.inside.pool c.self.inside.tasks.items c.args.self.now c.args.k c.index_mut-task.result.now c.self.view_is c.requires.task
    c.index_mut-task.ensures.value in
    let p = c.self.inside.pool in
    on_ok_weaker c.enter.result (λ enters kinds_of owns own store h has idle free.
    let all = stood kinds_of c.self.inside.pool c.self.inside.tasks.items c.args.self.now owns c.self.view_is h in
    let mine = stands_at kinds_of c.self.inside.pool c.self.inside.tasks.items owns c.args.k c.index_mut-task.result.now own all at has in
    call_set p p c.self.inside.tasks.items c.args.k c.index_mut-task.result.now at c.self.invariant c.enter.new.task
    (same_frames c.index_mut-task.result.now c.enter.new.task c.enter.ensures.memory p) kinds_of owns all own has
    (with_doing (Entering c.args.name.now [] store)) (enters (kinds_of own.packets) p own store idle free mine))
    c.enter.ensures.entered
