use Rattle.std.proofs.Common.{arith}
use Rattle.live_tasks.proofs.Standing.{reads, stood, stands_at, call_sound, call_stands, call_small, as_many_frames, call_fits}
use Rattle.live_tasks.proofs.Going.{halted_as}
use Rattle.live_tasks.proofs.tasks.Tasks.halt.Goals as goal

pub halt-requires-clause-sound : goal.halt-requires-clause-sound
halt-requires-clause-sound c =
    let at = reads c.self.inside.pool c.self.inside.tasks.items c.args.self.now c.args.k c.index_mut-task.result.now c.self.view_is c.requires.task
    c.index_mut-task.ensures.value in
    call_sound c.self.inside.pool c.self.inside.pool c.self.inside.tasks.items c.args.k c.index_mut-task.result.now at c.self.invariant

pub halt-requires-clause-agree : goal.halt-requires-clause-agree
halt-requires-clause-agree c =
    let at = reads c.self.inside.pool c.self.inside.tasks.items c.args.self.now c.args.k c.index_mut-task.result.now c.self.view_is c.requires.task
    c.index_mut-task.ensures.value in
    call_stands c.self.inside.pool c.self.inside.pool c.self.inside.tasks.items c.args.k c.index_mut-task.result.now at c.self.invariant 0 (omega arith)

pub invariant_of-self : goal.invariant_of-self
invariant_of-self c =
    let at = reads c.self.inside.pool c.self.inside.tasks.items c.args.self.now c.args.k c.index_mut-task.result.now c.self.view_is c.requires.task
    c.index_mut-task.ensures.value in
    let frames = as_many_frames c.self.inside.pool c.halt.new.pool c.self.inside.tasks.items c.args.k c.index_mut-task.result.now at c.self.invariant
    c.halt.new.self c.halt.ensures.as_many c.halt.ensures.frames in
    let small = call_small c.self.inside.pool c.halt.new.pool c.self.inside.tasks.items c.args.k c.index_mut-task.result.now at c.self.invariant in
    call_fits c.self.inside.pool c.halt.new.pool c.self.inside.tasks.items c.args.k c.index_mut-task.result.now at c.self.invariant c.halt.new.self frames
    (omega (arith, small, c.halt.ensures.as_many)) c.halt.ensures.sound

pub returns-clause-halted : goal.returns-clause-halted
returns-clause-halted c = λ kinds_of owns own h has.
    let at = reads c.self.inside.pool c.self.inside.tasks.items c.args.self.now c.args.k c.index_mut-task.result.now c.self.view_is c.requires.task
    c.index_mut-task.ensures.value in
    let all = stood kinds_of c.self.inside.pool c.self.inside.tasks.items c.args.self.now owns c.self.view_is h in
    let mine = stands_at kinds_of c.self.inside.pool c.self.inside.tasks.items owns c.args.k c.index_mut-task.result.now own all at has in
    let frames = as_many_frames c.self.inside.pool c.halt.new.pool c.self.inside.tasks.items c.args.k c.index_mut-task.result.now at c.self.invariant
    c.halt.new.self c.halt.ensures.as_many c.halt.ensures.frames in
    halted_as c.self.inside.pool c.halt.new.pool c.self.inside.tasks.items c.args.k c.index_mut-task.result.now at c.self.invariant c.halt.new.self frames
    kinds_of owns all own has c.halt.result own.doing (c.halt.ensures.halted (kinds_of own.packets) own mine)
