use Rattle.std.proofs.Common.{arith}
use Rattle.live_tasks.specs.Below.source_texts.specs.Sources.{source_space}
use Rattle.live_tasks.specs.Below.system_meaning.specs.Stores.{with_named}
use Rattle.live_tasks.specs.Below.system_meaning.specs.Tasks.{Idle, with_doing}
use Rattle.live_tasks.proofs.Standing.{reads, stood, stands_at, but_one, call_sound, call_stands, call_puts}
use Rattle.live_tasks.specs.Below.task_job.proofs.Here.{frames_before}
use Rattle.live_tasks.specs.Tasks.{task_roots}
use Rattle.live_tasks.proofs.Closing.{both_ok, closed_fits}
use Rattle.live_tasks.proofs.tasks.Tasks.close_text.Goals as goal

pub close_text-closed-requires-clause-sound : goal.close_text-closed-requires-clause-sound
close_text-closed-requires-clause-sound c =
    let at = reads c.self.inside.pool c.self.inside.tasks.items c.args.self.now c.args.k c.index_mut-task.result.now c.self.view_is c.requires.task
    c.index_mut-task.ensures.value in
    call_sound c.self.inside.pool c.self.inside.pool c.self.inside.tasks.items c.args.k c.index_mut-task.result.now at c.self.invariant

pub close_text-closed-requires-clause-agree : goal.close_text-closed-requires-clause-agree
close_text-closed-requires-clause-agree c =
    let at = reads c.self.inside.pool c.self.inside.tasks.items c.args.self.now c.args.k c.index_mut-task.result.now c.self.view_is c.requires.task
    c.index_mut-task.ensures.value in
    call_stands c.self.inside.pool c.self.inside.pool c.self.inside.tasks.items c.args.k c.index_mut-task.result.now at c.self.invariant 1 (omega arith)

pub invariant_of-self : goal.invariant_of-self
invariant_of-self c =
    let at = reads c.self.inside.pool c.self.inside.tasks.items c.args.self.now c.args.k c.index_mut-task.result.now c.self.view_is c.requires.task
    c.index_mut-task.ensures.value in
    closed_fits c.self.inside.pool c.close_text-closed.new.pool c.self.inside.tasks.items c.args.k c.index_mut-task.result.now at c.self.invariant
    c.close_text-closed.new.task c.close_text-closed.result c.close_text-closed.ensures.frames c.close_text-closed.ensures.back c.close_text-closed.ensures.room
    c.has_few.ensures c.close_text-closed.ensures.sound

pub returns : goal.returns
returns c =
    let at = reads c.self.inside.pool c.self.inside.tasks.items c.args.self.now c.args.k c.index_mut-task.result.now c.self.view_is c.requires.task
    c.index_mut-task.ensures.value in
    both_ok c.close_text-closed.result (λ frames closes kinds_of owns own name lines store h has entering.
    let all = stood kinds_of c.self.inside.pool c.self.inside.tasks.items c.args.self.now owns c.self.view_is h in
    let mine = stands_at kinds_of c.self.inside.pool c.self.inside.tasks.items owns c.args.k c.index_mut-task.result.now own all at has in
    call_puts c.self.inside.pool c.close_text-closed.new.pool c.self.inside.tasks.items c.args.k c.index_mut-task.result.now at c.self.invariant
    c.close_text-closed.new.task (frames_before c.self.inside.pool c.close_text-closed.new.pool (task_roots c.index_mut-task.result.now)
    (task_roots c.close_text-closed.new.task) c.has_few.ensures frames) kinds_of owns
    (but_one kinds_of c.self.inside.pool c.self.inside.tasks.items owns c.args.k all) own has
    (with_doing (Idle (with_named name (source_space lines) store)))
    (closes (kinds_of own.packets) own name lines store entering mine))
    c.close_text-closed.ensures.frames c.close_text-closed.ensures.closed
