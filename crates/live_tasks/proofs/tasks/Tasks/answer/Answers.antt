use Rattle.std.proofs.Common.{refl}
use Rattle.std.proofs.lemmas.Result.{on_ok_weaker}
use Rattle.eu_base.specs.Requests.{plain}
use Rattle.live_tasks.specs.Below.system_meaning.specs.Tasks.{replied, with_doing}
use Rattle.live_tasks.specs.Below.live_task.proofs.Dues.{plain_due}
use Rattle.live_tasks.proofs.Standing.{reads, stood, call_sound, call_whole, call_fits, call_each}
use Rattle.live_tasks.proofs.tasks.Tasks.answer.Goals as goal

pub answer-requires-clause-sound : goal.answer-requires-clause-sound
answer-requires-clause-sound c =
    let at = reads c.self.inside.pool c.self.inside.tasks.items c.args.self.now c.args.k c.index_mut-task.result.now c.self.view_is c.requires.task
    c.index_mut-task.ensures.value in
    call_sound c.self.inside.pool c.self.inside.pool c.self.inside.tasks.items c.args.k c.index_mut-task.result.now at c.self.invariant

pub answer-requires-clause-agree : goal.answer-requires-clause-agree
answer-requires-clause-agree c =
    let at = reads c.self.inside.pool c.self.inside.tasks.items c.args.self.now c.args.k c.index_mut-task.result.now c.self.view_is c.requires.task
    c.index_mut-task.ensures.value in
    call_whole c.self.inside.pool c.self.inside.pool c.self.inside.tasks.items c.args.k c.index_mut-task.result.now at c.self.invariant

pub invariant_of-self : goal.invariant_of-self
invariant_of-self c =
    let at = reads c.self.inside.pool c.self.inside.tasks.items c.args.self.now c.args.k c.index_mut-task.result.now c.self.view_is c.requires.task
    c.index_mut-task.ensures.value in
    call_fits c.self.inside.pool c.answer.new.pool c.self.inside.tasks.items c.args.k c.index_mut-task.result.now at c.self.invariant c.answer.new.self c.answer.ensures.frames c.answer.ensures.few c.answer.ensures.sound

pub returns : goal.returns
returns c =
    let at = reads c.self.inside.pool c.self.inside.tasks.items c.args.self.now c.args.k c.index_mut-task.result.now c.self.view_is c.requires.task
    c.index_mut-task.ensures.value in
    on_ok_weaker c.answer.result (λ answers kinds_of owns h.
    let all = stood kinds_of c.self.inside.pool c.self.inside.tasks.items c.args.self.now owns c.self.view_is h in
    call_each c.self.inside.pool c.answer.new.pool c.self.inside.tasks.items c.args.k c.index_mut-task.result.now at c.self.invariant c.answer.new.self c.answer.ensures.frames
    kinds_of owns all (λ own. with_doing (replied (plain c.args.reply) own.doing) own)
    (λ own mine. answers (kinds_of own.packets) own (plain c.args.reply) refl
    (plain_due (kinds_of own.packets) c.self.inside.pool c.index_mut-task.result.now own c.args.reply c.requires.plain mine)))
    c.answer.ensures.answered
