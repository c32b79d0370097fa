use Rattle.std.proofs.Common.{length, sym, ap, ◌∙◌, subst, length-set}
use Rattle.std.proofs.lemmas.Result.{on_ok_weaker}
use Rattle.live_tasks.specs.Tasks.{Live}
use Rattle.live_tasks.specs.Handing.{StandOrDue}
use Rattle.live_tasks.proofs.Handing.{paid_there}
use Rattle.live_tasks.proofs.Standing.{reads, call_sound, call_whole, call_fits}
use Rattle.live_tasks.proofs.tasks.Tasks.answer_due.Goals as goal

pub answer-requires-clause-sound : goal.answer-requires-clause-sound
answer-requires-clause-sound c =
    let at = reads c.self.inside.pool c.self.inside.tasks.items c.args.self.now c.args.k c.index_mut-task.result.now c.self.view_is c.requires.task
    c.index_mut-task.ensures.value in
    call_sound c.self.inside.pool c.self.inside.pool c.self.inside.tasks.items c.args.k c.index_mut-task.result.now at c.self.invariant

pub answer-requires-clause-agree : goal.answer-requires-clause-agree
answer-requires-clause-agree c =
    let at = reads c.self.inside.pool c.self.inside.tasks.items c.args.self.now c.args.k c.index_mut-task.result.now c.self.view_is c.requires.task
    c.index_mut-task.ensures.value in
    call_whole c.self.inside.pool c.self.inside.pool c.self.inside.tasks.items c.args.k c.index_mut-task.result.now at c.self.invariant

pub invariant_of-self : goal.invariant_of-self
invariant_of-self c =
    let at = reads c.self.inside.pool c.self.inside.tasks.items c.args.self.now c.args.k c.index_mut-task.result.now c.self.view_is c.requires.task
    c.index_mut-task.ensures.value in
    call_fits c.self.inside.pool c.answer.new.pool c.self.inside.tasks.items c.args.k c.index_mut-task.result.now at c.self.invariant c.answer.new.self c.answer.ensures.frames c.answer.ensures.few c.answer.ensures.sound

pub returns-clause-many : goal.returns-clause-many
returns-clause-many c = length-set c.self.inside.tasks.items c.args.k c.answer.new.self ∙ ap (λ (l : Live). length l.tasks) c.self.view_is

pub returns-clause-answered : goal.returns-clause-answered
returns-clause-answered c =
    let at = reads c.self.inside.pool c.self.inside.tasks.items c.args.self.now c.args.k c.index_mut-task.result.now c.self.view_is c.requires.task
    c.index_mut-task.ensures.value in
    on_ok_weaker c.answer.result (λ answers kinds_of all own a is h has.
    paid_there kinds_of c.self.inside.pool c.answer.new.pool c.self.inside.tasks.items c.args.k c.index_mut-task.result.now c.answer.new.self at c.self.invariant
    c.answer.ensures.frames all own a (subst (λ (l : Live). StandOrDue kinds_of l all) (sym c.self.view_is) h) has
    (λ due. answers (kinds_of own.packets) own a is due))
    c.answer.ensures.answered
