use Rattle.std.proofs.Common.{◌≡◌, sym, ap, ◌∙◌, subst}
use Rattle.eu_base.specs.declared.request.Reply.{Reply}
use Rattle.code_form.specs.declared.waits.Waits.TheVariants.{Asked}
use Rattle.code_form.specs.Machine.{Control, answered}
use Rattle.code_form.specs.Runs.{Stands}
use Rattle.task_run.specs.Below.zero_state.specs.Stepping.{control_of}
use Rattle.task_run.proofs.Answered.{stands_answered}
use Rattle.task_run.proofs.task_run.TaskRun.answer.Goals as goal

pub returns-clause-stands : goal.returns-clause-stands
returns-clause-stands g c first before cells spent replies q a is same k =
    let p = c.args.c.now in
    let was = control_of c.self.inside.state in
    let asks : was.waits ≡ Asked q = ap (λ (d : Control). d.waits) c.self.view_is ∙ is in
    stands_answered p first before spent replies q a was (control_of c.reply.new.s) cells asks
    (c.in_ok-reply.ensures.answered q asks ∙ ap (λ (r : Reply). answered q r was.position) (sym same))
    (subst (λ (d : Control). Stands p first before spent replies d cells) (sym c.self.view_is) k)
