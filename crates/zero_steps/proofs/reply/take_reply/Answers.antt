use Rattle.std.proofs.Common.{◌≡◌, sym, subst}
use Rattle.std.specs.Prelude.{IfOk}
use Rattle.eu_base.specs.declared.request.Reply.{Reply}
use Rattle.eu_base.specs.DataSpaces.{Heads}
use Rattle.code_form.specs.declared.waits.Waits.TheVariants.{Given}
use Rattle.zero_state.specs.Stepping.{position_of, control_of}
use Rattle.zero_steps.specs.Replying.{Replies}
use Rattle.zero_steps.proofs.Replying.{over_memory}
use Rattle.zero_steps.proofs.reply.take_reply.Goals as goal

pub returns-in_ok-push_answer-in-Some-clause-goes : goal.returns-in_ok-push_answer-in-Some-clause-goes
returns-in_ok-push_answer-in-Some-clause-goes g c = λ r is.
    let holds = g.M.Memory.holds c.args.m.now in
    let heads = g.M.Memory.heads c.args.m.now in
    over_memory holds holds heads (λ cells h. h) c.args.name r (position_of c.args.s.now) (control_of c.push_answer.new.s)
    c.in_ok-push_answer-in-Some.field-0 (c.in_ok-push_answer-in-Some.ensures r is)

pub returns-else-is_message-clause-goes : goal.returns-else-is_message-clause-goes
returns-else-is_message-clause-goes g c =
    let before = g.M.Memory.holds c.args.m.now in
    let after = g.M.Memory.holds c.keep_line.new.m in
    let had = g.M.Memory.heads c.args.m.now in
    let s = c.args.s.now in
    subst (λ (has : Heads). IfOk c.keep_line.result (λ next. (r : Reply) → s.waits ≡ Given r
    → Replies before after had has c.args.name r (position_of s) (control_of c.keep_line.new.s) next))
    (sym c.keep_line.ensures.heads) c.keep_line.ensures.goes
