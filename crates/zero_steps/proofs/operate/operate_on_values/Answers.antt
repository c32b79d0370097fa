use Rattle.std.proofs.Common.{[], length, refl, sym, ap, ◌∙◌, subst}
use Rattle.eu_base.specs.Operations.{result_of}
use Rattle.code_form.specs.Machine.{on_values}
use Rattle.zero_ops.specs.Given.{given_of, Gives}
use Rattle.zero_state.specs.Stacked.{Stacked}
use Rattle.zero_state.specs.Stepping.{position_of, control_of}
use Rattle.zero_steps.specs.Giving.{put_on, GivesSo}
use Rattle.zero_steps.proofs.Operating.{put_back_by, stops_so}
use Rattle.zero_steps.proofs.Putting.{rest_fits}
use Rattle.zero_steps.proofs.operate.operate_on_values.Goals as goal

pub give-requires-clause-room : goal.give-requires-clause-room
give-requires-clause-room c =
    rest_fits c.in_ok-operands.operands.items c.args.s.now.stack c.pop_values.new.stack c.in_ok-operands.ensures.back c.requires.ready.bytes

pub returns-in_ok-push_values-in-Some : goal.returns-in_ok-push_values-in-Some
returns-in_ok-push_values-in-Some c =
    let s = c.args.s.now in
    let t = record s { stack = c.pop_values.new.stack } in
    let op = c.args.operation in
    let vs = c.in_ok-operands.operands.items in
    let g = given_of c.in_ok-given.given in
    let gives = subst (GivesSo g t c.give.new.s) c.in-Some.is c.in_ok-give.ensures in
    let back = c.in_ok-operands.ensures.back in
    let applied = subst (λ vs. Gives c.apply.result (result_of op vs)) c.as_slice.ensures.value c.apply.ensures in
    stops_so op vs (position_of s) t.stack.ops g t c.give.new.s c.in-Some.stop
    (λ go. ap (λ ks. on_values (length ks) [] s.stack.ops go) (sym c.operand_kinds.ensures) ∙ c.in_ok-operands.ensures.taken go)
    (sym (c.in_ok-given.ensures (result_of op vs) applied)) gives refl (ap (λ (u : Stacked). u.frames) back) _
    (put_back_by (control_of t) (control_of c.give.new.s) (put_on vs) s.stack c.push_values.new.stack gives.0 c.requires.ready.free back
    c.in_ok-push_values-in-Some.ensures)
