use Rattle.std.proofs.Common.{◌≡◌, ◌+◌, [], List, length, sym, ap, ◌∙◌, subst}
use Rattle.eu_base.specs.declared.value.Value.{Value}
use Rattle.eu_base.specs.Room.{bytes_fit}
use Rattle.eu_base.specs.SpaceOperations.{planned, space_operand_kinds}
use Rattle.code_form.specs.Machine.{Frame, Move, free, bytes_on, bytes_of, on_values}
use Rattle.code_form.specs.declared.operand.Operand.{Operand}
use Rattle.code_form.specs.declared.instr.Instr.TheVariants.{OnSpaces}
use Rattle.zero_state.specs.Finds.{TopValues}
use Rattle.zero_state.specs.Stacked.{Stacked}
use Rattle.zero_state.specs.declared.next.Next.TheVariants.{On}
use Rattle.zero_state.specs.Stepping.{position_of, Acts}
use Rattle.space_calls.specs.Planned.{Performs}
use Rattle.zero_steps.specs.Giving.{answer_on}
use Rattle.zero_steps.proofs.Accessing.{standing}
use Rattle.zero_steps.proofs.Performing.{as_many, answer_fits, performed_so, stopped_so}
use Rattle.zero_steps.proofs.spaces.on_spaces.Goals as goal

pub pop_values-requires : goal.pop_values-requires
pop_values-requires g c = subst (λ ks. TopValues (length ks) c.args.s.now.stack.ops) (sym c.operand_kinds.ensures) c.requires.finds

pub push_answer-requires : goal.push_answer-requires
push_answer-requires g c =
    let s = c.args.s.now in
    let t = c.pop_values.new.stack in
    let op = c.args.operation in
    let vs = c.in_ok-operands.operands.items in
    let had = g.M.Memory.heads c.args.m.now in
    let has = g.M.Memory.heads c.perform.new.m in
    let before = g.M.Memory.holds c.args.m.now in
    let after = g.M.Memory.holds c.perform.new.m in
    let count = ap length c.operand_kinds.ensures in
    let taken : (go : List Value → List Operand → Move) → on_values (length (space_operand_kinds op)) [] s.stack.ops go ≡ go vs t.ops = λ go. ap (λ n. on_values n [] s.stack.ops go) (sym count) ∙ c.in_ok-operands.ensures.taken go in
    let seen = subst (λ vs. Performs before after had has (planned op vs had) c.in_ok-answer.field-0) c.as_slice.ensures.value c.in_ok-answer.ensures.goes in
    let out = subst (Performs before after had has (planned op vs had)) c.in-Ok.is seen in
    let fits = ap (λ (u : Stacked). bytes_fit (bytes_on u.ops (bytes_of u.frames))) (sym c.in_ok-operands.ensures.back) ∙ c.requires.ready.bytes in
    answer_fits op vs had c.in-Ok.answer out.changes t out.is (as_many _ s.stack.ops vs t.ops c.requires.finds taken) fits

pub push_values-requires : goal.push_values-requires
push_values-requires g c =
    ap (λ (u : Stacked). bytes_fit (bytes_on u.ops (bytes_of u.frames))) (sym c.in_ok-operands.ensures.back) ∙ c.requires.ready.bytes

pub returns-in_ok-push_answer-in-Ok-clause-goes : goal.returns-in_ok-push_answer-in-Ok-clause-goes
returns-in_ok-push_answer-in-Ok-clause-goes g c =
    let s = c.args.s.now in
    let t = c.pop_values.new.stack in
    let op = c.args.operation in
    let vs = c.in_ok-operands.operands.items in
    let had = g.M.Memory.heads c.args.m.now in
    let has = g.M.Memory.heads c.perform.new.m in
    let before = g.M.Memory.holds c.args.m.now in
    let after = g.M.Memory.holds c.perform.new.m in
    let count = ap length c.operand_kinds.ensures in
    let taken : (go : List Value → List Operand → Move) → on_values (length (space_operand_kinds op)) [] s.stack.ops go ≡ go vs t.ops = λ go. ap (λ n. on_values n [] s.stack.ops go) (sym count) ∙ c.in_ok-operands.ensures.taken go in
    let seen = subst (λ vs. Performs before after had has (planned op vs had) c.in_ok-answer.field-0) c.as_slice.ensures.value c.in_ok-answer.ensures.goes in
    let out = subst (Performs before after had has (planned op vs had)) c.in-Ok.is seen in
    let fits = ap (λ (u : Stacked). bytes_fit (bytes_on u.ops (bytes_of u.frames))) (sym c.in_ok-operands.ensures.back) ∙ c.requires.ready.bytes in
    let room = answer_fits op vs had c.in-Ok.answer out.changes t out.is (as_many _ s.stack.ops vs t.ops c.requires.finds taken) fits in
    let same = ap (λ (u : Stacked). u.frames) c.in_ok-operands.ensures.back in
    subst (λ k. Acts before after had has (OnSpaces op) (position_of s) k On)
    (ap (λ (fs : List Frame). free (standing (s.pc + 1) s.used (record { ops = answer_on c.in-Ok.answer t.ops; frames = fs }))) same
    ∙ ap (λ (u : Stacked). free (standing (s.pc + 1) s.used u)) (sym c.in_ok-push_answer-in-Ok.ensures)
    ∙ ap (λ w. record { position = standing (s.pc + 1) s.used c.push_answer.new.stack; waits = w }) (sym c.requires.ready.free))
    (performed_so before after had has op vs s.pc s.used s.stack t taken c.in-Ok.answer out room same)

pub returns-in_ok-push_values-in-Err-clause-goes : goal.returns-in_ok-push_values-in-Err-clause-goes
returns-in_ok-push_values-in-Err-clause-goes g c =
    let s = c.args.s.now in
    let t = c.pop_values.new.stack in
    let op = c.args.operation in
    let vs = c.in_ok-operands.operands.items in
    let had = g.M.Memory.heads c.args.m.now in
    let has = g.M.Memory.heads c.perform.new.m in
    let before = g.M.Memory.holds c.args.m.now in
    let after = g.M.Memory.holds c.perform.new.m in
    let count = ap length c.operand_kinds.ensures in
    let taken : (go : List Value → List Operand → Move) → on_values (length (space_operand_kinds op)) [] s.stack.ops go ≡ go vs t.ops = λ go. ap (λ n. on_values n [] s.stack.ops go) (sym count) ∙ c.in_ok-operands.ensures.taken go in
    let seen = subst (λ vs. Performs before after had has (planned op vs had) c.in_ok-answer.field-0) c.as_slice.ensures.value c.in_ok-answer.ensures.goes in
    let out = subst (Performs before after had has (planned op vs had)) c.in-Err.is seen in
    subst (λ k. Acts before after had has (OnSpaces op) (position_of s) k c.in-Err.stop)
    (ap (λ (u : Stacked). free (standing s.pc s.used u)) (c.in_ok-operands.ensures.back ∙ sym c.in_ok-push_values-in-Err.ensures)
    ∙ ap (λ w. record { position = standing s.pc s.used c.push_values.new.stack; waits = w }) (sym c.requires.ready.free))
    (stopped_so before after had has op vs s.pc s.used s.stack t taken c.in-Err.stop out)
