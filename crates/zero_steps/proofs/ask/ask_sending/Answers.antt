use Rattle.std.proofs.Common.{◌≡◌, ◌∷◌, [], ◌-◌, ℕ, List, map, sym, ap, ◌∙◌, subst, arith}
use Rattle.std.specs.Prelude.{reverse, take}
use Rattle.eu_base.specs.declared.value.Kind.TheVariants as kinds
use Rattle.eu_base.specs.declared.value.Value.TheVariants as item
use Rattle.eu_base.specs.Values.{space_in}
use Rattle.eu_base.specs.Requests.{request_size, sent_number, request_of}
use Rattle.code_form.specs.declared.operand.Operand.{Operand}
use Rattle.code_form.specs.declared.instr.Instr.TheVariants.{Ask}
use Rattle.code_form.specs.declared.waits.Waits.TheVariants.{Asked}
use Rattle.code_form.specs.Machine.{value_in}
use Rattle.zero_state.specs.Finds.{behind_values}
use Rattle.zero_state.specs.declared.next.Next.TheVariants.{On, Marked, NoSpace}
use Rattle.zero_state.specs.Stepping.{position_of, stage_by, Steps}
use Rattle.zero_steps.specs.Asking.{IsFirst}
use Rattle.zero_steps.proofs.Placed.{there_of}
use Rattle.zero_steps.proofs.Replying.{behind_is}
use Rattle.zero_steps.proofs.Sending.{first_there, due_so, gone_so, asked_so}
use Rattle.zero_steps.proofs.ask.ask_sending.Goals as goal

pub first_behind-at-requires : goal.first_behind-at-requires
first_behind-at-requires g c =
    let ops = c.args.s.now.stack.ops in
    subst IsFirst
    (behind_is c.args.name ops c.top-operands.result.now c.operand_kinds.result.now c.size.result c.top-operands.ensures c.size.ensures c.operand_kinds.ensures)
    (first_there c.args.name c.requires.sends (behind_values c.args.name ops) c.requires.finds.variables)

pub cell-requires-clause-there : goal.cell-requires-clause-there
cell-requires-clause-there g c =
    there_of (kinds.Space ∷ []) c.first_behind-at.result.area c.first_behind-at.result.cell (g.M.Memory.heads c.args.m.now)
    (sym c.are_there.ensures ∙ c.if-not-are_there.false)

pub returns-then-marks-eq0-clause-goes : goal.returns-then-marks-eq0-clause-goes
returns-then-marks-eq0-clause-goes g c = λ p.
    let holds = g.M.Memory.holds c.args.m.now in
    let heads = g.M.Memory.heads c.args.m.now in
    let now = position_of c.args.s.now in
    subst (λ w. Steps holds holds heads heads (stage_by p (Ask c.args.name) c.args.marks.now) now (record { position = now; waits = w }) c.args.marks.now Marked)
    (sym c.requires.ready.free)
    (due_so holds holds heads (λ cells h. h) p c.args.name now c.args.marks.now c.requires.finds.taken c.requires.sends c.if-marks-eq0.true)

pub returns-then-not-are_there-clause-goes : goal.returns-then-not-are_there-clause-goes
returns-then-not-are_there-clause-goes g c = λ p.
    let holds = g.M.Memory.holds c.args.m.now in
    let heads = g.M.Memory.heads c.args.m.now in
    let now = position_of c.args.s.now in
    let behind =
    behind_is c.args.name now.ops c.top-operands.result.now c.operand_kinds.result.now c.size.result c.top-operands.ensures c.size.ensures c.operand_kinds.ensures in
    let first = c.first_behind-at.ensures.first in
    subst (λ w. Steps holds holds heads heads (stage_by p (Ask c.args.name) c.args.marks.now) now (record { position = now; waits = w }) (c.args.marks.now - 1) NoSpace)
    (sym c.requires.ready.free)
    (gone_so holds holds heads (λ cells h. h) p c.args.name now c.args.marks.now c.requires.finds.taken c.requires.sends c.first_behind-at.result first.0
    (behind ∙ first.1) (omega (arith, c.if-marks-eq0.false)) (sym c.are_there.ensures ∙ c.if-not-are_there.true))

pub returns-clause-goes : goal.returns-clause-goes
returns-clause-goes g c = λ p.
    let before = g.M.Memory.holds c.args.m.now in
    let after = g.M.Memory.holds c.cell.new.self in
    let heads = g.M.Memory.heads c.args.m.now in
    let now = position_of c.args.s.now in
    let name = c.args.name in
    let n = c.in_ok-cell.field-0 in
    let behind =
    behind_is name now.ops c.top-operands.result.now c.operand_kinds.result.now c.size.result c.top-operands.ensures c.size.ensures c.operand_kinds.ensures in
    let first = c.first_behind-at.ensures.first in
    let top : c.top-operands.result.now ≡ reverse (take (request_size name) now.ops) =
    c.top-operands.ensures ∙ ap (λ (k : ℕ). reverse (take k now.ops)) c.size.ensures in
    let made : c.sending-request.result ≡ request_of name (item.Space (space_in n) ∷ map value_in (reverse (take (request_size name) now.ops))) =
    c.sending-request.ensures (space_in n) (c.sent_number-space.ensures ∙ ap sent_number c.space_in.ensures)
    ∙ ap (λ (os : List Operand). request_of name (item.Space (space_in n) ∷ map value_in os)) top in
    subst (λ q. Steps before after heads heads (stage_by p (Ask name) c.args.marks.now) now (record { position = now; waits = Asked q }) (c.args.marks.now - 1) On)
    (sym made)
    (asked_so before after heads c.in_ok-cell.ensures.kept p name now c.args.marks.now c.requires.finds.taken c.requires.sends c.first_behind-at.result first.0
    (behind ∙ first.1) (omega (arith, c.if-marks-eq0.false)) (sym c.are_there.ensures ∙ c.if-not-are_there.false) n c.in_ok-cell.ensures.number)
