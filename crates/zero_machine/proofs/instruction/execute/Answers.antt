use Rattle.std.proofs.Common.{◌≡◌, get_or, rules, refl, subst}
use Rattle.std.proofs.lemmas.Int.{to_z-of_z}
use Rattle.std.specs.Int.{w16}
use Rattle.std.specs.Int.RustNames.{FitsSigned}
use Rattle.eu_base.specs.declared.value.Value.TheVariants as item
use Rattle.code_form.specs.declared.operand.Operand.TheVariants as operand
use Rattle.code_form.specs.declared.instr.Instr.TheVariants.{Number, Truth, Text, Outer, Packet, Local, Param, Index, Field, Content, Pick, Take, Load, Do, OnSpaces, Copy, Bind, Modify, Jump, False, When}
use Rattle.code_form.specs.declared.instr.Instr.TheVariants.{Drop, Limit, Unlimit, Step, Ask, ErrorStop, Back, Out}
use Rattle.zero_state.specs.Stepping.{position_of, control_of, mem_of, stage_by}
use Rattle.zero_state.proofs.Making.{plain_steps}
use Rattle.zero_state.specs.Finds.{Finds}
use Rattle.zero_machine.proofs.Executing.{called_in, referred_in, callable, call_so, refer_so, said_by, accesses, spends, acts, stores, so, goes_so, forgets_so, computed_so, pushes_so, asks_so, ends}
use Rattle.zero_machine.proofs.instruction.execute.Goals as goal

pub returns-in-Mark-clause-goes : goal.returns-in-Mark-clause-goes
returns-in-Mark-clause-goes g c =
    let holds = g.M.Memory.holds c.args.m.now in
    plain_steps holds holds (g.M.Memory.heads c.args.m.now) (stage_by c.args.code.now c.args.instr.now c.args.marks.now) (position_of c.args.s.now) (control_of c.mark.new.s) c.mark.new.marks _
    (λ cells. cells)
    (λ cells. rw c.in-Mark.is (c.mark.ensures c.args.code.now (mem_of (g.M.Memory.heads c.args.m.now) cells))) (λ cells h. h)

pub returns-in-Number-clause-goes : goal.returns-in-Number-clause-goes
returns-in-Number-clause-goes g c =
    let fits : FitsSigned w16 c.in-Number.number = search rules in
    let h = simp to_z-of_z at c.push_on.ensures in
    pushes_so (g.M.Memory.holds c.args.m.now) (g.M.Memory.heads c.args.m.now) c.args.code.now c.args.instr.now (Number c.in-Number.number) c.args.marks.now (position_of c.args.s.now)
    (control_of c.push_on.new.s) c.in-Number.is c.push_on.result c.computed.result c.computed.ensures.same
    (operand.Value (item.Int c.in-Number.number)) (λ p mem. refl) h

pub returns-in-Truth-clause-goes : goal.returns-in-Truth-clause-goes
returns-in-Truth-clause-goes g c =
    pushes_so (g.M.Memory.holds c.args.m.now) (g.M.Memory.heads c.args.m.now) c.args.code.now c.args.instr.now (Truth c.in-Truth.truth) c.args.marks.now (position_of c.args.s.now)
    (control_of c.push_on-in-Truth.new.s) c.in-Truth.is c.push_on-in-Truth.result c.computed-in-Truth.result c.computed-in-Truth.ensures.same
    (operand.Value (item.Truth c.in-Truth.truth)) (λ p mem. refl) c.push_on-in-Truth.ensures

pub returns-in-Outer-clause-goes : goal.returns-in-Outer-clause-goes
returns-in-Outer-clause-goes g c =
    computed_so (g.M.Memory.holds c.args.m.now) (g.M.Memory.heads c.args.m.now) c.args.code.now c.args.instr.now (Outer c.in-Outer.cell) c.args.marks.now (position_of c.args.s.now) (control_of c.outer.new.s) c.in-Outer.is
    c.outer.result c.computed-in-Outer.result c.computed-in-Outer.ensures.same c.outer.ensures

pub returns-in-Packet-clause-goes : goal.returns-in-Packet-clause-goes
returns-in-Packet-clause-goes g c =
    computed_so (g.M.Memory.holds c.args.m.now) (g.M.Memory.heads c.args.m.now) c.args.code.now c.args.instr.now (Packet c.in-Packet.cell) c.args.marks.now (position_of c.args.s.now) (control_of c.packet.new.s) c.in-Packet.is
    c.packet.result c.computed-in-Packet.result c.computed-in-Packet.ensures.same c.packet.ensures

pub returns-in-Local-clause-goes : goal.returns-in-Local-clause-goes
returns-in-Local-clause-goes g c =
    computed_so (g.M.Memory.holds c.args.m.now) (g.M.Memory.heads c.args.m.now) c.args.code.now c.args.instr.now (Local c.in-Local.cell) c.args.marks.now (position_of c.args.s.now) (control_of c.local.new.s) c.in-Local.is
    c.local.result c.computed-in-Local.result c.computed-in-Local.ensures.same c.local.ensures

pub returns-in-Do-clause-goes : goal.returns-in-Do-clause-goes
returns-in-Do-clause-goes g c =
    computed_so (g.M.Memory.holds c.args.m.now) (g.M.Memory.heads c.args.m.now) c.args.code.now c.args.instr.now (Do c.in-Do.operation) c.args.marks.now (position_of c.args.s.now) (control_of c.operate.new.s) c.in-Do.is
    c.operate.result c.computed-in-Do.result c.computed-in-Do.ensures.same c.operate.ensures

pub returns-in-Text-clause-goes : goal.returns-in-Text-clause-goes
returns-in-Text-clause-goes g c =
    computed_so (g.M.Memory.holds c.args.m.now) (g.M.Memory.heads c.args.m.now) c.args.code.now c.args.instr.now (Text c.in-Text.text) c.args.marks.now (position_of c.args.s.now) (control_of c.push_text.new.s) c.in-Text.is
    c.push_text.result c.computed-in-Text.result c.computed-in-Text.ensures.same (rw c.as_slice.ensures at c.push_text.ensures)

pub returns-in-Param-clause-goes : goal.returns-in-Param-clause-goes
returns-in-Param-clause-goes g c =
    accesses c.param.result (g.M.Memory.holds c.args.m.now) (g.M.Memory.holds c.param.new.m) (g.M.Memory.heads c.args.m.now) (g.M.Memory.heads c.param.new.m) (position_of c.args.s.now) (control_of c.param.new.s)
    c.args.marks.now c.args.code.now c.args.instr.now (Param c.in-Param.cell) c.in-Param.is c.param.ensures.heads c.param.ensures.goes

pub returns-in-Index-clause-goes : goal.returns-in-Index-clause-goes
returns-in-Index-clause-goes g c =
    so (g.M.Memory.holds c.args.m.now) (g.M.Memory.heads c.args.m.now) c.args.code.now c.args.instr.now (Index c.in-Index.count c.in-Index.cells) c.args.marks.now (position_of c.args.s.now)
    (control_of c.index.new.s) c.in-Index.is c.index.result (λ cells. cells) (λ cells. c.index.ensures (mem_of (g.M.Memory.heads c.args.m.now) cells)) (λ cells held. held)

pub returns-in-Field-clause-goes : goal.returns-in-Field-clause-goes
returns-in-Field-clause-goes g c =
    so (g.M.Memory.holds c.args.m.now) (g.M.Memory.heads c.args.m.now) c.args.code.now c.args.instr.now (Field c.in-Field.cells) c.args.marks.now (position_of c.args.s.now)
    (control_of c.field.new.s) c.in-Field.is c.field.result (λ cells. cells) (λ cells. c.field.ensures (mem_of (g.M.Memory.heads c.args.m.now) cells)) (λ cells held. held)

pub returns-in-Content-clause-goes : goal.returns-in-Content-clause-goes
returns-in-Content-clause-goes g c =
    accesses c.content.result (g.M.Memory.holds c.args.m.now) (g.M.Memory.holds c.content.new.m) (g.M.Memory.heads c.args.m.now) (g.M.Memory.heads c.content.new.m) (position_of c.args.s.now)
    (control_of c.content.new.s) c.args.marks.now c.args.code.now c.args.instr.now Content c.in-Content.is c.content.ensures.heads c.content.ensures.goes

pub returns-in-Pick-clause-goes : goal.returns-in-Pick-clause-goes
returns-in-Pick-clause-goes g c =
    computed_so (g.M.Memory.holds c.args.m.now) (g.M.Memory.heads c.args.m.now) c.args.code.now c.args.instr.now (Pick c.in-Pick.count c.in-Pick.cells) c.args.marks.now
    (position_of c.args.s.now) (control_of c.pick.new.s) c.in-Pick.is c.pick.result c.computed-in-Pick.result c.computed-in-Pick.ensures.same c.pick.ensures

pub returns-in_ok-take-in-Take-clause-goes : goal.returns-in_ok-take-in-Take-clause-goes
returns-in_ok-take-in-Take-clause-goes g c =
    goes_so (g.M.Memory.holds c.args.m.now) (g.M.Memory.heads c.args.m.now) c.args.code.now c.args.instr.now (Take c.in-Take.of c.in-Take.from c.in-Take.cells) c.args.marks.now
    (position_of c.args.s.now) (control_of c.take.new.s) c.in-Take.is c.in_ok-take-in-Take.ensures

pub returns-in-Load-clause-goes : goal.returns-in-Load-clause-goes
returns-in-Load-clause-goes g c =
    accesses c.load.result (g.M.Memory.holds c.args.m.now) (g.M.Memory.holds c.load.new.m) (g.M.Memory.heads c.args.m.now) (g.M.Memory.heads c.load.new.m) (position_of c.args.s.now) (control_of c.load.new.s)
    c.args.marks.now c.args.code.now c.args.instr.now (Load c.in-Load.shape) c.in-Load.is c.load.ensures.heads c.load.ensures.goes

pub returns-in-Store-clause-goes : goal.returns-in-Store-clause-goes
returns-in-Store-clause-goes g c =
    stores c.store.result (g.M.Memory.holds c.args.m.now) (g.M.Memory.holds c.store.new.m) (g.M.Memory.heads c.args.m.now) (g.M.Memory.heads c.store.new.m) (position_of c.args.s.now) (control_of c.store.new.s)
    c.args.marks.now c.args.code.now c.args.instr.now c.in-Store.field-0 c.in-Store.is c.store.ensures.heads c.store.ensures.goes

pub returns-in-OnSpaces-clause-goes : goal.returns-in-OnSpaces-clause-goes
returns-in-OnSpaces-clause-goes g c =
    acts c.on_spaces.result (g.M.Memory.holds c.args.m.now) (g.M.Memory.holds c.on_spaces.new.m) (g.M.Memory.heads c.args.m.now) (g.M.Memory.heads c.on_spaces.new.m) (position_of c.args.s.now)
    (control_of c.on_spaces.new.s) c.args.marks.now c.args.code.now c.args.instr.now (OnSpaces c.in-OnSpaces.operation) c.in-OnSpaces.is c.on_spaces.ensures.goes

pub returns-in-Copy-clause-goes : goal.returns-in-Copy-clause-goes
returns-in-Copy-clause-goes g c =
    acts c.copy.result (g.M.Memory.holds c.args.m.now) (g.M.Memory.holds c.copy.new.m) (g.M.Memory.heads c.args.m.now) (g.M.Memory.heads c.copy.new.m) (position_of c.args.s.now)
    (control_of c.copy.new.s) c.args.marks.now c.args.code.now c.args.instr.now Copy c.in-Copy.is c.copy.ensures.goes

pub returns-in-Bind-clause-goes : goal.returns-in-Bind-clause-goes
returns-in-Bind-clause-goes g c =
    acts c.bind.result (g.M.Memory.holds c.args.m.now) (g.M.Memory.holds c.bind.new.m) (g.M.Memory.heads c.args.m.now) (g.M.Memory.heads c.bind.new.m) (position_of c.args.s.now)
    (control_of c.bind.new.s) c.args.marks.now c.args.code.now c.args.instr.now (Bind c.in-Bind.shape) c.in-Bind.is c.bind.ensures.goes

pub returns-in-Modify-clause-goes : goal.returns-in-Modify-clause-goes
returns-in-Modify-clause-goes g c =
    accesses c.modify.result (g.M.Memory.holds c.args.m.now) (g.M.Memory.holds c.modify.new.m) (g.M.Memory.heads c.args.m.now) (g.M.Memory.heads c.modify.new.m) (position_of c.args.s.now) (control_of c.modify.new.s)
    c.args.marks.now c.args.code.now c.args.instr.now (Modify c.in-Modify.by) c.in-Modify.is c.modify.ensures.heads c.modify.ensures.goes

pub returns-in-Limit-clause-goes : goal.returns-in-Limit-clause-goes
returns-in-Limit-clause-goes g c =
    accesses c.limit.result (g.M.Memory.holds c.args.m.now) (g.M.Memory.holds c.limit.new.m) (g.M.Memory.heads c.args.m.now) (g.M.Memory.heads c.limit.new.m) (position_of c.args.s.now) (control_of c.limit.new.s)
    c.args.marks.now c.args.code.now c.args.instr.now (Limit c.in-Limit.way c.in-Limit.to) c.in-Limit.is c.limit.ensures.heads c.limit.ensures.goes

pub returns-in-Step-clause-goes : goal.returns-in-Step-clause-goes
returns-in-Step-clause-goes g c =
    accesses c.step.result (g.M.Memory.holds c.args.m.now) (g.M.Memory.holds c.step.new.m) (g.M.Memory.heads c.args.m.now) (g.M.Memory.heads c.step.new.m) (position_of c.args.s.now) (control_of c.step.new.s)
    c.args.marks.now c.args.code.now c.args.instr.now (Step c.in-Step.way c.in-Step.to) c.in-Step.is c.step.ensures.heads c.step.ensures.goes

pub returns-in-Jump-clause-goes : goal.returns-in-Jump-clause-goes
returns-in-Jump-clause-goes g c =
    goes_so (g.M.Memory.holds c.args.m.now) (g.M.Memory.heads c.args.m.now) c.args.code.now c.args.instr.now (Jump c.in-Jump.to) c.args.marks.now (position_of c.args.s.now) _ c.in-Jump.is
    (λ mem p marks. rw c.requires.ready.free refl)

pub returns-in-False-clause-goes : goal.returns-in-False-clause-goes
returns-in-False-clause-goes g c =
    goes_so (g.M.Memory.holds c.args.m.now) (g.M.Memory.heads c.args.m.now) c.args.code.now c.args.instr.now (False c.in-False.to) c.args.marks.now (position_of c.args.s.now) (control_of c.jump_false.new.s)
    c.in-False.is c.jump_false.ensures

pub returns-in-Drop-clause-goes : goal.returns-in-Drop-clause-goes
returns-in-Drop-clause-goes g c =
    goes_so (g.M.Memory.holds c.args.m.now) (g.M.Memory.heads c.args.m.now) c.args.code.now c.args.instr.now Drop c.args.marks.now (position_of c.args.s.now) (control_of c.drop_value.new.s)
    c.in-Drop.is c.drop_value.ensures

pub returns-in-ErrorStop-clause-goes : goal.returns-in-ErrorStop-clause-goes
returns-in-ErrorStop-clause-goes g c =
    goes_so (g.M.Memory.holds c.args.m.now) (g.M.Memory.heads c.args.m.now) c.args.code.now c.args.instr.now ErrorStop c.args.marks.now (position_of c.args.s.now) (control_of c.error_stop.new.s)
    c.in-ErrorStop.is c.error_stop.ensures

pub returns-in_ok-when-in-When-clause-goes : goal.returns-in_ok-when-in-When-clause-goes
returns-in_ok-when-in-When-clause-goes g c =
    let fits : FitsSigned w16 c.in-When.label = search rules in
    let h = simp to_z-of_z at c.in_ok-when-in-When.ensures in
    goes_so (g.M.Memory.holds c.args.m.now) (g.M.Memory.heads c.args.m.now) c.args.code.now c.args.instr.now (When c.in-When.label c.in-When.to) c.args.marks.now (position_of c.args.s.now)
    (control_of c.when.new.s) c.in-When.is h

pub returns-in-Unlimit-clause-goes : goal.returns-in-Unlimit-clause-goes
returns-in-Unlimit-clause-goes g c =
    forgets_so (g.M.Memory.holds c.args.m.now) (g.M.Memory.heads c.args.m.now) c.args.code.now c.args.instr.now Unlimit c.args.marks.now (position_of c.args.s.now) (control_of c.unlimit.new.s)
    c.in-Unlimit.is c.unlimit.new.s.used c.args.s.now.used (g.met.M.Memory.forgets c.args.m.now) c.unlimit.ensures

pub ask-requires-clause-finds : goal.ask-requires-clause-finds
ask-requires-clause-finds g c =
    (subst (λ i. Finds c.args.code.now.bodies i (position_of c.args.s.now)) c.in-Ask.is c.requires.finds).taken

pub returns-then-sends-clause-goes : goal.returns-then-sends-clause-goes
returns-then-sends-clause-goes g c =
    spends c.ask_sending.result (g.M.Memory.holds c.args.m.now) (g.M.Memory.holds c.ask_sending.new.m) (g.M.Memory.heads c.args.m.now)
    (g.M.Memory.heads c.ask_sending.new.m) (position_of c.args.s.now) (control_of c.ask_sending.new.s) c.args.marks.now c.ask_sending.new.marks
    c.args.code.now c.args.instr.now (Ask c.in-Ask.request) c.in-Ask.is c.ask_sending.ensures.heads c.ask_sending.ensures.goes

pub returns-else-sends-clause-goes : goal.returns-else-sends-clause-goes
returns-else-sends-clause-goes g c =
    asks_so (g.M.Memory.holds c.args.m.now) (g.M.Memory.heads c.args.m.now) c.args.code.now c.args.instr.now (Ask c.in-Ask.request) c.args.marks.now (position_of c.args.s.now) (control_of c.ask.new.s)
    c.in-Ask.is c.ask.new.marks c.ask.result c.computed-else-sends.result c.computed-else-sends.ensures.same c.ask.ensures

pub bounds-bodies-body : goal.bounds-bodies-body
bounds-bodies-body g c =
    called_in c.args.code.now.bodies c.args.instr.now c.in-Call.body (position_of c.args.s.now) c.requires.finds c.bodies.result.now c.in-Call.is c.bodies.ensures

pub offset_bounds-bodies-body : goal.offset_bounds-bodies-body
offset_bounds-bodies-body g c =
    let lt = called_in c.args.code.now.bodies c.args.instr.now c.in-Call.body (position_of c.args.s.now) c.requires.finds c.bodies.result.now c.in-Call.is c.bodies.ensures in
    search rules

pub call-requires-clause-finds : goal.call-requires-clause-finds
call-requires-clause-finds g c =
    callable c.args.code.now.bodies c.args.instr.now c.in-Call.body (position_of c.args.s.now) c.requires.finds c.bodies.result.now c.index-bodies-body.result
    c.in-Call.is c.bodies.ensures c.index-bodies-body.is

pub bounds-bodies-body-in-Refer : goal.bounds-bodies-body-in-Refer
bounds-bodies-body-in-Refer g c =
    referred_in c.args.code.now.bodies c.args.instr.now c.in-Refer.body (position_of c.args.s.now) c.requires.finds c.bodies-in-Refer.result.now c.in-Refer.is
    c.bodies-in-Refer.ensures

pub offset_bounds-bodies-body-in-Refer : goal.offset_bounds-bodies-body-in-Refer
offset_bounds-bodies-body-in-Refer g c =
    let lt = referred_in c.args.code.now.bodies c.args.instr.now c.in-Refer.body (position_of c.args.s.now) c.requires.finds c.bodies-in-Refer.result.now c.in-Refer.is
    c.bodies-in-Refer.ensures in
    search rules

pub returns-in-Call-clause-goes : goal.returns-in-Call-clause-goes
returns-in-Call-clause-goes g c =
    call_so c.call.result (g.M.Memory.holds c.args.m.now) (g.M.Memory.holds c.call.new.m) (g.M.Memory.heads c.args.m.now)
    (g.M.Memory.heads c.call.new.m) (position_of c.args.s.now) (control_of c.call.new.s)
    c.args.marks.now c.call.new.marks c.args.code.now c.args.instr.now c.in-Call.body c.index-bodies-body.result c.in-Call.is c.requires.finds
    (subst (λ b. c.index-bodies-body.result ≡ get_or b c.in-Call.body c.index-bodies-body.result) c.bodies.ensures
    c.index-bodies-body.is) c.call.ensures.heads c.call.ensures.goes

pub returns-in-Refer-clause-goes : goal.returns-in-Refer-clause-goes
returns-in-Refer-clause-goes g c =
    refer_so c.refer.result (g.M.Memory.holds c.args.m.now) (g.M.Memory.holds c.refer.new.m) (g.M.Memory.heads c.args.m.now)
    (g.M.Memory.heads c.refer.new.m) (position_of c.args.s.now) (control_of c.refer.new.s)
    c.args.marks.now c.refer.new.marks c.args.code.now c.args.instr.now c.in-Refer.body c.index-bodies-body-in-Refer.result c.in-Refer.is c.requires.finds
    (subst (λ b. c.index-bodies-body-in-Refer.result ≡ get_or b c.in-Refer.body c.index-bodies-body-in-Refer.result) c.bodies-in-Refer.ensures
    c.index-bodies-body-in-Refer.is) c.refer.ensures.heads c.refer.ensures.goes

pub returns-in_ok-back-in-Back-clause-goes : goal.returns-in_ok-back-in-Back-clause-goes
returns-in_ok-back-in-Back-clause-goes g c =
    said_by (g.M.Memory.holds c.args.m.now) (g.M.Memory.holds c.back.new.m) (g.M.Memory.heads c.args.m.now) (g.M.Memory.heads c.back.new.m)
    (position_of c.args.s.now) (control_of c.back.new.s) c.args.marks.now
    c.args.code.now c.args.instr.now (Back c.in-Back.delivers) c.in-Back.is c.back.ensures.heads (c.in_ok-back-in-Back.ensures.goes c.args.marks.now)

pub returns-in_ok-back_around-in-Out-clause-goes : goal.returns-in_ok-back_around-in-Out-clause-goes
returns-in_ok-back_around-in-Out-clause-goes g c =
    said_by (g.M.Memory.holds c.args.m.now) (g.M.Memory.holds c.back_around.new.m) (g.M.Memory.heads c.args.m.now) (g.M.Memory.heads c.back_around.new.m)
    (position_of c.args.s.now) (control_of c.back_around.new.s)
    c.args.marks.now c.args.code.now c.args.instr.now (Out c.in-Out.delivers) c.in-Out.is c.back_around.ensures.heads (c.in_ok-back_around-in-Out.ensures.goes c.args.marks.now)

pub returns-in-End-clause-goes : goal.returns-in-End-clause-goes
returns-in-End-clause-goes g c =
    let holds = g.M.Memory.holds c.args.m.now in
    ends holds (g.M.Memory.heads c.args.m.now) (position_of c.args.s.now) c.args.marks.now c.args.s.now.waits c.requires.ready.free c.args.code.now c.args.instr.now c.in-End.is
