use Rattle.std.proofs.Common.{◌≡◌, ◌∷◌, List, ◌+◌, cond, rules, refl, sym, ap, ◌∙◌, []}
use Rattle.std.specs.Int.{w16}
use Rattle.std.specs.Int.RustNames.{FitsSigned}
use Rattle.code_form.specs.declared.operand.Operand.{Operand}
use Rattle.code_form.specs.declared.operand.Operand.TheVariants as operand
use Rattle.eu_base.specs.Cells.{run_cell}
use Rattle.code_form.specs.declared.instr.Instr.TheVariants.{Limit}
use Rattle.eu_base.specs.declared.value.Kind.TheVariants as kinds
use Rattle.zero_state.specs.declared.next.Next.TheVariants.{On, NoSpace}
use Rattle.zero_state.specs.Stacked.{Stacked}
use Rattle.zero_state.specs.Stepping.{position_of}
use Rattle.zero_steps.proofs.Accessing.{accessed, both, writes_number, same_number, limit_so, limit_gone, limit_stops, with_ops}
use Rattle.zero_steps.proofs.Placed.{there_of, run_there}
use Rattle.zero_steps.proofs.step.limit.Goals as goal

pub returns-then-not-have_room-clause-goes : goal.returns-then-not-have_room-clause-goes
returns-then-not-have_room-clause-goes g c =
    let holds = g.M.Memory.holds c.args.m.now in
    let s = c.args.s.now in
    limit_stops holds holds (g.M.Memory.heads c.args.m.now) c.args.way c.args.to (position_of s) s.waits c.requires.finds c.requires.ready.free c.if-not-have_room.ensures (λ cells h. h)

pub returns-then-is_past-clause-goes : goal.returns-then-is_past-clause-goes
returns-then-is_past-clause-goes g c =
    let before = g.M.Memory.holds c.args.m.now in
    let after = g.M.Memory.holds c.set_cell.new.self in
    let s = c.args.s.now in
    let t = c.pop_place-at.new.self in
    let taken =
    both s.stack c.pop_value.new.self t (operand.Value c.pop_value.result) (operand.Place c.pop_place-at.result) c.pop_value.ensures c.pop_place-at.ensures in
    let here =
    sym (c.is_below_there.ensures c.pop_value.result c.pop_place-at.result t.ops (ap (λ (u : Stacked). u.ops) taken)) ∙ c.if-not-is_below_there.false in
    let fits : FitsSigned w16 c.number-limit.result = search rules in
    let fits' : FitsSigned w16 c.number_in-number.result = search rules in
    accessed before after (g.M.Memory.heads c.args.m.now) (Limit c.args.way c.args.to) On s.pc s.used c.args.to (s.used + 1) s.stack t _ t s.waits c.requires.ready.free
    (both s.stack c.pop_value.new.self t (operand.Value c.pop_value.result) (operand.Place c.pop_place-at.result) c.pop_value.ensures
    c.pop_place-at.ensures) refl
    (limit_so before after (g.M.Memory.heads c.args.m.now) c.args.way c.args.to c.in_ok-cell.field-0 c.pop_value.result c.pop_place-at.result s.pc s.used c.args.to t
    (sym c.have_room.ensures ∙ c.if-not-have_room.false) here c.in_ok-cell.ensures.number
    (writes_number before (g.M.Memory.holds c.cell.new.self) after c.run_cell.result (run_cell s.used) _ _ c.cell-2.result
    c.run_cell.ensures (same_number c.number-limit.result _ fits c.number-limit.ensures) c.cell-2.ensures c.in_ok-cell.ensures.kept
    c.in_ok-set_cell.ensures.written)
    c.is_past.result _ _ (same_number c.number-limit.result _ fits c.number-limit.ensures)
    (same_number c.number_in-number.result _ fits' c.number_in-number.ensures) c.is_past.ensures
    (ap (λ b. cond b c.args.to (s.pc + 1)) (sym c.if-is_past.true)))

pub returns-else-is_past-clause-goes : goal.returns-else-is_past-clause-goes
returns-else-is_past-clause-goes g c =
    let before = g.M.Memory.holds c.args.m.now in
    let after = g.M.Memory.holds c.set_cell.new.self in
    let s = c.args.s.now in
    let t = c.pop_place-at.new.self in
    let taken =
    both s.stack c.pop_value.new.self t (operand.Value c.pop_value.result) (operand.Place c.pop_place-at.result) c.pop_value.ensures c.pop_place-at.ensures in
    let here =
    sym (c.is_below_there.ensures c.pop_value.result c.pop_place-at.result t.ops (ap (λ (u : Stacked). u.ops) taken)) ∙ c.if-not-is_below_there.false in
    let fits : FitsSigned w16 c.number-limit.result = search rules in
    let fits' : FitsSigned w16 c.number_in-number.result = search rules in
    accessed before after (g.M.Memory.heads c.args.m.now) (Limit c.args.way c.args.to) On s.pc s.used (s.pc + 1) (s.used + 1) s.stack t _ t s.waits c.requires.ready.free
    (both s.stack c.pop_value.new.self t (operand.Value c.pop_value.result) (operand.Place c.pop_place-at.result) c.pop_value.ensures
    c.pop_place-at.ensures) refl
    (limit_so before after (g.M.Memory.heads c.args.m.now) c.args.way c.args.to c.in_ok-cell.field-0 c.pop_value.result c.pop_place-at.result s.pc s.used (s.pc + 1) t
    (sym c.have_room.ensures ∙ c.if-not-have_room.false) here c.in_ok-cell.ensures.number
    (writes_number before (g.M.Memory.holds c.cell.new.self) after c.run_cell.result (run_cell s.used) _ _ c.cell-2.result
    c.run_cell.ensures (same_number c.number-limit.result _ fits c.number-limit.ensures) c.cell-2.ensures c.in_ok-cell.ensures.kept
    c.in_ok-set_cell.ensures.written)
    c.is_past.result _ _ (same_number c.number-limit.result _ fits c.number-limit.ensures)
    (same_number c.number_in-number.result _ fits' c.number_in-number.ensures) c.is_past.ensures
    (ap (λ b. cond b c.args.to (s.pc + 1)) (sym c.if-is_past.false)))

pub returns-then-is_past-clause-follows : goal.returns-then-is_past-clause-follows
returns-then-is_past-clause-follows g c = g.met.M.Memory.transitive _ _ _ c.cell.ensures.follows c.set_cell.ensures.follows

pub returns-else-is_past-clause-follows : goal.returns-else-is_past-clause-follows
returns-else-is_past-clause-follows g c = g.met.M.Memory.transitive _ _ _ c.cell.ensures.follows c.set_cell.ensures.follows

pub returns-in_err-set_cell-clause-follows : goal.returns-in_err-set_cell-clause-follows
returns-in_err-set_cell-clause-follows g c = g.met.M.Memory.transitive _ _ _ c.cell.ensures.follows c.set_cell.ensures.follows

pub returns-then-not-is_below_there-clause-goes : goal.returns-then-not-is_below_there-clause-goes
returns-then-not-is_below_there-clause-goes g c =
    let holds = g.M.Memory.holds c.args.m.now in
    let heads = g.M.Memory.heads c.args.m.now in
    let s = c.args.s.now in
    let v = c.requires.finds.value in
    let a = c.requires.finds.place in
    let t : Stacked = record { ops = c.requires.finds.rest; frames = s.stack.frames } in
    let there : s.stack ≡ with_ops t (operand.Value v ∷ operand.Place a ∷ t.ops) = ap (λ (ops : List Operand). with_ops t ops) c.requires.finds.top in
    accessed holds holds heads (Limit c.args.way c.args.to) NoSpace s.pc s.used s.pc s.used s.stack s.stack _ _ s.waits c.requires.ready.free there there
    (limit_gone holds holds heads c.args.way c.args.to v a s.pc s.used t (sym c.have_room.ensures ∙ c.if-not-have_room.false)
    (sym (c.is_below_there.ensures v a t.ops c.requires.finds.top) ∙ c.if-not-is_below_there.true) (λ cells h. h))

pub cell-requires-clause-there : goal.cell-requires-clause-there
cell-requires-clause-there g c =
    let s = c.args.s.now in
    let t = c.pop_place-at.new.self in
    let taken =
    both s.stack c.pop_value.new.self t (operand.Value c.pop_value.result) (operand.Place c.pop_place-at.result) c.pop_value.ensures c.pop_place-at.ensures in
    there_of (kinds.Int ∷ []) c.pop_place-at.result.area c.pop_place-at.result.cell (g.M.Memory.heads c.args.m.now)
    (sym (c.is_below_there.ensures c.pop_value.result c.pop_place-at.result t.ops (ap (λ (u : Stacked). u.ops) taken)) ∙ c.if-not-is_below_there.false)

pub set_cell-requires-clause-there : goal.set_cell-requires-clause-there
set_cell-requires-clause-there g c =
    run_there (g.M.Memory.heads c.cell.new.self) c.run_cell.result _ c.run_cell.ensures
