use Rattle.std.proofs.Common.{◌≡◌, ◌∷◌, List, sym, ◌+◌, ◌-◌, rules, refl, ap, ◌∙◌, []}
use Rattle.std.specs.Int.{w16}
use Rattle.std.specs.Int.RustNames.{FitsSigned}
use Rattle.eu_base.specs.Operations.{next_number}
use Rattle.code_form.specs.declared.operand.Operand.{Operand}
use Rattle.code_form.specs.declared.operand.Operand.TheVariants as operand
use Rattle.code_form.specs.declared.instr.Instr.TheVariants.{Step}
use Rattle.eu_base.specs.declared.value.Kind.TheVariants as kinds
use Rattle.zero_state.specs.Stacked.{Stacked}
use Rattle.zero_state.specs.declared.next.Next.TheVariants.{On, NoSpace}
use Rattle.zero_steps.proofs.Accessing.{accessed, limit_answers, same_number, writes_number, step_ends, step_goes, step_gone, with_ops}
use Rattle.zero_steps.proofs.Placed.{there_of, still_there}
use Rattle.zero_steps.proofs.step.step.Goals as goal

pub returns-then-has_reached-clause-goes : goal.returns-then-has_reached-clause-goes
returns-then-has_reached-clause-goes g c =
    let before = g.M.Memory.holds c.args.m.now in
    let after = g.M.Memory.holds c.cell-2.new.self in
    let s = c.args.s.now in
    let t = c.pop_place-at.new.self in
    let here =
    sym (c.is_top_there.ensures c.pop_place-at.result t.ops (ap (λ (u : Stacked). u.ops) c.pop_place-at.ensures)) ∙ c.if-not-is_top_there.false in
    let fits : FitsSigned w16 c.number_in-limit.result = search rules in
    let fits' : FitsSigned w16 c.number_in-number.result = search rules in
    accessed before after (g.M.Memory.heads c.args.m.now) (Step c.args.way c.args.to) On s.pc s.used c.args.to s.used s.stack t _ t s.waits c.requires.ready.free c.pop_place-at.ensures refl
    (step_ends before after (g.M.Memory.heads c.args.m.now) c.args.way c.args.to c.in_ok-cell.field-0 c.in_ok-cell-2.field-0 c.pop_place-at.result s.pc s.used t c.in_ok-cell.ensures.number
    (limit_answers before (g.M.Memory.holds c.cell.new.self) c.run_cell.result (s.used - 1) c.in_ok-cell-2.field-0 c.run_cell.ensures c.in_ok-cell.ensures.kept
    c.in_ok-cell-2.ensures.number)
    _ _ (same_number c.number_in-limit.result _ fits c.number_in-limit.ensures)
    (same_number c.number_in-number.result _ fits' c.number_in-number.ensures) here
    (λ cells h. c.in_ok-cell-2.ensures.kept cells (c.in_ok-cell.ensures.kept cells h)) c.has_reached.result c.has_reached.ensures c.if-has_reached.true)

pub returns-clause-goes : goal.returns-clause-goes
returns-clause-goes g c =
    let before = g.M.Memory.holds c.args.m.now in
    let after = g.M.Memory.holds c.set_cell.new.self in
    let s = c.args.s.now in
    let t = c.pop_place-at.new.self in
    let here =
    sym (c.is_top_there.ensures c.pop_place-at.result t.ops (ap (λ (u : Stacked). u.ops) c.pop_place-at.ensures)) ∙ c.if-not-is_top_there.false in
    let fits : FitsSigned w16 c.number_in-limit.result = search rules in
    let fits' : FitsSigned w16 c.number_in-number.result = search rules in
    let fits'' : FitsSigned w16 c.next.result = search rules in
    accessed before after (g.M.Memory.heads c.args.m.now) (Step c.args.way c.args.to) On s.pc s.used (s.pc + 1) s.used s.stack t _ t s.waits c.requires.ready.free c.pop_place-at.ensures refl
    (step_goes before after (g.M.Memory.heads c.args.m.now) c.args.way c.args.to c.in_ok-cell.field-0 c.in_ok-cell-2.field-0 c.pop_place-at.result s.pc s.used t c.in_ok-cell.ensures.number
    (limit_answers before (g.M.Memory.holds c.cell.new.self) c.run_cell.result (s.used - 1) c.in_ok-cell-2.field-0 c.run_cell.ensures c.in_ok-cell.ensures.kept
    c.in_ok-cell-2.ensures.number)
    _ _ (same_number c.number_in-limit.result _ fits c.number_in-limit.ensures)
    (same_number c.number_in-number.result _ fits' c.number_in-number.ensures) here
    (writes_number before (g.M.Memory.holds c.cell-2.new.self) after c.pop_place-at.result c.pop_place-at.result _ _ c.cell-3.result refl
    (same_number c.next.result _ fits'' (c.next.ensures
    ∙ ap (next_number c.args.way) (same_number c.number_in-number.result _ fits' c.number_in-number.ensures)))
    c.cell-3.ensures (λ cells h. c.in_ok-cell-2.ensures.kept cells (c.in_ok-cell.ensures.kept cells h)) c.in_ok-set_cell.ensures.written)
    c.has_reached.result c.has_reached.ensures c.if-has_reached.false)

pub returns-clause-follows : goal.returns-clause-follows
returns-clause-follows g c =
    let two = g.met.M.Memory.transitive _ _ _ c.cell.ensures.follows c.cell-2.ensures.follows in
    g.met.M.Memory.transitive _ _ _ two c.set_cell.ensures.follows

pub returns-then-has_reached-clause-follows : goal.returns-then-has_reached-clause-follows
returns-then-has_reached-clause-follows g c = g.met.M.Memory.transitive _ _ _ c.cell.ensures.follows c.cell-2.ensures.follows

pub returns-in_err-set_cell-clause-follows : goal.returns-in_err-set_cell-clause-follows
returns-in_err-set_cell-clause-follows g c =
    let two = g.met.M.Memory.transitive _ _ _ c.cell.ensures.follows c.cell-2.ensures.follows in
    g.met.M.Memory.transitive _ _ _ two c.set_cell.ensures.follows

pub returns-in_err-cell-2-clause-follows : goal.returns-in_err-cell-2-clause-follows
returns-in_err-cell-2-clause-follows g c = g.met.M.Memory.transitive _ _ _ c.cell.ensures.follows c.cell-2.ensures.follows

pub returns-then-not-is_top_there-clause-goes : goal.returns-then-not-is_top_there-clause-goes
returns-then-not-is_top_there-clause-goes g c =
    let holds = g.M.Memory.holds c.args.m.now in
    let heads = g.M.Memory.heads c.args.m.now in
    let s = c.args.s.now in
    let a = c.requires.finds.place in
    let t : Stacked = record { ops = c.requires.finds.rest; frames = s.stack.frames } in
    let there : s.stack ≡ with_ops t (operand.Place a ∷ t.ops) = ap (λ (ops : List Operand). with_ops t ops) c.requires.finds.top in
    accessed holds holds heads (Step c.args.way c.args.to) NoSpace s.pc s.used s.pc s.used s.stack s.stack _ _ s.waits c.requires.ready.free there there
    (step_gone holds holds heads c.args.way c.args.to a s.pc s.used t
    (sym (c.is_top_there.ensures a t.ops c.requires.finds.top) ∙ c.if-not-is_top_there.true) (λ cells h. h))

pub cell-requires-clause-there : goal.cell-requires-clause-there
cell-requires-clause-there g c =
    there_of (kinds.Int ∷ []) c.pop_place-at.result.area c.pop_place-at.result.cell (g.M.Memory.heads c.args.m.now)
    (sym (c.is_top_there.ensures c.pop_place-at.result c.pop_place-at.new.self.ops (ap (λ (u : Stacked). u.ops) c.pop_place-at.ensures))
    ∙ c.if-not-is_top_there.false)

pub set_cell-requires-clause-there : goal.set_cell-requires-clause-there
set_cell-requires-clause-there g c =
    still_there (g.M.Memory.heads c.args.m.now) (g.M.Memory.heads c.cell-2.new.self) c.pop_place-at.result.area (c.cell-2.ensures.heads ∙ c.cell.ensures.heads)
    (there_of (kinds.Int ∷ []) c.pop_place-at.result.area c.pop_place-at.result.cell (g.M.Memory.heads c.args.m.now)
    (sym (c.is_top_there.ensures c.pop_place-at.result c.pop_place-at.new.self.ops (ap (λ (u : Stacked). u.ops) c.pop_place-at.ensures))
    ∙ c.if-not-is_top_there.false))
