use Rattle.std.proofs.Common.{◌≡◌, Option, Some, refl, sym, ap, ◌∙◌, subst}
use Rattle.eu_base.specs.declared.value.Value.TheVariants as item
use Rattle.eu_base.specs.Values.{SpaceNo, cell_of, space_in}
use Rattle.eu_base.specs.Cells.{Word, written}
use Rattle.eu_base.specs.DataSpaces.{Heads, Makes, next_number, heads_by, heads_after}
use Rattle.eu_base.specs.SpaceCells.{IsThere, cells_by}
use Rattle.eu_base.specs.SpaceOperations.{copy_refusal, room_refusal, forgetting}
use Rattle.space_calls.specs.Planned.{cells_after}
use Rattle.space_calls.proofs.Copying.{still_area, area_of, gone_so, unfit_so, full_so, copied_so}
use Rattle.space_calls.proofs.copies.assign_copy.Goals as goal

pub cell-requires-clause-there : goal.cell-requires-clause-there
cell-requires-clause-there g c =
    area_of c.args.at.area c.args.at.cell (g.M.Memory.heads c.args.m.now) (sym c.are_there.ensures ∙ c.if-not-are_there.false)

pub returns-then-not-are_there-clause-goes : goal.returns-then-not-are_there-clause-goes
returns-then-not-are_there-clause-goes g c =
    let holds = g.M.Memory.holds c.args.m.now in
    let heads = g.M.Memory.heads c.args.m.now in
    gone_so holds holds heads heads c.args.at c.args.from _ refl (sym c.are_there.ensures ∙ c.if-not-are_there.true) refl (λ cells h. h)

pub returns-in-Some-clause-goes : goal.returns-in-Some-clause-goes
returns-in-Some-clause-goes g c =
    let had = g.M.Memory.heads c.args.m.now in
    let has = g.M.Memory.heads c.cell.new.self in
    let same = c.in_ok-cell.ensures.heads in
    let r = c.in-Some.ensures in
    unfit_so (g.M.Memory.holds c.args.m.now) (g.M.Memory.holds c.cell.new.self) had has c.args.at c.args.from c.in_ok-cell.field-0
    (sym c.are_there.ensures ∙ c.if-not-are_there.false) r.0 c.in-Some.next r.1.1
    (ap (λ (h : Heads). copy_refusal c.args.from h) (sym same) ∙ r.1.0) same c.in_ok-cell.ensures.kept

pub returns-in-Some-room_refusal-clause-goes : goal.returns-in-Some-room_refusal-clause-goes
returns-in-Some-room_refusal-clause-goes g c =
    let had = g.M.Memory.heads c.args.m.now in
    let has = g.M.Memory.heads c.cell.new.self in
    let same = c.in_ok-cell.ensures.heads in
    let r = c.in-Some-room_refusal.ensures in
    full_so (g.M.Memory.holds c.args.m.now) (g.M.Memory.holds c.cell.new.self) had has c.args.at c.args.from c.in_ok-cell.field-0
    (sym c.are_there.ensures ∙ c.if-not-are_there.false) r.0 c.in-Some-room_refusal.next r.1.1
    (ap (λ (h : Heads). copy_refusal c.args.from h) (sym same) ∙ c.in_default.ensures)
    (ap (λ (h : Heads). room_refusal h) (sym same) ∙ r.1.0) same c.in_ok-cell.ensures.kept

pub set_cell-requires-clause-there : goal.set_cell-requires-clause-there
set_cell-requires-clause-there g c =
    still_area c.args.from (g.M.Memory.heads c.cell.new.self) (g.M.Memory.heads c.make.new.self) c.args.at.area c.in_ok-s.ensures.heads
    (subst (λ (h : Heads). IsThere h c.args.at.area) (sym c.in_ok-cell.ensures.heads)
    (area_of c.args.at.area c.args.at.cell (g.M.Memory.heads c.args.m.now) (sym c.are_there.ensures ∙ c.if-not-are_there.false)))

pub returns-clause-goes : goal.returns-clause-goes
returns-clause-goes g c =
    let holds = g.M.Memory.holds in
    let heads = g.M.Memory.heads in
    let a = c.args.at in
    let from = c.args.from in
    let had = heads c.args.m.now in
    let n = c.in_ok-cell.field-0 in
    let held = c.space_in-held.result in
    let same = c.in_ok-cell.ensures.heads in
    let made = heads_by (Makes from) had in
    let mid : heads c.set_cell.new.self ≡ made =
    c.in_ok-set_cell.ensures.heads ∙ c.in_ok-s.ensures.heads ∙ ap (λ (h : Heads). heads_by (Makes from) h) same in
    let number = c.cell-2.ensures
    ∙ ap (λ (s : SpaceNo). cell_of (item.Space (Some s))) (c.in_ok-s.ensures.number ∙ ap (λ (h : Heads). next_number h) same) in
    copied_so (holds c.args.m.now) (holds c.forget_held.new.m) had (heads c.forget_held.new.m) a from n
    (sym c.are_there.ensures ∙ c.if-not-are_there.false)
    (ap (λ (h : Heads). copy_refusal from h) (sym same) ∙ c.in_default.ensures)
    (ap (λ (h : Heads). room_refusal h) (sym same) ∙ c.in_default-room_refusal.ensures)
    c.in_ok-cell.ensures.number
    (c.forget_held.ensures.heads ∙ ap (λ (h : Heads). heads_after (forgetting held h) h) mid
    ∙ ap (λ (o : Option SpaceNo). heads_after (forgetting o made) made) c.space_in-held.ensures)
    (λ cells h free.
    let there = subst (λ (h : Heads). holds c.make.new.self (cells_by (Makes from) h cells)) same
    (c.in_ok-s.ensures.kept cells (c.in_ok-cell.ensures.kept cells h)) in
    let put = subst (λ k. holds c.set_cell.new.self (written (cells_by (Makes from) had cells) a (Word k))) number
    (c.in_ok-set_cell.ensures.written (cells_by (Makes from) had cells) there free) in
    let cells' = written (cells_by (Makes from) had cells) a (Word (cell_of (item.Space (Some (next_number had))))) in
    subst (λ (o : Option SpaceNo). holds c.forget_held.new.m (cells_after (forgetting o made) made cells')) c.space_in-held.ensures
    (subst (λ (h : Heads). holds c.forget_held.new.m (cells_after (forgetting held h) h cells')) mid
    (c.forget_held.ensures.kept cells' put)))
