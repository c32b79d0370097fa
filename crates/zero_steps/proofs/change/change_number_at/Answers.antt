use Rattle.std.proofs.Common.{rules, refl, sym, ap, ◌∙◌}
use Rattle.std.specs.Int.{w16}
use Rattle.std.specs.Int.RustNames.{FitsSigned}
use Rattle.eu_base.specs.declared.value.Value.TheVariants.{Int}
use Rattle.eu_base.specs.Values.{cell_of}
use Rattle.zero_steps.proofs.Accessing.{same_number}
use Rattle.zero_steps.proofs.Contents.{number_changed, number_stops}
use Rattle.zero_steps.proofs.Placed.{still_there}
use Rattle.zero_steps.proofs.change.change_number_at.Goals as goal

pub returns-in_ok-set_cell-in-Ok-clause-changes : goal.returns-in_ok-set_cell-in-Ok-clause-changes
returns-in_ok-set_cell-in-Ok-clause-changes g c =
    let fits : FitsSigned w16 c.number_in-number.result = search rules in
    let fits' : FitsSigned w16 c.in-Ok.new = search rules in
    number_changed (g.M.Memory.holds c.args.m.now) (g.M.Memory.holds c.cell.new.self) (g.M.Memory.holds c.set_cell.new.self) c.args.at c.args.by
    c.args.operand.now c.in_ok-cell.field-0 _ c.requires.number (same_number c.number_in-number.result _ fits c.number_in-number.ensures)
    c.in_ok-cell.ensures.number c.in_ok-cell.ensures.kept _ c.cell-in-Ok.result (sym c.in-Ok.ensures)
    (c.cell-in-Ok.ensures ∙ ap (λ z. cell_of (Int z)) (same_number c.in-Ok.new _ fits' refl))
    c.in_ok-set_cell-in-Ok.ensures.written

pub returns-in-Err-clause-changes : goal.returns-in-Err-clause-changes
returns-in-Err-clause-changes g c =
    let fits : FitsSigned w16 c.number_in-number.result = search rules in
    number_stops (g.M.Memory.holds c.args.m.now) (g.M.Memory.holds c.cell.new.self) (g.M.Memory.holds c.cell.new.self) c.args.at c.args.by
    c.args.operand.now c.in_ok-cell.field-0 _ c.requires.number (same_number c.number_in-number.result _ fits c.number_in-number.ensures)
    c.in_ok-cell.ensures.number c.in_ok-cell.ensures.kept c.in-Err.fault (sym c.in-Err.ensures)

pub returns-in_ok-set_cell-in-Ok-clause-follows : goal.returns-in_ok-set_cell-in-Ok-clause-follows
returns-in_ok-set_cell-in-Ok-clause-follows g c = g.met.M.Memory.transitive _ _ _ c.cell.ensures.follows c.set_cell.ensures.follows

pub returns-in_err-set_cell-in-Ok-clause-follows : goal.returns-in_err-set_cell-in-Ok-clause-follows
returns-in_err-set_cell-in-Ok-clause-follows g c = g.met.M.Memory.transitive _ _ _ c.cell.ensures.follows c.set_cell.ensures.follows

pub set_cell-requires-clause-there : goal.set_cell-requires-clause-there
set_cell-requires-clause-there g c =
    still_there _ _ c.args.at.area c.cell.ensures.heads c.requires.there
