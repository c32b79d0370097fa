use Rattle.std.proofs.Common.{false, refl, sym, ap, subst}
use Rattle.eu_base.specs.Cells.{held_of}
use Rattle.code_form.specs.Machine.{held_cells}
use Rattle.zero_machine.specs.Frames.{HoldsText}
use Rattle.zero_machine.proofs.Freeing.{held_text, cell_cleared}
use Rattle.zero_machine.proofs.texts.clear_operand.Goals as goal

pub returns-in-Value-clause-cleared : goal.returns-in-Value-clause-cleared
returns-in-Value-clause-cleared g c =
    let v = c.in-Value.value in
    cell_cleared c.free_cell.result (g.M.Memory.holds c.args.m.now) (g.M.Memory.holds c.free_cell.new.m) c.args.cell c.args.operand.now (held_of v)
    c.is_text.result (ap held_cells c.in-Value.is) (subst (λ b. HoldsText b (held_of v)) (sym c.is_text.ensures) (held_text v)) c.free_cell.ensures.freed

pub returns-in-Place-clause-cleared : goal.returns-in-Place-clause-cleared
returns-in-Place-clause-cleared g c =
    cell_cleared c.free_cell-in-Place.result (g.M.Memory.holds c.args.m.now) (g.M.Memory.holds c.free_cell-in-Place.new.m) c.args.cell c.args.operand.now
    _ false (ap held_cells c.in-Place.is) refl c.free_cell-in-Place.ensures.freed
