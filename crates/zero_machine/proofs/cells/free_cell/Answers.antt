use Rattle.std.proofs.Common.{sym, ◌∙◌}
use Rattle.zero_machine.proofs.FreeingCells.{text_cell, number_cell}
use Rattle.zero_machine.proofs.cells.free_cell.Goals as goal

pub returns-then-is_text-clause-freed : goal.returns-then-is_text-clause-freed
returns-then-is_text-clause-freed g c =
    text_cell c.free_text.result (g.M.Memory.holds c.args.m.now) (g.M.Memory.holds c.free_text.new.m) c.args.kind c.args.cell
    (sym c.is_text.ensures ∙ c.if-is_text.true) c.free_text.ensures.freed

pub returns-else-is_text-clause-freed : goal.returns-else-is_text-clause-freed
returns-else-is_text-clause-freed g c =
    number_cell (g.M.Memory.holds c.args.m.now) (g.met.M.Memory.forgets c.args.m.now) c.args.kind c.args.cell
    (sym c.is_text.ensures ∙ c.if-is_text.false)
