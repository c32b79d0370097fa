use Rattle.std.proofs.Common.{◌≡◌, sym, subst}
use Rattle.eu_base.specs.declared.address.Addr.{Addr}
use Rattle.eu_base.specs.Cells.{Word, area_cell, written, cell_blocks}
use Rattle.zero_machine.proofs.Contents.{blank_so}
use Rattle.zero_machine.proofs.frames.write_blank.Goals as goal

pub returns-clause-written : goal.returns-clause-written
returns-clause-written g c = λ cells h bare.
    let at = area_cell c.args.area c.args.cell in
    blank_so (g.M.Memory.holds c.set_cell.new.self) (g.met.M.Memory.forgets c.set_cell.new.self) (g.met.M.Memory.empty c.set_cell.new.self) c.args.kind cells
    at c.requires.cells
    (subst (λ n. g.M.Memory.holds c.set_cell.new.self (written cells at (Word n))) c.blank_cell.ensures
    (subst (λ (a : Addr). g.M.Memory.holds c.set_cell.new.self (written cells a (Word c.blank_cell.result))) c.area_cell.ensures
    (c.in_ok-set_cell.ensures.written cells h (subst (λ (a : Addr). cell_blocks (cells a) ≡ 0) (sym c.area_cell.ensures) bare))))
