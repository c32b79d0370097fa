use Rattle.std.proofs.Common.{◌∙◌, subst}
use Rattle.eu_base.specs.Cells.{Word, written}
use Rattle.eu_base.specs.DataSpaces.{Fills}
use Rattle.eu_base.specs.SpaceCells.{cells_by}
use Rattle.space_calls.proofs.Copying.{area_of}
use Rattle.space_calls.proofs.Binding.{few_cells, still_filled, new_so}
use Rattle.space_calls.proofs.bound.bind_new.Goals as goal

pub fill-requires-clause-cells : goal.fill-requires-clause-cells
fill-requires-clause-cells g c = few_cells c.args.shape.now c.requires.room

pub set_cell-requires-clause-there : goal.set_cell-requires-clause-there
set_cell-requires-clause-there g c =
    still_filled c.args.s c.args.shape.now (g.M.Memory.heads c.args.m.now) (g.M.Memory.heads c.fill.new.self) c.args.at.area c.in_ok-fill.ensures.heads
    (area_of c.args.at.area c.args.at.cell (g.M.Memory.heads c.args.m.now) c.requires.there)

pub returns-clause-goes : goal.returns-clause-goes
returns-clause-goes g c =
    let holds = g.M.Memory.holds in
    let heads = g.M.Memory.heads in
    let a = c.args.at in
    let shape = c.args.shape.now in
    let s = c.args.s in
    let had = heads c.args.m.now in
    new_so (holds c.args.m.now) (holds c.set_cell.new.self) had (heads c.set_cell.new.self) a shape s c.requires.there c.requires.room c.requires.live
    c.requires.empty (c.in_ok-set_cell.ensures.heads ∙ c.in_ok-fill.ensures.heads)
    (λ cells h bare free.
    subst (λ k. holds c.set_cell.new.self (written (cells_by (Fills s shape) had cells) a (Word k))) c.cell.ensures
    (c.in_ok-set_cell.ensures.written (cells_by (Fills s shape) had cells) (c.in_ok-fill.ensures.filled cells h bare) free))
