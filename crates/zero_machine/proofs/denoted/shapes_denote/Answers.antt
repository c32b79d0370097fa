use Rattle.std.proofs.Common.{◌-◌, length, sym, ap, ◌∙◌, arith}
use Rattle.eu_base.specs.declared.address.TheConstants.{CELLS}
use Rattle.eu_base.specs.Shapes.{cell_kinds}
use Rattle.zero_machine.proofs.FreeingCells.{next_shape, shape_fits}
use Rattle.zero_machine.proofs.Denoting.{taken_whole, no_shape_more, this_shape}
use Rattle.zero_machine.proofs.denoted.shapes_denote.Goals as goal

pub overflow_sub-from : goal.overflow_sub-from
overflow_sub-from g c =
    let fits =
    shape_fits c.args.at c.loop-shape.shape-index c.args.shapes.now c.shape-item.result c.shape-item.result c.loop-shape-test.true c.shape-item.is
    c.loop-shape.cell CELLS c.loop-shape.invariant.cell c.requires in
    omega (arith, fits, c.from.ensures)

pub cells_denote-requires : goal.cells_denote-requires
cells_denote-requires g c =
    let fits =
    shape_fits c.args.at c.loop-shape.shape-index c.args.shapes.now c.shape-item.result c.shape-item.result c.loop-shape-test.true c.shape-item.is
    c.loop-shape.cell CELLS c.loop-shape.invariant.cell c.requires in
    let whole =
    taken_whole c.as_slice.result.now c.in_ok-kinds.kinds (cell_kinds c.shape-item.result) (c.from.result - c.loop-shape.cell) c.as_slice.ensures
    c.in_ok-kinds.ensures (omega (arith, fits, c.from.ensures)) in
    let many = ap length whole in
    omega (arith, fits, many)

pub returns-then-branch-clause-denote : goal.returns-then-branch-clause-denote
returns-then-branch-clause-denote g c cells h each =
    let s = c.shape-item.result in
    let fits =
    shape_fits c.args.at c.loop-shape.shape-index c.args.shapes.now s s c.loop-shape-test.true c.shape-item.is c.loop-shape.cell CELLS
    c.loop-shape.invariant.cell c.requires in
    let whole =
    taken_whole c.as_slice.result.now c.in_ok-kinds.kinds (cell_kinds s) (c.from.result - c.loop-shape.cell) c.as_slice.ensures c.in_ok-kinds.ensures
    (omega (arith, fits, c.from.ensures)) in
    sym (this_shape c.args.space.0 c.args.at c.loop-shape.shape-index c.loop-shape.cell c.args.shapes.now s s c.loop-shape-test.true c.shape-item.is
    c.loop-shape.invariant.cell c.as_slice.result.now whole cells c.in_ok-cells_denote.field-0
    (c.in_ok-cells_denote.ensures.denote cells (c.loop-shape.invariant.kept cells h)) each c.if-branch.true)

pub loop-shape-preserved : goal.loop-shape-preserved
loop-shape-preserved g c =
    let s = c.shape-item.result in
    let fits =
    shape_fits c.args.at c.loop-shape.shape-index c.args.shapes.now s s c.loop-shape-test.true c.shape-item.is c.loop-shape.cell CELLS
    c.loop-shape.invariant.cell c.requires in
    let whole =
    taken_whole c.as_slice.result.now c.in_ok-kinds.kinds (cell_kinds s) (c.from.result - c.loop-shape.cell) c.as_slice.ensures c.in_ok-kinds.ensures
    (omega (arith, fits, c.from.ensures)) in
    let again =
    taken_whole c.as_slice-in-loop-shape.result.now c.in_ok-kinds.kinds (cell_kinds s) (c.from.result - c.loop-shape.cell) c.as_slice-in-loop-shape.ensures
    c.in_ok-kinds.ensures (omega (arith, fits, c.from.ensures)) in
    let many = ap length again in
    let next =
    next_shape c.args.at c.loop-shape.shape-index c.args.shapes.now s s c.loop-shape-test.true c.shape-item.is c.loop-shape.cell
    c.loop-shape.invariant.cell in
    record {
      cell = omega (arith, next, many);
      denote = λ cells h each.
          no_shape_more c.args.space.0 c.args.at c.loop-shape.shape-index c.loop-shape.cell c.args.shapes.now s s c.loop-shape-test.true c.shape-item.is
          c.loop-shape.invariant.cell c.as_slice.result.now whole cells c.in_ok-cells_denote.field-0
          (c.in_ok-cells_denote.ensures.denote cells (c.loop-shape.invariant.kept cells h)) each c.if-branch.false
          (c.loop-shape.invariant.denote cells h each);
      kept = λ cells h. c.in_ok-cells_denote.ensures.kept cells (c.loop-shape.invariant.kept cells h);
      heads = c.cells_denote.ensures.heads ∙ c.loop-shape.invariant.heads;
      later = omega (arith, c.loop-shape.invariant.later, c.cells_denote.ensures.cause.later);
      follows = g.met.M.Memory.transitive _ _ _ c.loop-shape.invariant.follows c.cells_denote.ensures.follows;
    }
