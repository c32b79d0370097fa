use Rattle.std.proofs.Common.{sym, ◌∙◌, subst, arith}
use Rattle.eu_base.specs.declared.address.TheConstants.{CELLS}
use Rattle.zero_machine.specs.Freed.{freed}
use Rattle.zero_machine.proofs.FreeingCells.{next_shape, shape_fits, shape_held}
use Rattle.zero_machine.proofs.shapes.free_shapes.Goals as goal

pub free_shape-requires : goal.free_shape-requires
free_shape-requires g c =
    shape_fits c.args.at c.loop-shape.shape-index c.args.shapes.now c.shape-item.result c.shape-item.result c.loop-shape-test.true c.shape-item.is
    c.loop-shape.cell CELLS c.loop-shape.invariant.cell c.requires

pub loop-shape-preserved : goal.loop-shape-preserved
loop-shape-preserved g c =
    let shapes = c.args.shapes.now in
    let i = c.loop-shape.shape-index in
    let s = c.shape-item.result in
    let here = c.loop-shape.invariant.cell in
    let next = next_shape c.args.at i shapes s s c.loop-shape-test.true c.shape-item.is c.loop-shape.cell here in
    record {
      cell = omega (arith, next, c.in_ok-cell.ensures.end);
      freed = λ from cells low h each.
          subst (λ n. g.M.Memory.holds c.free_shape.new.m (freed from n cells)) (sym c.in_ok-cell.ensures.end)
          (c.in_ok-cell.ensures.freed from cells (omega (arith, low, here)) (c.loop-shape.invariant.freed from cells low h each)
          (shape_held c.args.at i shapes s s c.loop-shape-test.true c.shape-item.is c.loop-shape.cell cells here each));
      heads = c.free_shape.ensures.heads ∙ c.loop-shape.invariant.heads;
      later = omega (arith, c.loop-shape.invariant.later, c.free_shape.ensures.cause.later);
      follows = g.met.M.Memory.transitive _ _ _ c.loop-shape.invariant.follows c.free_shape.ensures.follows;
    }
