use Rattle.std.proofs.Common.{map, sym, subst, arith, ◌∙◌}
use Rattle.eu_base.specs.declared.address.TheConstants.{CELLS}
use Rattle.eu_base.specs.Values.{blank_of}
use Rattle.eu_base.specs.Cells.{held_of}
use Rattle.eu_base.specs.SpaceCells.{IsThere}
use Rattle.code_form.specs.Machine.{written_in}
use Rattle.zero_machine.proofs.Shaped.{next_shape, shape_fits, bare_there, shape_done, all_shapes}
use Rattle.zero_machine.proofs.frames.write_variables.Goals as goal

pub write_variable-requires-clause-cells : goal.write_variable-requires-clause-cells
write_variable-requires-clause-cells g c =
    shape_fits c.args.area c.args.at c.loop-shape.shape-index c.args.shapes.now c.shape-item.result c.shape-item.result c.loop-shape-test.true c.shape-item.is
    c.loop-shape.cell CELLS c.loop-shape.invariant.cell c.requires.cells

pub write_variable-requires-clause-there : goal.write_variable-requires-clause-there
write_variable-requires-clause-there g c = subst (λ heads. IsThere heads c.args.area) (sym c.loop-shape.invariant.heads) c.requires.there

pub loop-shape-preserved : goal.loop-shape-preserved
loop-shape-preserved g c =
    let shapes = c.args.shapes.now in
    let i = c.loop-shape.shape-index in
    let s = c.shape-item.result in
    let lt = c.loop-shape-test.true in
    let is = c.shape-item.is in
    let here = c.loop-shape.invariant.cell in
    let next = next_shape c.args.area c.args.at i shapes s s lt is c.loop-shape.cell here in
    record {
      cell = omega (arith, next, c.in_ok-cell.ensures.end);
      written = λ cells h bare.
          shape_done c.args.area c.args.at i shapes s s lt is (g.M.Memory.holds c.write_variable.new.m) c.loop-shape.cell cells here
          (c.in_ok-cell.ensures.written _ (c.loop-shape.invariant.written cells h bare) (bare_there c.args.area c.args.at i shapes s s lt is c.loop-shape.cell cells here bare));
      heads = c.write_variable.ensures.heads ∙ c.loop-shape.invariant.heads;
      later = omega (arith, c.loop-shape.invariant.later, c.write_variable.ensures.cause.later);
      follows = g.met.M.Memory.transitive _ _ _ c.loop-shape.invariant.follows c.write_variable.ensures.follows;
    }

pub returns-clause-written : goal.returns-clause-written
returns-clause-written g c = λ cells h bare.
    subst (λ ks. g.M.Memory.holds c.loop-shape.m (written_in c.args.area c.args.at (map (λ k. held_of (blank_of k)) ks) cells))
    (all_shapes c.loop-shape.shape-index c.args.shapes.now c.loop-shape-test.false)
    (c.loop-shape.invariant.written cells h bare)
