use Rattle.std.proofs.Common.{refl, arith, ◌∙◌}
use Rattle.eu_base.specs.declared.address.Area.TheVariants.{Run}
use Rattle.zero_machine.proofs.Freeing.{frees_none}
use Rattle.zero_machine.proofs.Shaped.{next_shape, shape_freed}
use Rattle.zero_machine.proofs.release.free_variables.Goals as goal

pub loop-shape-init : goal.loop-shape-init
loop-shape-init g c = record {
  cell = omega (arith, c.requires.within);
  freed = frees_none (g.M.Memory.holds c.args.m.now) c.args.at c.args.at c.args.until refl;
  heads = refl;
  later = omega arith;
  follows = g.met.M.Memory.reflexive _;
}

pub loop-shape-preserved : goal.loop-shape-preserved
loop-shape-preserved g c =
    let shapes = c.args.shapes.now in
    let i = c.loop-shape.shape-index in
    let s = c.shape-item.result in
    let lt = c.loop-shape-test.true in
    let is = c.shape-item.is in
    record {
      cell =
          let next = next_shape Run c.args.at i shapes s s lt is _ refl in
          omega (arith, next, c.loop-shape.invariant.cell, c.in_ok-cell.ensures.end);
      freed =
          shape_freed Run c.args.at i shapes s s lt is (g.M.Memory.holds c.args.m.now) (g.M.Memory.holds c.loop-shape.m) (g.M.Memory.holds c.free_variable.new.m)
          c.loop-shape.cell c.in_ok-cell.cell c.args.until c.requires.within c.loop-shape.invariant.cell c.loop-shape.invariant.freed c.in_ok-cell.ensures.freed;
      heads = c.free_variable.ensures.heads ∙ c.loop-shape.invariant.heads;
      later = omega (arith, c.loop-shape.invariant.later, c.free_variable.ensures.cause.later);
      follows = g.met.M.Memory.transitive _ _ _ c.loop-shape.invariant.follows c.free_variable.ensures.follows;
    }
