use Rattle.std.proofs.Common.{refl, sym, subst, arith, ◌∙◌}
use Rattle.eu_base.specs.Cells.{IsCell}
use Rattle.zero_steps.proofs.Along.{steps_cell, step_on}
use Rattle.zero_steps.proofs.Storing.{reads_before, read_more}
use Rattle.zero_steps.proofs.Placed.{steps_there}
use Rattle.zero_steps.proofs.cells.values_at.Goals as goal

pub value_at-requires-clause-cell : goal.value_at-requires-clause-cell
value_at-requires-clause-cell g c = subst IsCell (sym c.loop-kind.invariant.place) (steps_cell c.loop-kind.kind-index c.args.at c.requires.cell)

pub value_at-requires-clause-there : goal.value_at-requires-clause-there
value_at-requires-clause-there g c =
    steps_there (g.M.Memory.heads c.args.m.now) (g.M.Memory.heads c.loop-kind.m) c.loop-kind.kind-index c.args.at c.loop-kind.place c.loop-kind.invariant.place
    c.loop-kind.invariant.heads c.requires.there

pub loop-kind-preserved : goal.loop-kind-preserved
loop-kind-preserved g c = record {
  place = step_on c.loop-kind.kind-index c.args.at c.loop-kind.place c.next-place.result c.loop-kind.invariant.place c.next-place.ensures;
  reads =
      read_more (g.M.Memory.holds c.args.m.now) c.args.at c.loop-kind.place c.args.kinds.now c.loop-kind.kind-index _ _ c.in_ok-value_at.field-0 c.loop-kind.values
      c.push.new.self c.loop-kind-test.true refl c.loop-kind.invariant.place c.loop-kind.invariant.reads
      (reads_before (g.M.Memory.holds c.args.m.now) (g.M.Memory.holds c.loop-kind.m) c.loop-kind.place _ c.in_ok-value_at.field-0 c.loop-kind.invariant.kept
      c.in_ok-value_at.ensures.reads) c.in_ok-push.ensures.ok;
  kept = λ cells h. c.in_ok-value_at.ensures.kept cells (c.loop-kind.invariant.kept cells h);
  heads = c.value_at.ensures.heads ∙ c.loop-kind.invariant.heads;
  later = omega (arith, c.loop-kind.invariant.later, c.value_at.ensures.cause.later);
  follows = g.met.M.Memory.transitive _ _ _ c.loop-kind.invariant.follows c.value_at.ensures.follows;
}
