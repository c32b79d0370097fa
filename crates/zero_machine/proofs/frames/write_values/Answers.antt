use Rattle.std.proofs.Common.{◌+◌, length, map, take, refl, subst, arith, ◌∙◌}
use Rattle.eu_base.specs.Cells.{held_of}
use Rattle.zero_machine.proofs.Framing.{PutsOne, free_here, value_done, values_full, values_done}
use Rattle.zero_machine.proofs.frames.write_values.Goals as goal

pub loop-index-preserved : goal.loop-index-preserved
loop-index-preserved g c = record {
  written = λ cells h free.
      value_done (g.M.Memory.holds c.write_value.new.m) c.args.at c.loop-index.index c.args.values.now c.index-values-index.result _ cells
      c.loop-index-test.true c.index-values-index.is
      (subst (PutsOne (g.M.Memory.holds c.loop-index.m) (g.M.Memory.holds c.write_value.new.m) (c.args.at + c.loop-index.index)
      (held_of c.index-values-index.result)) c.in_default.is c.in_ok-write_value.ensures.puts _ (c.loop-index.invariant.written cells h free)
      (free_here c.args.at c.loop-index.index (length c.args.values.now) (map held_of c.args.values.now) cells c.loop-index-test.true free));
  heads = c.write_value.ensures.heads ∙ c.loop-index.invariant.heads;
  later = omega (arith, c.loop-index.invariant.later, c.write_value.ensures.cause.later);
  follows = g.met.M.Memory.transitive _ _ _ c.loop-index.invariant.follows c.write_value.ensures.follows;
}

pub returns-in-HeapFull-clause-puts : goal.returns-in-HeapFull-clause-puts
returns-in-HeapFull-clause-puts g c = λ cells h free.
    values_full (g.M.Memory.holds c.write_value.new.m) (g.M.Memory.holds c.clear_values.new.m) (g.met.M.Memory.forgets c.write_value.new.m)
    (g.met.M.Memory.forgets c.clear_values.new.m) c.args.at
    c.loop-index.index c.args.values.now (take c.loop-index.index c.args.values.now) c.index-values-index.result c.index-values-index.result
    c.loop-index-test.true c.index-values-index.is refl c.in_ok-clear_values.ensures.cleared cells free
    (subst (PutsOne (g.M.Memory.holds c.loop-index.m) (g.M.Memory.holds c.write_value.new.m) (c.args.at + c.loop-index.index)
    (held_of c.index-values-index.result)) c.in-HeapFull.is c.in_ok-write_value.ensures.puts _ (c.loop-index.invariant.written cells h free)
    (free_here c.args.at c.loop-index.index (length c.args.values.now) (map held_of c.args.values.now) cells c.loop-index-test.true free))

pub returns-clause-puts : goal.returns-clause-puts
returns-clause-puts g c = λ cells h free.
    values_done (g.M.Memory.holds c.loop-index.m) c.args.at c.loop-index.index c.args.values.now cells c.loop-index-test.false c.loop-index.auto.index-end
    (c.loop-index.invariant.written cells h free)
