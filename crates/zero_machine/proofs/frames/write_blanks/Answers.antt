use Rattle.std.proofs.Common.{length, map, refl, subst, arith, ◌∙◌}
use Rattle.eu_base.specs.Values.{blank_of}
use Rattle.eu_base.specs.Cells.{held_of}
use Rattle.zero_machine.proofs.Written.{bare_next, written_more, written_all}
use Rattle.zero_machine.proofs.frames.write_blanks.Goals as goal

pub loop-index-preserved : goal.loop-index-preserved
loop-index-preserved g c = record {
  written = λ cells h bare.
      subst (g.M.Memory.holds c.write_blank.new.m)
      (written_more c.args.area (λ k. held_of (blank_of k)) c.args.at c.loop-index.index c.args.variables.now _ _ cells c.loop-index-test.true refl)
      (c.in_ok-write_blank.ensures.written _ (c.loop-index.invariant.written cells h bare)
      (bare_next c.args.area c.args.at c.loop-index.index (length c.args.variables.now) (map (λ k. held_of (blank_of k)) c.args.variables.now) cells
      c.loop-index-test.true bare));
  heads = c.write_blank.ensures.heads ∙ c.loop-index.invariant.heads;
  later = omega (arith, c.loop-index.invariant.later, c.write_blank.ensures.cause.later);
  follows = g.met.M.Memory.transitive _ _ _ c.loop-index.invariant.follows c.write_blank.ensures.follows;
}

pub returns-clause-written : goal.returns-clause-written
returns-clause-written g c = λ cells h bare.
    subst (g.M.Memory.holds c.loop-index.m)
    (written_all c.args.area (λ k. held_of (blank_of k)) c.args.at c.loop-index.index c.args.variables.now cells c.loop-index-test.false c.loop-index.auto.index-end)
    (c.loop-index.invariant.written cells h bare)
