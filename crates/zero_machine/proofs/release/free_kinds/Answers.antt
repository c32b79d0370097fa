use Rattle.std.proofs.Common.{◌+◌, refl, arith, ◌∙◌}
use Rattle.std.proofs.lemmas.List.{length-take}
use Rattle.zero_machine.proofs.Freeing.{frees_none, kinds_next}
use Rattle.zero_machine.proofs.release.free_kinds.Goals as goal

pub loop-kind-init : goal.loop-kind-init
loop-kind-init g c = record {
  cell = omega (arith, c.requires.within);
  freed = frees_none (g.M.Memory.holds c.args.m.now) c.args.at c.args.at c.args.until refl;
  heads = refl;
  later = omega arith;
  follows = g.met.M.Memory.reflexive _;
}

pub loop-kind-preserved : goal.loop-kind-preserved
loop-kind-preserved g c = record {
  cell =
      let short = length-take c.loop-kind.kind-index c.args.kinds.now in
      let more = length-take (c.loop-kind.kind-index + 1) c.args.kinds.now in
      omega (arith, short, more, c.loop-kind-test.true, c.loop-kind.invariant.cell, c.in_ok-cell.ensures.end);
  freed =
      kinds_next (g.M.Memory.holds c.args.m.now) (g.M.Memory.holds c.loop-kind.m) (g.M.Memory.holds c.free_kind.new.m) c.args.kinds.now c.loop-kind.kind-index _ _
      c.args.at c.loop-kind.cell c.in_ok-cell.cell c.args.until c.requires.within c.loop-kind-test.true refl c.loop-kind.invariant.cell
      c.loop-kind.invariant.freed c.in_ok-cell.ensures.freed;
  heads = c.free_kind.ensures.heads ∙ c.loop-kind.invariant.heads;
  later = omega (arith, c.loop-kind.invariant.later, c.free_kind.ensures.cause.later);
  follows = g.met.M.Memory.transitive _ _ _ c.loop-kind.invariant.follows c.free_kind.ensures.follows;
}
