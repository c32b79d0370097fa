use Rattle.std.proofs.Common.{refl, ap, arith, length, take, ◌∙◌}
use Rattle.std.specs.Prelude.{flat_map}
use Rattle.std.proofs.lemmas.List.{length-append}
use Rattle.code_form.specs.Program.{cell_uses}
use Rattle.zero_machine.proofs.Freeing.{frees_none, uses_more, uses_next}
use Rattle.zero_machine.proofs.release.free_parameters.Goals as goal

pub loop-parameter-init : goal.loop-parameter-init
loop-parameter-init g c = record {
  cell = omega (arith, c.requires.within);
  freed = frees_none (g.M.Memory.holds c.args.m.now) c.args.at c.args.at c.args.until refl;
  heads = refl;
  later = omega arith;
  follows = g.met.M.Memory.reflexive _;
}

pub loop-parameter-preserved : goal.loop-parameter-preserved
loop-parameter-preserved g c =
    let ps = c.args.parameters.now in
    let i = c.loop-parameter.parameter-index in
    let p = c.parameter-item.result in
    record {
      cell =
          let more = ap length (uses_more ps i p p c.loop-parameter-test.true c.parameter-item.is) in
          let size = length-append (flat_map cell_uses (take i ps)) (cell_uses p) in
          omega (arith, more, size, c.loop-parameter.invariant.cell, c.in_ok-cell.ensures.end);
      freed =
          uses_next (g.M.Memory.holds c.args.m.now) (g.M.Memory.holds c.loop-parameter.m) (g.M.Memory.holds c.free_parameter.new.m) ps i p p
          c.args.at c.loop-parameter.cell c.in_ok-cell.cell c.args.until c.requires.within c.loop-parameter-test.true c.parameter-item.is
          c.loop-parameter.invariant.cell c.loop-parameter.invariant.freed c.in_ok-cell.ensures.freed;
      heads = c.free_parameter.ensures.heads ∙ c.loop-parameter.invariant.heads;
      later = omega (arith, c.loop-parameter.invariant.later, c.free_parameter.ensures.cause.later);
      follows = g.met.M.Memory.transitive _ _ _ c.loop-parameter.invariant.follows c.free_parameter.ensures.follows;
    }
