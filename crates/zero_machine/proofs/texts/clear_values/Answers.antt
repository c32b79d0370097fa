use Rattle.std.proofs.Common.{◌≡◌, ◌+◌, length, sym, subst, arith, ◌∙◌, refl}
use Rattle.eu_base.specs.Cells.{run_cell, freed}
use Rattle.zero_machine.specs.Frames.{HoldsText}
use Rattle.zero_machine.proofs.Freeing.{text_stands}
use Rattle.zero_machine.proofs.texts.clear_values.Goals as goal

pub loop-index-init : goal.loop-index-init
loop-index-init g c = record {
  freed = λ from cells low h stand.
      let here : c.args.at ≡ c.args.at + 0 = omega arith in subst (λ n. g.M.Memory.holds c.args.m.now (freed from n cells)) here h;
  heads = refl;
  later = omega arith;
  follows = g.met.M.Memory.reflexive _;
}

pub loop-index-preserved : goal.loop-index-preserved
loop-index-preserved g c = record {
  freed = λ from cells low h stand.
      let next : c.args.at + c.loop-index.index + 1 ≡ c.args.at + (c.loop-index.index + 1) = omega arith in
      subst (λ n. g.M.Memory.holds c.free_cell.new.m (freed from n cells)) next
      (c.in_ok-free_cell.ensures.freed from cells (omega (arith, low)) (c.loop-index.invariant.freed from cells low h stand)
      (subst (λ b. HoldsText b (cells (run_cell (c.args.at + c.loop-index.index)))) (sym c.is_text.ensures)
      (text_stands c.args.at c.loop-index.index c.args.values.now c.index-values-index.result cells stand c.loop-index-test.true
      c.index-values-index.is)));
  heads = c.free_cell.ensures.heads ∙ c.loop-index.invariant.heads;
  later = omega (arith, c.loop-index.invariant.later, c.free_cell.ensures.cause.later);
  follows = g.met.M.Memory.transitive _ _ _ c.loop-index.invariant.follows c.free_cell.ensures.follows;
}

pub returns-clause-cleared : goal.returns-clause-cleared
returns-clause-cleared g c = λ from cells low h stand.
    let e : c.loop-index.index ≡ length c.args.values.now = omega (arith, c.loop-index-test.false, c.loop-index.auto.index-end) in
    subst (λ n. g.M.Memory.holds c.loop-index.m (freed from (c.args.at + n) cells)) e (c.loop-index.invariant.freed from cells low h stand)
