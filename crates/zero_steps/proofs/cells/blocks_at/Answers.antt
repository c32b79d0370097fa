use Rattle.std.proofs.Common.{◌≡◌, ◌+◌, suc, ap, sym, ◌∙◌, subst, arith, take}
use Rattle.eu_base.specs.Cells.{IsCell, held_of}
use Rattle.code_form.specs.Machine.{takes}
use Rattle.eu_base.specs.Cells.{cell_blocks}
use Rattle.zero_steps.specs.Reading.{blocks_from}
use Rattle.zero_steps.proofs.Along.{steps_cell, step_on, takes_at, blocks_more}
use Rattle.zero_steps.proofs.Storing.{at_item}
use Rattle.zero_steps.proofs.Placed.{steps_there}
use Rattle.zero_steps.proofs.cells.blocks_at.Goals as goal

pub old_blocks-requires-clause-cell : goal.old_blocks-requires-clause-cell
old_blocks-requires-clause-cell g c = subst IsCell (sym c.loop-value.invariant.place) (steps_cell c.loop-value.value-index c.args.at c.requires.cell)

pub old_blocks-requires-clause-there : goal.old_blocks-requires-clause-there
old_blocks-requires-clause-there g c =
    steps_there (g.M.Memory.heads c.args.m.now) (g.M.Memory.heads c.loop-value.m) c.loop-value.value-index c.args.at c.loop-value.place c.loop-value.invariant.place
    c.loop-value.invariant.heads c.requires.there

pub loop-value-preserved : goal.loop-value-preserved
loop-value-preserved g c = record {
  place = step_on c.loop-value.value-index c.args.at c.loop-value.place c.next-place.result c.loop-value.invariant.place c.next-place.ensures;
  had = λ cells h taken.
      let i = c.loop-value.value-index in
      let v = c.value-item.result in
      let there = at_item c.args.values.now i v v c.loop-value-test.true c.value-item.is in
      let more = blocks_more c.args.values.now c.args.at cells i v there in
      let next : i + 1 ≡ suc i = omega arith in
      let rest = ap (λ n. blocks_from cells c.args.at (take n c.args.values.now)) next in
      let old = c.in_ok-old_blocks.ensures.had cells (c.loop-value.invariant.kept cells h)
      (ap (λ p. takes (held_of v) (cells p)) c.loop-value.invariant.place ∙ takes_at c.args.values.now c.args.at cells i v taken there) in
      let here = ap (λ p. cell_blocks (cells p)) c.loop-value.invariant.place in
      let before = c.loop-value.invariant.had cells h taken in
      omega (arith, more, rest, old, here, before, c.saturating_add-had.ensures);
  kept = λ cells h. c.in_ok-old_blocks.ensures.kept cells (c.loop-value.invariant.kept cells h);
  heads = c.old_blocks.ensures.heads ∙ c.loop-value.invariant.heads;
  later = omega (arith, c.loop-value.invariant.later, c.old_blocks.ensures.cause.later);
  follows = g.met.M.Memory.transitive _ _ _ c.loop-value.invariant.follows c.old_blocks.ensures.follows;
}
