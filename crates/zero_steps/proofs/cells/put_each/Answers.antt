use Rattle.std.proofs.Common.{◌≡◌, ◌≤◌, true, sym, subst, arith, map, ◌∙◌}
use Rattle.std.proofs.lemmas.List.{length-map, take_all}
use Rattle.eu_base.specs.Room.{most_blocks}
use Rattle.eu_base.specs.Cells.{Cells, IsCell, held_of, written, area_blocks}
use Rattle.code_form.specs.Machine.{takes, written_all}
use Rattle.zero_steps.specs.Reading.{shown}
use Rattle.zero_steps.proofs.Along.{steps_cell, step_on}
use Rattle.zero_steps.proofs.Storing.{few_values, at_item, put_step}
use Rattle.zero_steps.proofs.Placed.{steps_there}
use Rattle.zero_steps.proofs.cells.put_each.Goals as goal

pub put_one-requires-clause-cell : goal.put_one-requires-clause-cell
put_one-requires-clause-cell g c = subst IsCell (sym c.loop-value.invariant.place) (steps_cell c.loop-value.value-index c.args.at c.requires.cell)

pub put_one-requires-clause-there : goal.put_one-requires-clause-there
put_one-requires-clause-there g c =
    steps_there (g.M.Memory.heads c.args.m.now) (g.M.Memory.heads c.loop-value.m) c.loop-value.value-index c.args.at c.loop-value.place c.loop-value.invariant.place
    c.loop-value.invariant.heads c.requires.there

pub loop-value-preserved : goal.loop-value-preserved
loop-value-preserved g c = record {
  place = step_on c.loop-value.value-index c.args.at c.loop-value.place c.next-place.result c.loop-value.invariant.place c.next-place.ensures;
  put = λ cells h taken fits.
      let now = g.M.Memory.holds c.loop-value.m in
      let after = g.M.Memory.holds c.put_one.new.m in
      let v = c.value-item.result in
      put_step now after c.args.values.now c.args.texts c.args.at c.loop-value.value-index v cells c.requires.cell
      (few_values c.args.values.now c.requires.few) (at_item c.args.values.now c.loop-value.value-index v v c.loop-value-test.true c.value-item.is) taken fits
      (subst (λ p. (cells : Cells) → now cells → takes (held_of v) (cells p) ≡ true
      → area_blocks p.area (written cells p (held_of (shown c.args.texts v))) ≤ most_blocks → after (written cells p (held_of (shown c.args.texts v))))
      c.loop-value.invariant.place c.in_ok-put_one.ensures.put)
      (c.loop-value.invariant.put cells h taken fits);
  heads = c.put_one.ensures.heads ∙ c.loop-value.invariant.heads;
  later = omega (arith, c.loop-value.invariant.later, c.put_one.ensures.cause.later);
  follows = g.met.M.Memory.transitive _ _ _ c.loop-value.invariant.follows c.put_one.ensures.follows;
}

pub returns-clause-put : goal.returns-clause-put
returns-clause-put g c = λ cells h taken fits.
    let many = length-map c.args.values.now (shown c.args.texts) in
    subst (λ l. g.M.Memory.holds c.loop-value.m (written_all cells c.args.at l))
    (take_all c.loop-value.value-index (map (shown c.args.texts) c.args.values.now) (omega (arith, many, c.loop-value-test.false)))
    (c.loop-value.invariant.put cells h taken fits)
