use Rattle.std.proofs.Common.{◌++◌, arith, length, replicate, sym, ap, ◌∙◌}
use Rattle.std.proofs.lemmas.List.{length-take}
use Rattle.eu_base.specs.Shapes.{cell_kinds, joined}
use Rattle.eu_base.proofs.Shapes.{next_part, next_item, no_more}
use Rattle.eu_base.proofs.shape.+kinds.Goals as goal

pub add_all-loop-part-preserved : goal.add_all-loop-part-preserved
add_all-loop-part-preserved t c =
    next_part c.args.most c.loop-part.part-index c.loop-part.kinds c.add_kinds.new.kinds c.args.kinds.now c.args.parts.now c.part-item.result
    c.part-item.result c.loop-part-test.true c.part-item.is c.loop-part.invariant c.in_ok-add_kinds.ensures

pub add_row-loop-preserved : goal.add_row-loop-preserved
add_row-loop-preserved t c =
    next_item c.args.most c.loop.counter c.loop.kinds c.add_kinds.new.kinds c.args.kinds.now (cell_kinds c.args.of.now) c.loop.invariant
    c.in_ok-add_kinds.ensures

pub add_row-returns-then-len-before : goal.add_row-returns-then-len-before
add_row-returns-then-len-before t c =
    let so = c.loop.invariant in
    let cut = length-take c.args.most (c.args.kinds.now ++ joined (replicate c.loop.counter (cell_kinds c.args.of.now))) in
    let long = ap length so in
    no_more c.args.most c.loop.counter c.args.count c.loop.kinds c.add_kinds.new.kinds c.args.kinds.now (cell_kinds c.args.of.now)
    (omega (arith, c.loop-test.true)) so c.in_ok-add_kinds.ensures (sym c.len.ensures ∙ c.if-len-before.true ∙ c.len-before.ensures)
    (omega (arith, cut, long))
