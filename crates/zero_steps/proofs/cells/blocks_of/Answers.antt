use Rattle.std.proofs.Common.{◌+◌, arith}
use Rattle.eu_base.proofs.Rooms.{blocks_next, blocks_first, blocks_small}
use Rattle.zero_steps.proofs.cells.blocks_of.Goals as goal

pub overflow_add-blocks : goal.overflow_add-blocks
overflow_add-blocks c =
    let e = blocks_next c.args.values.now c.loop-value.value-index c.value-item.result c.value-item.result c.loop-value-test.true c.value-item.is in
    let first = blocks_first c.args.values.now (c.loop-value.value-index + 1) in
    let small = blocks_small c.args.values.now in
    omega (arith, e, first, small, c.requires, c.loop-value.invariant, c.value_blocks-blocks.ensures)

pub loop-value-preserved : goal.loop-value-preserved
loop-value-preserved c =
    let e = blocks_next c.args.values.now c.loop-value.value-index c.value-item.result c.value-item.result c.loop-value-test.true c.value-item.is in
    omega (arith, e, c.loop-value.invariant, c.value_blocks-blocks.ensures)
