use Rattle.std.proofs.Common.{arith}
use Rattle.eu_base.proofs.Rooms.{bytes_next}
use Rattle.code_form.proofs.operand.bytes_of.Goals as goal

pub loop-value-preserved : goal.loop-value-preserved
loop-value-preserved c =
    let e = bytes_next c.args.values.now c.loop-value.value-index c.value-item.result c.value-item.result c.loop-value-test.true c.value-item.is in
    omega (arith, e, c.loop-value.invariant, c.saturating_add-bytes.ensures, c.bytes.ensures)
