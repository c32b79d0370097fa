use Rattle.std.proofs.Common.{◌+◌, ap, arith}
use Rattle.code_form.specs.Machine.{operand_bytes}
use Rattle.zero_state.proofs.Counts.{bytes_next, bytes_first}
use Rattle.zero_state.proofs.stack.bytes_without.Goals as goal

pub overflow_sub-left : goal.overflow_sub-left
overflow_sub-left c =
    omega (
      arith,
      c.requires,
      c.loop-operand.invariant,
      c.bytes-left.ensures,
      bytes_next c.args.operands.now c.loop-operand.operand-index (operand_bytes c.operand-item.result) _ c.loop-operand-test.true
          (ap operand_bytes c.operand-item.is),
      bytes_first c.args.operands.now (c.loop-operand.operand-index + 1),
    )

pub loop-operand-preserved : goal.loop-operand-preserved
loop-operand-preserved c =
    omega (
      arith,
      c.requires,
      c.ranges.bytes,
      c.loop-operand.invariant,
      c.bytes-left.ensures,
      bytes_next c.args.operands.now c.loop-operand.operand-index (operand_bytes c.operand-item.result) _ c.loop-operand-test.true
          (ap operand_bytes c.operand-item.is),
      bytes_first c.args.operands.now (c.loop-operand.operand-index + 1),
    )
