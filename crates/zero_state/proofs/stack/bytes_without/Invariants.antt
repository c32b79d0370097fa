use Rattle.std.proofs.Common.{◌≡◌, ◌+◌, take}
use Rattle.code_form.specs.Machine.{bytes_on}
use Rattle.zero_state.proofs.stack.bytes_without.Given as goal

-- those of the operands so far are gone
abbrev pub invariant-loop-operand : goal.invariant-loop-operand
invariant-loop-operand l = l.bytes ≡ l.left + bytes_on (take l.operand-index l.operands) 0
