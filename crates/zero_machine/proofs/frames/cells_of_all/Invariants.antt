use Rattle.std.proofs.Common.{◌≡◌, ◌-◌, ◌^◌, min, length, take}
use Rattle.std.specs.Prelude.{flat_map}
use Rattle.code_form.specs.Machine.{held_cells}
use Rattle.zero_machine.proofs.frames.cells_of_all.Given as goal

-- the cells of the operands so far
abbrev pub invariant-loop-operand : goal.invariant-loop-operand
invariant-loop-operand l = l.cells ≡ min (length (flat_map held_cells (take l.operand-index l.operands))) (2 ^ 64 - 1)
