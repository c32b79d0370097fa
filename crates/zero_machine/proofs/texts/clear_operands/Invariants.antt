use Rattle.std.proofs.Common.{◌≡◌, ◌≤◌, ◌+◌, length, take}
use Rattle.std.specs.Prelude.{flat_map}
use Rattle.eu_base.specs.Cells.{Cells, freed}
use Rattle.code_form.specs.Machine.{held_cells}
use Rattle.zero_machine.specs.Frames.{Stand}
use Rattle.zero_machine.proofs.texts.clear_operands.Given as goal

-- the cells of the operands so far are free
abbrev pub invariant-loop-operand : goal.invariant-loop-operand
invariant-loop-operand g l = record {
  cell : l.cell ≡ l.fn.at + length (flat_map held_cells (take l.operand-index l.operands));
  freed : (cells : Cells) → g.M.Memory.holds l.fn.m cells → Stand l.fn.at (flat_map held_cells l.operands) cells
      → g.M.Memory.holds l.m (freed l.fn.at l.cell cells);
  heads : g.M.Memory.heads l.m ≡ g.M.Memory.heads l.fn.m;
  later : g.M.Memory.faults l.fn.m ≤ g.M.Memory.faults l.m;
  follows : g.M.Memory.follows l.fn.m l.m;
}
