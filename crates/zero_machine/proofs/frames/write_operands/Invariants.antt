use Rattle.std.proofs.Common.{◌≡◌, ◌+◌, ◌≤◌, length, take}
use Rattle.std.specs.Prelude.{flat_map}
use Rattle.eu_base.specs.Cells.{Cells}
use Rattle.code_form.specs.Machine.{held_cells, written_from}
use Rattle.zero_machine.specs.Frames.{AreFree}
use Rattle.zero_machine.proofs.frames.write_operands.Given as goal

-- the operands so far are written
abbrev pub invariant-loop-index : goal.invariant-loop-index
invariant-loop-index g l = record {
  cell : l.cell ≡ l.at + length (flat_map held_cells (take l.index l.operands));
  written : (cells : Cells) → g.M.Memory.holds l.fn.m cells → AreFree l.at (length (flat_map held_cells l.operands)) cells
      → g.M.Memory.holds l.m (written_from l.at (flat_map held_cells (take l.index l.operands)) cells);
  heads : g.M.Memory.heads l.m ≡ g.M.Memory.heads l.fn.m;
  later : g.M.Memory.faults l.fn.m ≤ g.M.Memory.faults l.m;
  follows : g.M.Memory.follows l.fn.m l.m;
}
