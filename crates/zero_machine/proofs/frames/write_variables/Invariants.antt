use Rattle.std.proofs.Common.{◌≡◌, ◌≤◌, ◌+◌, length, map, take}
use Rattle.eu_base.specs.Values.{blank_of}
use Rattle.eu_base.specs.Cells.{Cells, AreBare, held_of}
use Rattle.cell_kinds.specs.Kinds.{all_kinds}
use Rattle.code_form.specs.Machine.{written_in}
use Rattle.zero_machine.proofs.frames.write_variables.Given as goal

-- the cells of the shapes so far are written
abbrev pub invariant-loop-shape : goal.invariant-loop-shape
invariant-loop-shape g l = record {
  cell : l.cell ≡ l.at + length (all_kinds (take l.shape-index l.shapes));
  written : (cells : Cells) → g.M.Memory.holds l.fn.m cells → AreBare l.area l.at (length (all_kinds l.shapes)) cells
      → g.M.Memory.holds l.m (written_in l.area l.at (map (λ k. held_of (blank_of k)) (all_kinds (take l.shape-index l.shapes))) cells);
  heads : g.M.Memory.heads l.m ≡ g.M.Memory.heads l.fn.m;
  later : g.M.Memory.faults l.fn.m ≤ g.M.Memory.faults l.m;
  follows : g.M.Memory.follows l.fn.m l.m;
}
