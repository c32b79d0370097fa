use Rattle.std.proofs.Common.{◌≡◌, ℕ, ◌+◌, ◌≤◌, length, take}
use Rattle.eu_base.specs.Cells.{Cells}
use Rattle.cell_kinds.specs.Kinds.{all_kinds}
use Rattle.zero_machine.specs.Freed.{HoldEach, freed}
use Rattle.zero_machine.proofs.shapes.free_shapes.Given as goal

-- the cells of the shapes so far are free
abbrev pub invariant-loop-shape : goal.invariant-loop-shape
invariant-loop-shape g l = record {
  cell : l.cell ≡ l.at + length (all_kinds (take l.shape-index l.shapes));
  freed : (from : ℕ) (cells : Cells) → from ≤ l.at → g.M.Memory.holds l.fn.m (freed from l.at cells) → HoldEach l.at (all_kinds l.shapes) cells
      → g.M.Memory.holds l.m (freed from l.cell cells);
  heads : g.M.Memory.heads l.m ≡ g.M.Memory.heads l.fn.m;
  later : g.M.Memory.faults l.fn.m ≤ g.M.Memory.faults l.m;
  follows : g.M.Memory.follows l.fn.m l.m;
}
