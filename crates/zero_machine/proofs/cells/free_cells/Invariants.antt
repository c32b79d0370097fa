use Rattle.std.proofs.Common.{◌≡◌, ℕ, ◌+◌, ◌≤◌}
use Rattle.eu_base.specs.Cells.{Cells}
use Rattle.zero_machine.specs.Freed.{HoldEach, freed}
use Rattle.zero_machine.proofs.cells.free_cells.Given as goal

-- the cells so far are free
abbrev pub invariant-loop-index : goal.invariant-loop-index
invariant-loop-index g l = record {
  freed : (from : ℕ) (cells : Cells) → from ≤ l.at → g.M.Memory.holds l.fn.m (freed from l.at cells) → HoldEach l.at l.kinds cells
      → g.M.Memory.holds l.m (freed from (l.at + l.index) cells);
  heads : g.M.Memory.heads l.m ≡ g.M.Memory.heads l.fn.m;
  later : g.M.Memory.faults l.fn.m ≤ g.M.Memory.faults l.m;
  follows : g.M.Memory.follows l.fn.m l.m;
}
