use Rattle.std.proofs.Common.{◌≡◌, ◌+◌, ◌≤◌, false, length, take}
use Rattle.eu_base.specs.Cells.{Cells}
use Rattle.cell_kinds.specs.Kinds.{all_kinds}
use Rattle.zero_machine.specs.Freed.{HoldEach}
use Rattle.zero_machine.specs.Denoted.{denote}
use Rattle.zero_machine.proofs.denoted.shapes_denote.Given as goal

-- no cell of the shapes so far denotes it
abbrev pub invariant-loop-shape : goal.invariant-loop-shape
invariant-loop-shape g l = record {
  cell : l.cell ≡ l.at + length (all_kinds (take l.shape-index l.shapes));
  denote : (cells : Cells) → g.M.Memory.holds l.fn.m cells → HoldEach l.at (all_kinds l.shapes) cells
      → denote l.space.0 l.at (all_kinds (take l.shape-index l.shapes)) cells ≡ false;
  kept : (cells : Cells) → g.M.Memory.holds l.fn.m cells → g.M.Memory.holds l.m cells;
  heads : g.M.Memory.heads l.m ≡ g.M.Memory.heads l.fn.m;
  later : g.M.Memory.faults l.fn.m ≤ g.M.Memory.faults l.m;
  follows : g.M.Memory.follows l.fn.m l.m;
}
