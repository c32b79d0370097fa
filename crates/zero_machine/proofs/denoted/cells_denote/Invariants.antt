use Rattle.std.proofs.Common.{◌≡◌, ◌≤◌, false, take}
use Rattle.eu_base.specs.Cells.{Cells}
use Rattle.zero_machine.specs.Freed.{HoldEach}
use Rattle.zero_machine.specs.Denoted.{denote}
use Rattle.zero_machine.proofs.denoted.cells_denote.Given as goal

-- no cell so far denotes it
abbrev pub invariant-loop-index : goal.invariant-loop-index
invariant-loop-index g l = record {
  denote : (cells : Cells) → g.M.Memory.holds l.fn.m cells → HoldEach l.at l.kinds cells → denote l.space.0 l.at (take l.index l.kinds) cells ≡ false;
  kept : (cells : Cells) → g.M.Memory.holds l.fn.m cells → g.M.Memory.holds l.m cells;
  heads : g.M.Memory.heads l.m ≡ g.M.Memory.heads l.fn.m;
  later : g.M.Memory.faults l.fn.m ≤ g.M.Memory.faults l.m;
  follows : g.M.Memory.follows l.fn.m l.m;
}
