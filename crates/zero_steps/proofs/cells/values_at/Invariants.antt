use Rattle.std.proofs.Common.{◌≡◌, ◌≤◌, take}
use Rattle.eu_base.specs.Cells.{Cells}
use Rattle.zero_steps.specs.Reading.{AllRead}
use Rattle.zero_steps.proofs.Along.{steps_on}
use Rattle.zero_steps.proofs.cells.values_at.Given as goal

-- the values of the kinds so far were read
abbrev pub invariant-loop-kind : goal.invariant-loop-kind
invariant-loop-kind g l = record {
  place : l.place ≡ steps_on l.kind-index l.fn.at;
  reads : AllRead (g.M.Memory.holds l.fn.m) l.fn.at (take l.kind-index l.kinds) l.values;
  kept : (cells : Cells) → g.M.Memory.holds l.fn.m cells → g.M.Memory.holds l.m cells;
  heads : g.M.Memory.heads l.m ≡ g.M.Memory.heads l.fn.m;
  later : g.M.Memory.faults l.fn.m ≤ g.M.Memory.faults l.m;
  follows : g.M.Memory.follows l.fn.m l.m;
}
