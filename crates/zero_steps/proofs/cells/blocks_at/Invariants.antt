use Rattle.std.proofs.Common.{◌≡◌, ◌-◌, ◌^◌, ◌≤◌, min, true, take}
use Rattle.eu_base.specs.Cells.{Cells}
use Rattle.code_form.specs.Machine.{takes_all}
use Rattle.zero_steps.specs.Reading.{blocks_from}
use Rattle.zero_steps.proofs.Along.{steps_on}
use Rattle.zero_steps.proofs.cells.blocks_at.Given as goal

-- the blocks where the values so far are to stand
abbrev pub invariant-loop-value : goal.invariant-loop-value
invariant-loop-value g l = record {
  place : l.place ≡ steps_on l.value-index l.fn.at;
  had : (cells : Cells) → g.M.Memory.holds l.fn.m cells → takes_all l.values l.fn.at cells ≡ true
      → l.had ≡ min (blocks_from cells l.fn.at (take l.value-index l.values)) (2 ^ 64 - 1);
  kept : (cells : Cells) → g.M.Memory.holds l.fn.m cells → g.M.Memory.holds l.m cells;
  heads : g.M.Memory.heads l.m ≡ g.M.Memory.heads l.fn.m;
  later : g.M.Memory.faults l.fn.m ≤ g.M.Memory.faults l.m;
  follows : g.M.Memory.follows l.fn.m l.m;
}
