use Rattle.std.proofs.Common.{◌≡◌, ◌≤◌, true, map, take}
use Rattle.eu_base.specs.Cells.{Cells}
use Rattle.code_form.specs.Machine.{takes_all, written_all}
use Rattle.zero_steps.specs.Reading.{shown, FitsSoFar}
use Rattle.zero_steps.proofs.Along.{steps_on}
use Rattle.zero_steps.proofs.cells.put_each.Given as goal

-- the values so far were put
abbrev pub invariant-loop-value : goal.invariant-loop-value
invariant-loop-value g l = record {
  place : l.place ≡ steps_on l.value-index l.fn.at;
  put : (cells : Cells) → g.M.Memory.holds l.fn.m cells → takes_all l.values l.fn.at cells ≡ true → FitsSoFar cells l.fn.at (map (shown l.texts) l.values)
      → g.M.Memory.holds l.m (written_all cells l.fn.at (take l.value-index (map (shown l.texts) l.values)));
  heads : g.M.Memory.heads l.m ≡ g.M.Memory.heads l.fn.m;
  later : g.M.Memory.faults l.fn.m ≤ g.M.Memory.faults l.m;
  follows : g.M.Memory.follows l.fn.m l.m;
}
