use Rattle.std.proofs.Common.{◌≡◌, ◌≤◌, ◌+◌, min, length, map, take}
use Rattle.cell_kinds.specs.Kinds.{all_kinds}
use Rattle.code_form.specs.Program.{HoldsValue}
use Rattle.zero_machine.specs.Frames.{FreesTo}
use Rattle.zero_machine.proofs.release.free_variables.Given as goal

-- the cells of the shapes so far are free
abbrev pub invariant-loop-shape : goal.invariant-loop-shape
invariant-loop-shape g l = record {
  cell : l.cell ≡ min l.until (l.fn.at + length (all_kinds (take l.shape-index l.shapes)));
  freed : FreesTo (g.M.Memory.holds l.fn.m) (g.M.Memory.holds l.m) (map HoldsValue (all_kinds (take l.shape-index l.shapes))) l.fn.at l.cell l.until;
  heads : g.M.Memory.heads l.m ≡ g.M.Memory.heads l.fn.m;
  later : g.M.Memory.faults l.fn.m ≤ g.M.Memory.faults l.m;
  follows : g.M.Memory.follows l.fn.m l.m;
}
