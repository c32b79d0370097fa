use Rattle.std.proofs.Common.{◌≡◌, ◌≤◌, ◌+◌, min, length, take}
use Rattle.std.specs.Prelude.{flat_map}
use Rattle.code_form.specs.Program.{cell_uses}
use Rattle.zero_machine.specs.Frames.{FreesTo}
use Rattle.zero_machine.proofs.release.free_parameters.Given as goal

-- the cells of the parameters so far are free
abbrev pub invariant-loop-parameter : goal.invariant-loop-parameter
invariant-loop-parameter g l = record {
  cell : l.cell ≡ min l.until (l.fn.at + length (flat_map cell_uses (take l.parameter-index l.parameters)));
  freed : FreesTo (g.M.Memory.holds l.fn.m) (g.M.Memory.holds l.m) (flat_map cell_uses (take l.parameter-index l.parameters)) l.fn.at l.cell l.until;
  heads : g.M.Memory.heads l.m ≡ g.M.Memory.heads l.fn.m;
  later : g.M.Memory.faults l.fn.m ≤ g.M.Memory.faults l.m;
  follows : g.M.Memory.follows l.fn.m l.m;
}
