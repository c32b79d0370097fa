use Rattle.std.proofs.Common.{◌≡◌, ◌≤◌, ◌+◌, min, length, map, take}
use Rattle.code_form.specs.Program.{HoldsValue}
use Rattle.zero_machine.specs.Frames.{FreesTo}
use Rattle.zero_machine.proofs.release.free_kinds.Given as goal

-- the cells of the kinds so far are free
abbrev pub invariant-loop-kind : goal.invariant-loop-kind
invariant-loop-kind g l = record {
  cell : l.cell ≡ min l.until (l.fn.at + length (take l.kind-index l.kinds));
  freed : FreesTo (g.M.Memory.holds l.fn.m) (g.M.Memory.holds l.m) (map HoldsValue (take l.kind-index l.kinds)) l.fn.at l.cell l.until;
  heads : g.M.Memory.heads l.m ≡ g.M.Memory.heads l.fn.m;
  later : g.M.Memory.faults l.fn.m ≤ g.M.Memory.faults l.m;
  follows : g.M.Memory.follows l.fn.m l.m;
}
