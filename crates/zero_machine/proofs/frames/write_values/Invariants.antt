use Rattle.std.proofs.Common.{◌≡◌, ◌≤◌, length, map, take}
use Rattle.eu_base.specs.Cells.{Cells, held_of}
use Rattle.code_form.specs.Machine.{written_from}
use Rattle.zero_machine.specs.Frames.{AreFree}
use Rattle.zero_machine.proofs.frames.write_values.Given as goal

-- the values so far are written
abbrev pub invariant-loop-index : goal.invariant-loop-index
invariant-loop-index g l = record {
  written : (cells : Cells) → g.M.Memory.holds l.fn.m cells → AreFree l.at (length l.values) cells
      → g.M.Memory.holds l.m (written_from l.at (take l.index (map held_of l.values)) cells);
  heads : g.M.Memory.heads l.m ≡ g.M.Memory.heads l.fn.m;
  later : g.M.Memory.faults l.fn.m ≤ g.M.Memory.faults l.m;
  follows : g.M.Memory.follows l.fn.m l.m;
}
