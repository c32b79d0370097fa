use Rattle.std.proofs.Common.{◌≡◌, ◌≤◌, length, map, take}
use Rattle.eu_base.specs.Values.{blank_of}
use Rattle.eu_base.specs.Cells.{Cells, AreBare, held_of}
use Rattle.code_form.specs.Machine.{written_in}
use Rattle.zero_machine.proofs.frames.write_blanks.Given as goal

-- the variables so far are written
abbrev pub invariant-loop-index : goal.invariant-loop-index
invariant-loop-index g l = record {
  written : (cells : Cells) → g.M.Memory.holds l.fn.m cells → AreBare l.area l.at (length l.variables) cells
      → g.M.Memory.holds l.m (written_in l.area l.at (take l.index (map (λ k. held_of (blank_of k)) l.variables)) cells);
  heads : g.M.Memory.heads l.m ≡ g.M.Memory.heads l.fn.m;
  later : g.M.Memory.faults l.fn.m ≤ g.M.Memory.faults l.m;
  follows : g.M.Memory.follows l.fn.m l.m;
}
