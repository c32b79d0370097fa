use Rattle.std.proofs.Common.{◌≡◌, ◌≤◌, None}
use Rattle.eu_base.specs.Cells.{Cells}
use Rattle.eu_base.specs.DataSpaces.{no_spaces}
use Rattle.code_form.specs.Runs.{asked}
use Rattle.line_command.specs.Below.zero_state.specs.Stepping.{mem_of}
use Rattle.line_command.specs.Below.place_gen.specs.Correct.{HasSlots}
use Rattle.line_command.specs.Below.code_gen.specs.Correct.{Behaves}
use Rattle.elan_types.specs.declared.core_phrase.Core.{Core}
use Rattle.elan_types.specs.Command.{blanks, start_kinds}
use Rattle.code_form.specs.Valid.{Fits}
use Rattle.line_command.proofs.Served.{IsServed}
use Rattle.line_command.proofs.program.serve.Given as goal

-- the requests so far were answered, each for a mark
abbrev pub invariant-loop-screen : goal.invariant-loop-screen
invariant-loop-screen g l = record {
  served : (core : Core) (first : Cells) → g.M.Memory.holds l.fn.memory first → Behaves core l.code
      → HasSlots l.code (blanks (start_kinds core)) (blanks core.inserted) no_spaces (mem_of (g.M.Memory.heads l.fn.memory) first)
      → (cells : Cells) × (g.M.Memory.holds l.memory cells × IsServed core l.code (mem_of (g.M.Memory.heads l.fn.memory) first) l.command
      (mem_of (g.M.Memory.heads l.memory) cells) l.marks l.screen);
  free : asked l.command.waits ≡ None;
  fits : Fits l.code l.command;
  later : g.M.Memory.faults l.fn.memory ≤ g.M.Memory.faults l.memory;
}

abbrev pub decreases-loop-screen : goal.decreases-loop-screen
decreases-loop-screen g l = l.marks
