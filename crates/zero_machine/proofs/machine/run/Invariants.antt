use Rattle.std.proofs.Common.{◌≡◌, ◌<◌, ◌≤◌, None, length}
use Rattle.std.specs.Prelude.{IsSome}
use Rattle.eu_base.specs.Cells.{Cells}
use Rattle.code_form.specs.Machine.{Rest}
use Rattle.code_form.specs.Valid.{Fits}
use Rattle.code_form.specs.Runs.{Rests, asked, steps_left}
use Rattle.zero_state.specs.Stepping.{control_of, mem_of, scene_of}
use Rattle.zero_machine.proofs.machine.run.Given as goal

-- from here it comes to the rest to which it comes from its start
abbrev pub invariant-loop-s : goal.invariant-loop-s
invariant-loop-s g l = record {
  rests : (cells : Cells) (r : Rest) → g.M.Memory.holds l.fn.m cells → Rests l.fn.code (control_of l.fn.s) (scene_of (mem_of (g.M.Memory.heads l.fn.m) cells) l.fn.marks) r
      → (now : Cells) × (g.M.Memory.holds l.m now × Rests l.code (control_of l.s) (scene_of (mem_of (g.M.Memory.heads l.m) now) l.marks) r);
  fits : Fits l.code (control_of l.s);
  fewer : l.marks ≤ l.fn.marks;
  pays : IsSome (asked l.s.waits) → asked l.fn.s.waits ≡ None → l.marks < l.fn.marks;
  later : g.M.Memory.faults l.fn.m ≤ g.M.Memory.faults l.m;
  follows : g.M.Memory.follows l.fn.m l.m;
}

abbrev pub decreases-loop-s : goal.decreases-loop-s
decreases-loop-s g l = steps_left l.code.lines l.marks (length l.s.stack.frames) l.s.pc
