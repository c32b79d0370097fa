use Rattle.std.proofs.Common.{◌≡◌, ◌≤◌, ℕ, List, true, length}
use Rattle.code_form.specs.declared.operand.Operand.{Operand}
use Rattle.code_form.specs.Program.{Program}
use Rattle.code_form.specs.Machine.{Mem, bytes_of, out_to}
use Rattle.zero_state.specs.Finds.{is_in_proc}
use Rattle.zero_machine.proofs.calls.leave_proc.Given as goal

-- what is left to leave leads to where all leads
abbrev pub invariant-loop-link : goal.invariant-loop-link
invariant-loop-link l = record {
  leads : (p : Program) (ops : List Operand) (used : ℕ) (mem : Mem) → out_to p ops used l.fn.stack.frames mem ≡ out_to p ops used l.stack.frames mem;
  fewer : bytes_of l.stack.frames ≤ bytes_of l.fn.stack.frames;
  inside : is_in_proc l.stack.frames ≡ true;
}

abbrev pub decreases-loop-link : goal.decreases-loop-link
decreases-loop-link l = length l.stack.frames
