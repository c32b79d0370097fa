use Rattle.std.proofs.Common.{◌≡◌, ◌++◌, drop}
use Rattle.line_command.specs.Screen as spec
use Rattle.line_command.proofs.screen.append_shown.Given as goal

-- what is shown so far, and what is left
abbrev pub invariant-loop-byte : goal.invariant-loop-byte
invariant-loop-byte l = l.out ++ spec.shown (drop l.byte-index l.bytes) ≡ l.fn.out ++ spec.shown l.bytes
