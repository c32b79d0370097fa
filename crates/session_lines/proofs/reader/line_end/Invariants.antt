use Rattle.std.proofs.Common.{◌≡◌, ◌≤◌, ◌++◌, length, take, drop}
use Rattle.session_lines.specs.Lines.{first_line, after_line}
use Rattle.session_lines.proofs.reader.line_end.Given as goal

-- no line end was found so far
abbrev pub invariant-loop-at : goal.invariant-loop-at
invariant-loop-at l = record {
  within : l.at ≤ length l.bytes;
  line : first_line l.bytes ≡ take l.at l.bytes ++ first_line (drop l.at l.bytes);
  rest : after_line l.bytes ≡ after_line (drop l.at l.bytes);
}
