use Rattle.std.proofs.Common.{◌≡◌, ◌≤◌, drop, fold}
use Rattle.session_text.specs.Lines as spec
use Rattle.session_text.specs.declared.lines.TheConstants.{MOST_TURNS}
use Rattle.session_text.proofs.lines.number_of.Given as goal

-- the number of the digits so far, and those that are left
abbrev pub invariant-loop-digit : goal.invariant-loop-digit
invariant-loop-digit l = record {
  small : l.number ≤ MOST_TURNS;
  rest : fold spec.more l.number (drop l.digit-index l.digits) ≡ spec.number_of l.digits;
}
