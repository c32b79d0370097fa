use Rattle.std.proofs.Common.{◌≡◌, ◌+◌, ◌≤◌, drop}
use Rattle.units.specs.Refusals.{past}
use Rattle.units.proofs.refusal.find.Given as goal

-- where the place so far stands, what is left leads to the same
abbrev pub invariant-loop-byte : goal.invariant-loop-byte
invariant-loop-byte l = record {
  line_small : l.at.line ≤ 1 + l.byte-index;
  column_small : l.at.column ≤ 1 + l.byte-index;
  same : past (record { line = l.at.line; column = l.at.column }) (drop l.byte-index l.front) ≡ past (record { line = 1; column = 1 }) l.front;
}
