use Rattle.std.proofs.Common.{◌≤◌, length, ◌+◌}
use Rattle.elan_names.proofs.Numbered.{NumbersRest}
use Rattle.elan_names.proofs.headings.numbers.Given as goal

abbrev pub invariant-loop-rest : goal.invariant-loop-rest
invariant-loop-rest l = (l.number + length l.rest ≤ length l.headings) × NumbersRest l.numbers l.number l.rest l.headings

abbrev pub decreases-loop-rest : goal.decreases-loop-rest
decreases-loop-rest l = length l.rest
