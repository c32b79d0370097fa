use Rattle.std.proofs.Common.{◌≤◌, length, ◌+◌}
use Rattle.elan_names.specs.walks.Firsts.{entry_names}
use Rattle.elan_names.proofs.Kept.{FindsRest}
use Rattle.elan_names.proofs.directory.firsts.Given as goal

abbrev pub invariant-loop-rest : goal.invariant-loop-rest
invariant-loop-rest l = (l.index + length l.rest ≤ length l.entries) × FindsRest l.firsts l.index (entry_names l.rest) (entry_names l.entries)

abbrev pub decreases-loop-rest : goal.decreases-loop-rest
decreases-loop-rest l = length l.rest
