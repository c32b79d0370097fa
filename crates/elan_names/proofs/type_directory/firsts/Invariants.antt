use Rattle.std.proofs.Common.{◌≤◌, length, ◌+◌}
use Rattle.elan_names.specs.walks.Firsts.{type_names}
use Rattle.elan_names.proofs.Kept.{FindsRest}
use Rattle.elan_names.proofs.type_directory.firsts.Given as goal

abbrev pub invariant-loop-rest : goal.invariant-loop-rest
invariant-loop-rest l = (l.place + length l.rest ≤ length l.list) × FindsRest l.firsts l.place (type_names l.rest) (type_names l.list)

abbrev pub decreases-loop-rest : goal.decreases-loop-rest
decreases-loop-rest l = length l.rest
