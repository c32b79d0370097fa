use Rattle.std.proofs.Common.{◌≡◌, length}
use Rattle.elan_scope.specs.walks.Seen as seen
use Rattle.elan_scope.proofs.scope.found_in_packets.Given as goal

abbrev pub invariant-loop-rest : goal.invariant-loop-rest
invariant-loop-rest l = seen.found_in_packets l.name l.rest ≡ seen.found_in_packets l.name l.packets

abbrev pub decreases-loop-rest : goal.decreases-loop-rest
decreases-loop-rest l = length l.rest
