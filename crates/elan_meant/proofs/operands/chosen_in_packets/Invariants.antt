use Rattle.std.proofs.Common.{◌≡◌, length}
use Rattle.elan_scope.specs.walks.Seen.{called_in_packets}
use Rattle.elan_meant.specs.Operands.{takes}
use Rattle.elan_meant.proofs.operands.chosen_in_packets.Given as goal

abbrev pub invariant-loop-rest : goal.invariant-loop-rest
invariant-loop-rest l = called_in_packets (takes l.sort l.name l.operands) l.rest ≡ called_in_packets (takes l.sort l.name l.operands) l.packets

abbrev pub decreases-loop-rest : goal.decreases-loop-rest
decreases-loop-rest l = length l.rest
