use Rattle.std.proofs.Common.{◌≡◌, length}
use Rattle.std.specs.Option.{is_some}
use Rattle.elan_scope.specs.Scope as spec
use Rattle.elan_scope.specs.walks.Seen as seen
use Rattle.elan_scope.proofs.scope.is_inserted.Given as goal

abbrev pub invariant-loop-rest : goal.invariant-loop-rest
invariant-loop-rest l = is_some (seen.called_in_packets (spec.has_as_many l.sort l.name l.count) l.rest)
    ≡ is_some (seen.called_in_packets (spec.has_as_many l.sort l.name l.count) l.packets)

abbrev pub decreases-loop-rest : goal.decreases-loop-rest
decreases-loop-rest l = length l.rest
