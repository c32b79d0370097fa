use Rattle.std.proofs.Common.{◌≡◌, ◌++◌, drop}
use Rattle.elan_check.proofs.packets.shared.Given as goal

abbrev pub invariant-loop-body : goal.invariant-loop-body
invariant-loop-body l = l.list ++ drop l.body-index l.bodies ≡ l.bodies
