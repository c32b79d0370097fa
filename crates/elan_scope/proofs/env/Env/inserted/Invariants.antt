use Rattle.std.proofs.Common.{◌≡◌, ◌++◌, drop}
use Rattle.elan_scope.proofs.env.Env.inserted.Given as goal

abbrev pub invariant-loop-packet : goal.invariant-loop-packet
invariant-loop-packet l = l.inserted ++ drop l.packet-index l.self.inserted ≡ l.self.inserted
