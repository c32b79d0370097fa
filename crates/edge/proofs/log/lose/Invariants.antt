use Rattle.std.proofs.Common.{◌≡◌, ◌≤◌, take}
use Rattle.edge.specs.Log.{synced_part}
use Rattle.edge.proofs.log.lose.Given as goal

abbrev pub invariant-loop-k : goal.invariant-loop-k
invariant-loop-k l = record { low : l.end ≤ l.k; part : take l.end l.log.items ≡ synced_part (take l.k l.log.items) }
