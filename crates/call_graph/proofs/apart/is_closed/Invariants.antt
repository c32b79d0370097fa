use Rattle.std.proofs.Common.{◌≡◌, drop}
use Rattle.call_graph.specs.walks.Apart.{closed_from}
use Rattle.call_graph.proofs.apart.is_closed.Given as goal

abbrev pub invariant-loop-number : goal.invariant-loop-number
invariant-loop-number l = closed_from l.number l.marks l.to (drop l.number l.calls) ≡ closed_from 0 l.marks l.to l.calls
