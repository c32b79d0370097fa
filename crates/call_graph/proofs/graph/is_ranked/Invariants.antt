use Rattle.std.proofs.Common.{◌≡◌, drop}
use Rattle.call_graph.specs.walks.Ranks.{ranked_from}
use Rattle.call_graph.proofs.graph.is_ranked.Given as goal

abbrev pub invariant-loop-number : goal.invariant-loop-number
invariant-loop-number l = ranked_from l.number l.ranks (drop l.number l.calls) ≡ ranked_from 0 l.ranks l.calls
