use Rattle.std.proofs.Common.{◌≡◌, drop}
use Rattle.call_graph.specs.walks.Ranks.{none_above}
use Rattle.call_graph.proofs.graph.none_above.Given as goal

abbrev pub invariant-loop-number : goal.invariant-loop-number
invariant-loop-number l = none_above l.ranks l.rank (drop l.number-index l.called) ≡ none_above l.ranks l.rank l.called
