use Rattle.std.proofs.Common.{◌≡◌, drop}
use Rattle.call_graph.specs.walks.Marks.{any_marked}
use Rattle.call_graph.proofs.marks.any_marked.Given as goal

abbrev pub invariant-loop-number : goal.invariant-loop-number
invariant-loop-number l = any_marked l.marks l.to (drop l.number-index l.called) ≡ any_marked l.marks l.to l.called
