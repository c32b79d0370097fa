use Rattle.std.proofs.Common.{◌≡◌, ◌++◌, drop}
use Rattle.call_graph.specs.walks.Marks.{marks_from}
use Rattle.call_graph.proofs.marks.next_marks.Given as goal

abbrev pub invariant-loop-number : goal.invariant-loop-number
invariant-loop-number l = l.next ++ marks_from l.number l.marks l.to (drop l.number l.calls) ≡ marks_from 0 l.marks l.to l.calls
