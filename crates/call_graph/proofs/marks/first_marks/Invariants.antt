use Rattle.std.proofs.Common.{◌≡◌, ◌++◌, ◌-◌}
use Rattle.call_graph.specs.walks.Marks.{equal_from}
use Rattle.call_graph.proofs.marks.first_marks.Given as goal

abbrev pub invariant-loop-number : goal.invariant-loop-number
invariant-loop-number l = l.marks ++ equal_from l.number (l.count - l.number) l.to ≡ equal_from 0 l.count l.to
