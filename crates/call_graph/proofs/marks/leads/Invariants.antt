use Rattle.call_graph.proofs.Turns.{Marked}
use Rattle.call_graph.proofs.marks.leads.Given as goal

abbrev pub invariant-loop-turn : goal.invariant-loop-turn
invariant-loop-turn l = Marked l.calls l.to l._turn l.marks
