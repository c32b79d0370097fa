use Rattle.std.proofs.Common.{◌≡◌, drop}
use Rattle.call_graph.specs.walks.Apart.{all_safe}
use Rattle.call_graph.proofs.apart.all_safe.Given as goal

abbrev pub invariant-loop-number : goal.invariant-loop-number
invariant-loop-number l = all_safe l.marks l.to (drop l.number-index l.called) ≡ all_safe l.marks l.to l.called
