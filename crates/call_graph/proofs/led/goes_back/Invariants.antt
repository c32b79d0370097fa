use Rattle.std.proofs.Common.{◌≡◌, true}
use Rattle.call_graph.specs.Chains.{leads}
use Rattle.call_graph.proofs.led.goes_back.Given as goal

abbrev pub invariant-loop-turn : goal.invariant-loop-turn
invariant-loop-turn l = leads l._turn l.calls l.number l.to ≡ true
