use Rattle.std.proofs.Common.{◌≡◌, drop, map}
use Rattle.std.specs.List.{list_any}
use Rattle.std.specs.Prelude.{◌==◌}
use Rattle.call_graph.proofs.led.is_among.Given as goal

abbrev pub invariant-loop-next : goal.invariant-loop-next
invariant-loop-next l = list_any (λ n. n == l.number) (drop l.next-index l.called) ≡ list_any (λ n. n == l.number) l.called
