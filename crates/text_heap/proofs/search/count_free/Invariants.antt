use Rattle.std.proofs.Common.{◌≡◌, ◌≤◌}
use Rattle.text_heap.specs.Blocks.{free_in}
use Rattle.text_heap.proofs.search.count_free.Given as goal

abbrev pub invariant-loop-k : goal.invariant-loop-k
invariant-loop-k g l = record {
  count : g.S.Space.known l.fn.space → l.count ≡ free_in (g.S.Space.content l.fn.space) l.k;
  few : l.count ≤ l.k;
  same : g.S.Space.content l.space ≡ g.S.Space.content l.fn.space;
  later : g.S.Space.faults l.fn.space ≤ g.S.Space.faults l.space;
  follows : g.S.Space.follows l.fn.space l.space;
}
