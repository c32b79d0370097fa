use Rattle.std.proofs.Common.{◌≡◌, ◌≤◌}
use Rattle.text_heap.proofs.Pieces.{free_met}
use Rattle.text_heap.proofs.search.first_free.Given as goal

-- each block that was met is used
abbrev pub invariant-loop-k : goal.invariant-loop-k
invariant-loop-k g l = record {
  passed : g.S.Space.known l.fn.space → free_met (g.S.Space.content l.fn.space) l.from l.k ≡ 0;
  same : g.S.Space.content l.space ≡ g.S.Space.content l.fn.space;
  later : g.S.Space.faults l.fn.space ≤ g.S.Space.faults l.space;
  follows : g.S.Space.follows l.fn.space l.space;
}
