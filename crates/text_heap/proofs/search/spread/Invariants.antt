use Rattle.std.proofs.Common.{◌≡◌, ◌≤◌, ◌<◌, ◌-◌, ◌%◌, ◌⊎◌, length, drop}
use Rattle.text_heap.specs.Blocks.{blocks_of}
use Rattle.text_heap.proofs.Pieces.{free_met}
use Rattle.text_heap.proofs.Spreading.{Filling}
use Rattle.text_heap.proofs.search.spread.Given as goal

-- the text from a place on stands in blocks that were met, and all free blocks that were met have it
abbrev pub invariant-loop-k : goal.invariant-loop-k
invariant-loop-k g l = record {
  low : l.next < 4096;
  within : l.left ≤ length l.t;
  whole : (l.left % 28 ≡ 0) ⊎ (l.left ≡ length l.t);
  filling : g.S.Space.known l.fn.space → Filling (g.S.Space.content l.fn.space) (g.S.Space.content l.space) l.from l.k l.next (drop l.left l.t);
  count : g.S.Space.known l.fn.space → 0 < l.left → blocks_of (length l.t - l.left) ≡ free_met (g.S.Space.content l.fn.space) l.from l.k;
  later : g.S.Space.faults l.fn.space ≤ g.S.Space.faults l.space;
  follows : g.S.Space.follows l.fn.space l.space;
}
