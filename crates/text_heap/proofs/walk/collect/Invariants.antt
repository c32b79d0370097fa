use Rattle.std.proofs.Common.{◌≡◌, ◌≤◌, ◌<◌, ◌++◌}
use Rattle.text_heap.specs.Blocks.{gather, blocks_of}
use Rattle.text_heap.proofs.walk.collect.Given as goal

-- what was read, and what is still to be read
abbrev pub invariant-loop-left : goal.invariant-loop-left
invariant-loop-left g l = record {
  low : l.block < 4096;
  text : g.S.Space.known l.fn.space → l.text ++ gather (g.S.Space.content l.fn.space) l.block l.left (blocks_of l.left)
      ≡ gather (g.S.Space.content l.fn.space) l.first l.length (blocks_of l.length);
  same : g.S.Space.content l.space ≡ g.S.Space.content l.fn.space;
  later : g.S.Space.faults l.fn.space ≤ g.S.Space.faults l.space;
  follows : g.S.Space.follows l.fn.space l.space;
}

abbrev pub decreases-loop-left : goal.decreases-loop-left
decreases-loop-left g l = l.left
