use Rattle.std.proofs.Common.{◌≤◌, ◌<◌, ◌-◌}
use Rattle.eu_base.specs.Spaces.{Content}
use Rattle.text_heap.specs.Chains.{Releases}
use Rattle.text_heap.proofs.walk.release.Given as goal

-- what frees the blocks that are left frees them all
abbrev pub invariant-loop-done : goal.invariant-loop-done
invariant-loop-done g l = record {
  low : l.block < 4096;
  lowest : l.lowest < 4096;
  releases : g.S.Space.known l.fn.space → (last : Content) → Releases (g.S.Space.content l.space) last l.block (l.count - l.done)
      → Releases (g.S.Space.content l.fn.space) last l.first l.count;
  later : g.S.Space.faults l.fn.space ≤ g.S.Space.faults l.space;
  follows : g.S.Space.follows l.fn.space l.space;
}
