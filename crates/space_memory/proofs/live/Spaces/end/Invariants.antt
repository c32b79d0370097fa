use Rattle.std.proofs.Common.{◌≤◌, length}
use Rattle.page_pool.specs.Pool.{used_of, Tell}
use Rattle.space_memory.specs.Below.page_table.specs.Changes.{FreesOnly}
use Rattle.space_memory.specs.Below.page_table.specs.Frames.{over, Frames, Stands}
use Rattle.space_memory.specs.Live.{space_roots}
use Rattle.space_memory.proofs.live.Spaces.end.Given as goal

abbrev pub invariant-loop-space : goal.invariant-loop-space
invariant-loop-space l = record {
  stands : Stands l.pool (space_roots l.spaces.entries) 0;
  frames : (tell : Tell) → Frames (over l.fn.pool tell) (over l.pool tell) (space_roots l.fn.self.spaces) (space_roots l.spaces.entries);
  fewer : length (space_roots l.spaces.entries) ≤ length (space_roots l.fn.self.spaces);
  frees : FreesOnly l.fn.pool l.pool;
  used : used_of l.pool ≤ used_of l.fn.pool;
}

abbrev pub decreases-loop-space : goal.decreases-loop-space
decreases-loop-space l = length l.spaces.entries
