use Rattle.std.proofs.Common.{◌≡◌, drop}
use Rattle.edge.specs.Log.{block_after, zeros}
use Rattle.edge.proofs.log.find.Given as goal

abbrev pub invariant-loop-write : goal.invariant-loop-write
invariant-loop-write l = block_after (drop l.write-index l.log) l.at l.into ≡ block_after l.log l.at zeros
