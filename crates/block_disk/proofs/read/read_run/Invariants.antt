use Rattle.std.proofs.Common.{◌≡◌, ◌≤◌, length}
use Rattle.std.specs.Option.{option_map, ForSome}
use Rattle.edge.specs.Moments.{Nowhere, Step}
use Rattle.block_disk.specs.Runs.{blocks_in, HoldsRun, after_reads}
use Rattle.block_disk.proofs.read.read_run.Given as goal

-- so many blocks were read
abbrev pub invariant-loop-k : goal.invariant-loop-k
invariant-loop-k g l =
    let d = g.D.Disk in
    record {
      count : l.count ≡ blocks_in l.fn.into;
      length : length l.into ≡ length l.fn.into;
      bytes : ForSome (d.state l.fn.disk) (λ s. HoldsRun s.content l.at l.k l.into);
      state : d.state l.disk ≡ option_map (after_reads l.k) (d.state l.fn.disk);
      step : ForSome (d.state l.fn.disk) (Step d.state d.moment d.left_since l.fn.disk l.disk Nowhere l.k 0 0);
      later : d.faults l.fn.disk ≤ d.faults l.disk;
    }
