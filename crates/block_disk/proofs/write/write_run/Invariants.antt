use Rattle.std.proofs.Common.{◌≡◌, ◌≤◌}
use Rattle.std.specs.Option.{option_map, ForSome}
use Rattle.edge.specs.Moments.{Step}
use Rattle.block_disk.specs.Runs.{blocks_in, HoldsRun, IsInRun, after_writes}
use Rattle.block_disk.proofs.write.write_run.Given as goal

-- so many blocks were written
abbrev pub invariant-loop-k : goal.invariant-loop-k
invariant-loop-k g l =
    let d = g.D.Disk in
    record {
      count : l.count ≡ blocks_in l.from;
      state : d.state l.disk ≡ option_map (after_writes l.k l.at l.from) (d.state l.fn.disk);
      bytes : ForSome (d.state l.disk) (λ s. HoldsRun s.content l.at l.k l.from);
      step : ForSome (d.state l.fn.disk) (Step d.state d.moment d.left_since l.fn.disk l.disk (IsInRun l.at (blocks_in l.from)) 0 l.k 0);
      later : d.faults l.fn.disk ≤ d.faults l.disk;
    }
