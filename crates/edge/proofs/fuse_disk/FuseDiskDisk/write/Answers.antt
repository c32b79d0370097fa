use Rattle.std.proofs.Common.{Some, inl, ap}
use Rattle.edge.specs.DisksInMemory.{MemDiskState}
use Rattle.edge.specs.Log.{block_after, zeros}
use Rattle.edge.proofs.Noted.{elapses_noted}
use Rattle.edge.proofs.Same.{now_lost}
use Rattle.edge.proofs.fuse_disk.FuseDiskDisk.write.Goals as goal

pub returns-then-is_refused-clause-err : goal.returns-then-is_refused-clause-err
returns-then-is_refused-clause-err c =
    let f = c.self.inside in
    let now = now_lost f.disk.log c.lose_write.new.self.log c.args.at (ap (λ (m : MemDiskState). m.log) c.lose_write.ensures) in
    rw (← c.self.view_is) (inl (λ i. Some (record (now i) {
      reads = f.counts.reads;
      writes = c.saturating_add-self-inside.ensures i;
      syncs = f.counts.syncs;
    })))

pub returns-then-is_refused-clause-time : goal.returns-then-is_refused-clause-time
returns-then-is_refused-clause-time c =
    let log = c.self.inside.disk.log in
    rw (← c.self.view_is) (elapses_noted log c.lose_write.new.self.log c.args.at (block_after log c.args.at zeros)
    (ap (λ (m : MemDiskState). m.log) c.lose_write.ensures))
