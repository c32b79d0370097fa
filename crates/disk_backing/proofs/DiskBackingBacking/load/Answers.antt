use Rattle.std.proofs.Common.{refl}
use Rattle.disk_backing.specs.Reads.{one_read}
use Rattle.disk_backing.proofs.DiskBackingBacking.load.Goals as goal

pub returns-in-Ok-clause-follows : goal.returns-in-Ok-clause-follows
returns-in-Ok-clause-follows g c = (refl, one_read g.D.Disk c.args.self.now.disk.now c.read.new.self c.read.ensures.state c.read.ensures.time c.read.ensures.cause.later)

pub returns-in-Err-clause-follows : goal.returns-in-Err-clause-follows
returns-in-Err-clause-follows g c = (refl, one_read g.D.Disk c.args.self.now.disk.now c.read.new.self c.read.ensures.state c.read.ensures.time c.read.ensures.cause.later)
