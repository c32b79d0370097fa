use Rattle.std.proofs.Common.{◌∙◌, sym, rules}
use Rattle.edge.specs.Log.{blank}
use Rattle.edge.proofs.Kept.{block_now}
use Rattle.edge.proofs.mem_disk.MemDiskDisk.read.Goals as goal

pub returns-then-is_listed-clause-does : goal.returns-then-is_listed-clause-does
returns-then-is_listed-clause-does c = rw (← c.self.view_is) (search rules)

pub returns-clause-bytes : goal.returns-clause-bytes
returns-clause-bytes c = rw (← c.self.view_is) (c.find.ensures ∙ sym (block_now blank c.self.inside.log c.args.at))
