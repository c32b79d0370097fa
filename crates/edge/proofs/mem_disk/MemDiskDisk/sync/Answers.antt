use Rattle.std.proofs.Common.{◌∙◌, ap, refl, Some, rules}
use Rattle.edge.specs.Log.{blank, now_of}
use Rattle.edge.proofs.Noted.{now_marked, elapses_marked}
use Rattle.edge.proofs.mem_disk.MemDiskDisk.sync.Goals as goal

pub returns-clause-ok : goal.returns-clause-ok
returns-clause-ok c =
    let now = ap now_of c.settle.ensures ∙ now_marked blank c.self.inside.log refl in
    rw (← c.self.view_is) (λ i.
    Some (record (now i) { reads = c.self.inside.reads; writes = c.self.inside.writes; syncs = c.saturating_add-self-inside-2.ensures i }))

pub returns-clause-time : goal.returns-clause-time
returns-clause-time c = rw (← c.self.view_is) (elapses_marked c.self.inside.log c.settle.new.self c.settle.ensures)

pub returns-then-is_listed-clause-does : goal.returns-then-is_listed-clause-does
returns-then-is_listed-clause-does c = rw (← c.self.view_is) (search rules)
