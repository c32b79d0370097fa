use Rattle.std.proofs.Common.{◌∙◌, ap, sym, refl}
use Rattle.edge.specs.Disk.{DiskState}
use Rattle.edge.specs.Log.{blank, now_of}
use Rattle.edge.proofs.Noted.{now_marked}
use Rattle.edge.proofs.Kept.{part_of, kept_image, lost_image}
use Rattle.edge.proofs.mem_disk.MemDisk.crash.Goals as goal

pub returns-then-keep-clause-image : goal.returns-then-keep-clause-image
returns-then-keep-clause-image c = rw (← c.self.view_is) (kept_image c.self.inside.log c.settle.new.self c.settle.ensures)

pub returns-then-keep-clause-kept : goal.returns-then-keep-clause-kept
returns-then-keep-clause-kept c =
    λ _. rw (← c.self.view_is) (ap (λ (s : DiskState). s.content) (ap now_of c.settle.ensures ∙ now_marked blank c.self.inside.log refl))

pub returns-then-keep-clause-settled : goal.returns-then-keep-clause-settled
returns-then-keep-clause-settled c = ap (λ (s : DiskState). s.written) (ap now_of c.settle.ensures ∙ now_marked blank c.self.inside.log refl)

pub returns-then-keep-clause-synced : goal.returns-then-keep-clause-synced
returns-then-keep-clause-synced c =
    let now = ap now_of c.settle.ensures ∙ now_marked blank c.self.inside.log refl in
    ap (λ (s : DiskState). s.synced) now ∙ sym (ap (λ (s : DiskState). s.content) now)

pub returns-else-keep-clause-image : goal.returns-else-keep-clause-image
returns-else-keep-clause-image c = rw (← c.self.view_is) (lost_image c.self.inside.log c.lose.new.self c.lose.ensures)

pub returns-else-keep-clause-lost : goal.returns-else-keep-clause-lost
returns-else-keep-clause-lost c = λ _. rw (← c.self.view_is) (part_of c.self.inside.log c.lose.new.self c.lose.ensures).content

pub returns-else-keep-clause-settled : goal.returns-else-keep-clause-settled
returns-else-keep-clause-settled c = (part_of c.self.inside.log c.lose.new.self c.lose.ensures).written

pub returns-else-keep-clause-synced : goal.returns-else-keep-clause-synced
returns-else-keep-clause-synced c = let part = part_of c.self.inside.log c.lose.new.self c.lose.ensures in part.synced ∙ sym part.content
