use Rattle.std.proofs.Common.{Some, inl, inr}
use Rattle.edge.specs.Log.{block_after, zeros}
use Rattle.edge.proofs.Noted.{now_noted, elapses_noted}
use Rattle.edge.proofs.Same.{now_lost}
use Rattle.edge.proofs.mem_disk.MemDiskDisk.write.Goals as goal

pub returns-in-Ok-clause-err : goal.returns-in-Ok-clause-err
returns-in-Ok-clause-err c =
    let m = c.self.inside in
    let now = now_noted m.log c.note.new.self c.args.at c.args.from.now c.in-Ok.ensures.ok in
    rw (← c.self.view_is) (inr (λ i. Some (record (now i) { reads = m.reads; writes = c.saturating_add-self-inside-2.ensures i; syncs = m.syncs })))

pub returns-in-Ok-clause-time : goal.returns-in-Ok-clause-time
returns-in-Ok-clause-time c =
    rw (← c.self.view_is) (elapses_noted c.self.inside.log c.note.new.self c.args.at c.args.from.now c.in-Ok.ensures.ok)

pub returns-in-Err-clause-err : goal.returns-in-Err-clause-err
returns-in-Err-clause-err c =
    let m = c.self.inside in
    let now = now_lost m.log c.note.new.self c.args.at c.in-Err.ensures.err in
    rw (← c.self.view_is) (inl (λ i. Some (record (now i) { reads = m.reads; writes = c.saturating_add-self-inside-2.ensures i; syncs = m.syncs })))

pub returns-in-Err-clause-time : goal.returns-in-Err-clause-time
returns-in-Err-clause-time c =
    let m = c.self.inside in
    rw (← c.self.view_is) (elapses_noted m.log c.note.new.self c.args.at (block_after m.log c.args.at zeros) c.in-Err.ensures.err)

pub returns-in-Ok-note-clause-ok : goal.returns-in-Ok-note-clause-ok
returns-in-Ok-note-clause-ok c =
    let m = c.self.inside in
    let now = now_noted m.log c.note-2.new.self c.args.at c.args.from.now c.in-Ok-note.ensures.ok in
    rw (← c.self.view_is) (λ i. Some (record (now i) { reads = m.reads; writes = c.saturating_add-self-inside-2.ensures i; syncs = m.syncs }))

pub returns-in-Ok-note-clause-time : goal.returns-in-Ok-note-clause-time
returns-in-Ok-note-clause-time c =
    rw (← c.self.view_is) (elapses_noted c.self.inside.log c.note-2.new.self c.args.at c.args.from.now c.in-Ok-note.ensures.ok)

pub returns-in-Err-note-clause-err : goal.returns-in-Err-note-clause-err
returns-in-Err-note-clause-err c =
    let m = c.self.inside in
    let now = now_lost m.log c.note-2.new.self c.args.at c.in-Err-note.ensures.err in
    rw (← c.self.view_is) (inl (λ i. Some (record (now i) { reads = m.reads; writes = c.saturating_add-self-inside-2.ensures i; syncs = m.syncs })))

pub returns-in-Err-note-clause-time : goal.returns-in-Err-note-clause-time
returns-in-Err-note-clause-time c =
    let m = c.self.inside in
    rw (← c.self.view_is) (elapses_noted m.log c.note-2.new.self c.args.at (block_after m.log c.args.at zeros) c.in-Err-note.ensures.err)
