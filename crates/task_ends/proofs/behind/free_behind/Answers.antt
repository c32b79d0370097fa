use Rattle.std.proofs.Common.{List, ap, ◌∙◌, ◌≡◌, length, min, arith}
use Rattle.task_ends.specs.Below.cell_kinds.specs.Kinds.{packet_kinds}
use Rattle.task_ends.specs.Below.cell_kinds.specs.declared.packet.Packet.{Packet}
use Rattle.task_ends.specs.Below.space_memory.specs.Memories.{roots}
use Rattle.task_ends.specs.Below.task_job.proofs.Here.{memory_frames_none}
use Rattle.task_ends.proofs.Fronts.{none_behind, freed_so, many_before}
use Rattle.task_ends.proofs.Settled.{whole_still}
use Rattle.task_ends.proofs.behind.free_behind.Goals as goal

pub returns-clause-freed : goal.returns-clause-freed
returns-clause-freed c =
    let core = c.args.unit.now.core in
    let before : c.count_cells-before.result ≡ min (length (packet_kinds core.packets)) 18446744073709551615 =
    c.count_cells-before.ensures ∙ ap (λ (ps : List Packet). min (length (packet_kinds ps)) 18446744073709551615) c.as_slice.ensures in
    freed_so c.free_over.result (packet_kinds core.packets) core.inserted _ c.args.pool.now c.free_over.new.pool c.args.memory.now c.free_over.new.memory
    c.count_cells-before.result c.saturating_add.result before (omega (arith, c.len.ensures, c.saturating_add.ensures))
    (omega (arith, c.from.ensures, c.if-saturating_add-from.false)) c.shapes.ensures c.free_over.ensures.heads c.free_over.ensures.freed

pub returns-then-saturating_add-from-clause-freed : goal.returns-then-saturating_add-from-clause-freed
returns-then-saturating_add-from-clause-freed c store h =
    let core = c.args.unit.now.core in
    let before : c.count_cells-before.result ≡ min (length (packet_kinds core.packets)) 18446744073709551615 =
    c.count_cells-before.ensures ∙ ap (λ (ps : List Packet). min (length (packet_kinds ps)) 18446744073709551615) c.as_slice.ensures in
    none_behind (packet_kinds core.packets) core.inserted c.args.pool.now c.args.memory.now store h
    (many_before (packet_kinds core.packets) core.inserted c.count_cells-before.result c.saturating_add.result before
    (omega (arith, c.len.ensures, c.saturating_add.ensures)) (omega (arith, c.from.ensures, c.if-saturating_add-from.true)))

pub returns-then-saturating_add-from-clause-frames : goal.returns-then-saturating_add-from-clause-frames
returns-then-saturating_add-from-clause-frames c = memory_frames_none c.args.pool.now (roots c.args.memory.now)

pub returns-clause-stands : goal.returns-clause-stands
returns-clause-stands c =
    whole_still c.args.pool.now c.free_over.new.pool c.args.memory.now c.free_over.new.memory c.free_over.ensures.heads c.free_over.ensures.frames
    c.requires.agree
