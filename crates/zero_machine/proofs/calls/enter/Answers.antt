use Rattle.std.proofs.Common.{◌+◌, length, subst, arith}
use Rattle.std.specs.Prelude.{flat_map}
use Rattle.cell_kinds.specs.Kinds.{all_kinds}
use Rattle.eu_base.specs.declared.address.Area.TheVariants.{Run}
use Rattle.code_form.specs.Machine.{held_cells, frame_contents}
use Rattle.zero_machine.proofs.Framing.{PutsFree}
use Rattle.zero_machine.proofs.Calling.{entered_full, entered_so, entered_texts}
use Rattle.zero_machine.proofs.calls.enter.Goals as goal

pub returns-then-not-have_room-clause-goes : goal.returns-then-not-have_room-clause-goes
returns-then-not-have_room-clause-goes g c =
    let holds = g.M.Memory.holds c.args.m.now in
    let s = c.args.s.now in
    entered_full holds holds (g.M.Memory.heads c.args.m.now) s.pc s.used c.args.first c.args.base c.args.refines c.args.body c.args.count c.frame_size-more.result s.stack
    (all_kinds c.args.variables.now) c.requires.many c.top-operands.result.now c.top-operands.ensures (omega (arith, c.frame_size-more.ensures, c.requires.counted)) s.waits c.requires.ready.free c.if-not-have_room.ensures (λ cells h. h)

pub returns-clause-goes : goal.returns-clause-goes
returns-clause-goes g c =
    let s = c.args.s.now in
    let before = g.M.Memory.holds c.args.m.now in
    let after = g.M.Memory.holds c.write_frame.new.m in
    entered_so before after (g.M.Memory.heads c.args.m.now) s.pc s.used c.args.first c.args.base c.args.refines c.args.body c.args.count c.frame_size-more.result s.stack
    (all_kinds c.args.variables.now) c.requires.many c.top-operands.result.now c.top-operands.ensures (omega (arith, c.frame_size-more.ensures, c.requires.counted)) c.if-not-have_room.ensures
    (g.met.M.Memory.room c.write_frame.new.m Run) c.enter.new.self s.waits c.requires.ready.free c.in_ok-enter.ensures
    (subst (PutsFree before after s.used (2 + length (flat_map held_cells c.top-operands.result.now) + length (all_kinds c.args.variables.now)) (frame_contents c.top-operands.result.now (all_kinds c.args.variables.now)))
    c.in_default.is c.in_ok-write_frame.ensures.puts)

pub returns-in-HeapFull-clause-goes : goal.returns-in-HeapFull-clause-goes
returns-in-HeapFull-clause-goes g c =
    let s = c.args.s.now in
    let before = g.M.Memory.holds c.args.m.now in
    let after = g.M.Memory.holds c.write_frame.new.m in
    entered_texts before after (g.M.Memory.heads c.args.m.now) s.pc s.used c.args.first c.args.base c.args.refines c.args.body c.args.count c.frame_size-more.result s.stack
    (all_kinds c.args.variables.now) c.requires.many c.top-operands.result.now c.top-operands.ensures (omega (arith, c.frame_size-more.ensures, c.requires.counted)) c.if-not-have_room.ensures
    (g.met.M.Memory.room c.write_frame.new.m Run) s.waits c.requires.ready.free
    (subst (PutsFree before after s.used (2 + length (flat_map held_cells c.top-operands.result.now) + length (all_kinds c.args.variables.now)) (frame_contents c.top-operands.result.now (all_kinds c.args.variables.now)))
    c.in-HeapFull.is c.in_ok-write_frame.ensures.puts)
