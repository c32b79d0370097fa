use Rattle.std.proofs.Common.{arith}
use Rattle.cell_kinds.specs.Kinds.{all_kinds}
use Rattle.zero_state.specs.Stepping.{position_of, control_of}
use Rattle.zero_machine.proofs.Calling.{call_marked, call_enters}
use Rattle.zero_machine.proofs.calls.call.Goals as goal

pub returns-then-marks-eq0-clause-goes : goal.returns-then-marks-eq0-clause-goes
returns-then-marks-eq0-clause-goes g c =
    let holds = g.M.Memory.holds c.args.m.now in
    call_marked holds holds (g.M.Memory.heads c.args.m.now) (position_of c.args.s.now) c.args.body c.args.entry.now.first c.args.entry.now.layout c.requires.finds.parameters
    c.requires.finds.variables c.requires.finds.own c.requires.finds c.args.marks.now c.args.s.now.waits c.requires.ready.free c.if-marks-eq0.true
    (λ cells h. h)

pub returns-clause-goes : goal.returns-clause-goes
returns-clause-goes g c =
    call_enters (g.M.Memory.holds c.args.m.now) (g.M.Memory.holds c.enter.new.m) (g.M.Memory.heads c.args.m.now) (position_of c.args.s.now) c.args.body c.args.entry.now.first
    c.args.entry.now.layout c.in-Own.parameters c.in-Own.variables c.in-Own.is c.requires.finds c.enter.result (control_of c.enter.new.s) c.args.marks.now
    c.len.result (all_kinds c.shapes.result.now) c.len.ensures c.shapes.ensures (omega (arith, c.if-marks-eq0.false)) c.enter.ensures.goes
