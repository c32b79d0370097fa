use Rattle.std.proofs.Common.{arith}
use Rattle.zero_state.specs.Stepping.{position_of, control_of}
use Rattle.zero_machine.proofs.Calling.{refer_marked, refer_enters}
use Rattle.zero_machine.proofs.calls.refer.Goals as goal

pub returns-then-marks-eq0-clause-goes : goal.returns-then-marks-eq0-clause-goes
returns-then-marks-eq0-clause-goes g c =
    let holds = g.M.Memory.holds c.args.m.now in
    refer_marked holds holds (g.M.Memory.heads c.args.m.now) (position_of c.args.s.now) c.args.body c.args.entry.now c.args.marks.now c.args.s.now.waits c.requires.ready.free
    c.if-marks-eq0.true
    (λ cells h. h)

pub returns-clause-goes : goal.returns-clause-goes
returns-clause-goes g c =
    refer_enters (g.M.Memory.holds c.args.m.now) (g.M.Memory.holds c.enter.new.m) (g.M.Memory.heads c.args.m.now) (position_of c.args.s.now) c.args.body c.args.entry.now c.enter.result
    (control_of c.enter.new.s) c.args.marks.now c.base-base.result c.base-base.ensures (omega (arith, c.if-marks-eq0.false)) c.enter.ensures.goes
