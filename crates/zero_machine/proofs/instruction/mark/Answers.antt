use Rattle.std.proofs.Common.{arith}
use Rattle.zero_state.specs.Stepping.{position_of}
use Rattle.zero_machine.proofs.Executing.{mark_due, mark_spent}
use Rattle.zero_machine.proofs.instruction.mark.Goals as goal

pub returns-then-marks-eq0 : goal.returns-then-marks-eq0
returns-then-marks-eq0 c = λ p mem. mark_due (position_of c.args.s.now) c.args.marks.now c.args.s.now.waits c.requires.free p mem c.if-marks-eq0.true

pub returns : goal.returns
returns c = λ p mem.
    mark_spent (position_of c.args.s.now) c.args.marks.now c.args.s.now.waits c.requires.free p mem (omega (arith, c.if-marks-eq0.false))
