use Rattle.std.proofs.Common.{arith}
use Rattle.session_lines.proofs.Lines.{found, goes_past}
use Rattle.session_lines.proofs.reader.line_end.Goals as goal

pub returns-then-byte-eq10 : goal.returns-then-byte-eq10
returns-then-byte-eq10 c =
    let l = found c.args.bytes.now c.loop-at.at c.loop-at-test.true c.if-byte-eq10.true c.loop-at.invariant.line c.loop-at.invariant.rest in
    record { within = c.loop-at.invariant.within; line = l.0; rest = l.1 }

pub loop-at-preserved : goal.loop-at-preserved
loop-at-preserved c =
    let l = goes_past c.args.bytes.now c.loop-at.at c.loop-at-test.true c.if-byte-eq10.false c.loop-at.invariant.line c.loop-at.invariant.rest in
    record { within = omega (arith, c.loop-at-test.true); line = l.0; rest = l.1 }
