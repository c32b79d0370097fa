use Rattle.line_command.proofs.Lines.{ends_at, no_end_next}
use Rattle.line_command.proofs.stream.line_end.Goals as goal

pub returns-then-b-eq10 : goal.returns-then-b-eq10
returns-then-b-eq10 c = ends_at c.args.piece.now c.loop-at.at c.loop-at-test.true c.if-b-eq10.true c.loop-at.invariant

pub loop-at-preserved : goal.loop-at-preserved
loop-at-preserved c = no_end_next c.args.piece.now c.loop-at.at c.loop-at-test.true c.if-b-eq10.false c.loop-at.invariant
