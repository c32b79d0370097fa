use Rattle.std.proofs.Common.{refl}
use Rattle.call_graph.proofs.Turns.{first_step}
use Rattle.call_graph.proofs.marks.first_marks.Goals as goal

pub loop-number-preserved : goal.loop-number-preserved
loop-number-preserved c =
    first_step _ c.loop-number.marks c.push.new.self _ c.loop-number.number c.args.count c.args.to c.loop-number-test.true c.in_ok-push.ensures.ok refl
    c.loop-number.invariant
