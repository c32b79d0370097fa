use Rattle.std.proofs.Common.{List, Bool, false, length, replicate, ap, sym, subst}
use Rattle.code_gen.specs.Names.{Names}
use Rattle.code_gen.proofs.Walks.{Walks, begins, goes_on, is_less, ends}
use Rattle.code_gen.proofs.marks.marks.Goals as goal

pub loop-number-init : goal.loop-number-init
loop-number-init c =
    let count = length c.as_slice-bodies.result.now in
    subst (λ (ms : List Bool). Walks c.args.core.now ms c.in_ok-pending.pending) (sym c.in_ok-marks.ensures)
    (subst (λ (ns : Names). Walks c.args.core.now (replicate count false) ns) (sym c.in_ok-pending.ensures)
    (begins c.args.core.now count (ap length c.as_slice-bodies.ensures)))

pub loop-number-smaller : goal.loop-number-smaller
loop-number-smaller c =
    is_less c.args.core.now c.as_slice-bodies.result.now c.loop-number.marks c.enter.new.marks c.loop-number.pending c.pop.new.self c.in_ok-pending-2.pending
    c.in-Some.number c.as_slice-bodies.ensures c.in-Some.ensures c.in_ok-pending-2.ensures.marks c.in_ok-pending-2.ensures.pending

pub loop-number-preserved : goal.loop-number-preserved
loop-number-preserved c =
    goes_on c.args.core.now c.as_slice-bodies.result.now c.loop-number.marks c.enter.new.marks c.loop-number.pending c.pop.new.self c.in_ok-pending-2.pending
    c.in-Some.number c.as_slice-bodies.ensures c.in-Some.ensures c.in_ok-pending-2.ensures.marks c.in_ok-pending-2.ensures.pending c.loop-number.invariant

pub returns : goal.returns
returns c = ends c.args.core.now c.loop-number.marks (subst (λ (ns : Names). Walks c.args.core.now c.loop-number.marks ns) c.in_default.ensures.0 c.loop-number.invariant)
