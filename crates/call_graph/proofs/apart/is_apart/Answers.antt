use Rattle.std.proofs.Common.{length, sym, ◌∙◌}
use Rattle.call_graph.proofs.Unreached.{apart}
use Rattle.call_graph.proofs.apart.is_apart.Goals as goal

pub returns : goal.returns
returns c = λ e.
    apart c.args.calls.now c.as_slice-marks.result.now c.args.to (sym c.is_closed.ensures ∙ e) (length c.args.calls.now) c.args.from
    (sym c.is_safe.ensures ∙ c.if-not-is_safe.false)
