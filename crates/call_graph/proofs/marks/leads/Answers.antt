use Rattle.std.proofs.Common.{◌≡◌, ℕ, ◌+◌, ◌-◌, ◌∙◌, suc, refl, ap, sym, length, arith, List, Bool, true}
use Rattle.std.specs.Cmp.{booleans_Decides}
use Rattle.std.proofs.lemmas.Slice.Eq.{slice_eq-Decides}
use Rattle.call_graph.specs.Chains.{leads}
use Rattle.call_graph.specs.walks.Marks.{mark_at, next_marks}
use Rattle.call_graph.proofs.Turns.{at_first, further, stays}
use Rattle.call_graph.proofs.marks.leads.Goals as goal

pub loop-turn-init : goal.loop-turn-init
loop-turn-init c = λ n. ap (λ (m : List Bool). mark_at m c.args.to n) c.in_ok-marks.ensures ∙ at_first c.args.calls.now c.args.to _ n

pub returns-then-eq : goal.returns-then-eq
returns-then-eq c =
    let same : c.as_slice-in-loop-turn.result.now ≡ c.as_slice-in-loop-turn-2.result.now =
    (slice_eq-Decides booleans_Decides c.as_slice-in-loop-turn.result.now c.as_slice-in-loop-turn-2.result.now true c.if-eq.ensures).0 refl in
    let settled : next_marks c.loop-turn.marks c.args.to c.args.calls.now ≡ c.loop-turn.marks =
    ap (λ (m : List Bool). next_marks m c.args.to c.args.calls.now) (sym c.as_slice.ensures) ∙ sym c.in_ok-next.ensures
    ∙ sym c.as_slice-in-loop-turn.ensures ∙ same ∙ c.as_slice-in-loop-turn-2.ensures in
    c.is_marked.ensures ∙ ap (λ (m : List Bool). mark_at m c.args.to c.args.from) c.as_slice-then-eq.ensures
    ∙ stays c.args.calls.now c.args.to c.loop-turn._turn c.loop-turn.marks c.loop-turn.invariant settled
    (length c.args.calls.now - c.loop-turn._turn) (length c.args.calls.now) (omega (arith, c.loop-turn-test.true)) c.args.from

pub loop-turn-preserved : goal.loop-turn-preserved
loop-turn-preserved c = λ n.
    ap (λ (m : List Bool). mark_at m c.args.to n) (c.in_ok-next.ensures ∙ ap (λ (m : List Bool). next_marks m c.args.to c.args.calls.now) c.as_slice.ensures)
    ∙ further c.args.calls.now c.args.to c.loop-turn._turn c.loop-turn.marks c.loop-turn.invariant n
    ∙ ap (λ (k : ℕ). leads k c.args.calls.now n c.args.to) (let e : suc c.loop-turn._turn ≡ c.loop-turn._turn + 1 = omega arith in e)
