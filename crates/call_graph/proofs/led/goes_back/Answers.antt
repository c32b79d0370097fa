use Rattle.std.proofs.Common.{◌≡◌, ℕ, suc, ◌+◌, ◌-◌, true, length, sym, subst, ◌∙◌, arith}
use Rattle.call_graph.specs.Chains.{leads}
use Rattle.call_graph.proofs.Chains.{as_long, before}
use Rattle.call_graph.proofs.led.goes_back.Goals as goal

pub returns-then-number-from : goal.returns-then-number-from
returns-then-number-from c = λ e.
    let all : ℕ = length c.args.calls.now in
    let turn : ℕ = c.loop-turn._turn in
    let end : c.loop-turn.number ≡ c.args.from = omega (arith, c.if-number-from.true) in
    let count : all ≡ (all - turn) + turn = omega (arith, c.loop-turn-test.true) in
    subst (λ (n : ℕ). leads all c.args.calls.now n c.args.to ≡ true) end
    (as_long c.args.calls.now c.args.to turn (all - turn) c.loop-turn.number all count c.loop-turn.invariant)

pub loop-turn-preserved : goal.loop-turn-preserved
loop-turn-preserved c =
    let turn : ℕ = c.loop-turn._turn in
    let next : suc turn ≡ turn + 1 = omega arith in
    subst (λ (i : ℕ). leads i c.args.calls.now c.in-Some.caller.now c.args.to ≡ true) next
    (before c.args.calls.now c.args.to turn c.in-Some.caller.now c.loop-turn.number c.loop-turn.invariant
    (sym c.does_call.ensures ∙ c.if-not-does_call.false))
