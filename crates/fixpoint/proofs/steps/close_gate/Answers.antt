use Rattle.std.proofs.Common.{◌≡◌, ◌≤◌, ℕ, Bool, true, IsTrue, sym, subst, arith, rules}
use Rattle.edge.specs.Moments.{Nowhere}
use Rattle.edge.proofs.Steps.{step_more, step_within}
use Rattle.fixpoint.specs.Fixpoints.{gate_writes}
use Rattle.fixpoint.proofs.steps.close_gate.Goals as goal

-- an open gate is written
one_write : (open_before : Bool) → open_before ≡ true → 1 ≤ gate_writes open_before
one_write open_before is = subst (λ (b : Bool). 1 ≤ gate_writes b) (sym is) (omega arith)

pub returns-then-not-was_open-clause-step : goal.returns-then-not-was_open-clause-step
returns-then-not-was_open-clause-step g c = λ s told.
    let d = g.D.Disk in
    let here = λ (block : ℕ). (block ≡ c.args.gate) × IsTrue c.args.was_open in
    step_within d.state d.moment d.left_since 0 0 1 0 (gate_writes c.args.was_open) 1 c.args.disk.now c.sync.new.disk Nowhere here s (λ block none. absurd none)
    (omega arith) (omega arith) (omega arith)
    (c.sync.ensures.step s told)

pub returns-in_err-write_block-clause-step : goal.returns-in_err-write_block-clause-step
returns-in_err-write_block-clause-step g c = λ s told.
    let d = g.D.Disk in
    let here = λ (block : ℕ). (block ≡ c.args.gate) × IsTrue c.args.was_open in
    let was : c.args.was_open ≡ true = search rules in
    let open_one : IsTrue c.args.was_open = search rules in
    step_within d.state d.moment d.left_since 0 1 0 0 (gate_writes c.args.was_open) 1 c.args.disk.now c.write_block.new.disk
    (λ (block : ℕ). block ≡ c.args.gate) here s
    (λ block there. (there, open_one)) (omega arith) (one_write c.args.was_open was) (omega arith) (c.write_block.ensures.step s told)

pub returns-clause-step : goal.returns-clause-step
returns-clause-step g c = λ s told.
    let d = g.D.Disk in
    let here = λ (block : ℕ). (block ≡ c.args.gate) × IsTrue c.args.was_open in
    let was : c.args.was_open ≡ true = search rules in
    let open_one : IsTrue c.args.was_open = search rules in
    let first = c.write_block.ensures.step s told in
    let wrote =
    step_within d.state d.moment d.left_since 0 1 0 0 (gate_writes c.args.was_open) 0 c.args.disk.now c.write_block.new.disk
    (λ (block : ℕ). block ≡ c.args.gate) here s
    (λ block there. (there, open_one)) (omega arith) (one_write c.args.was_open was) (omega arith) first in
    step_within d.state d.moment d.left_since 0 _ 1 0 (gate_writes c.args.was_open) 1 c.args.disk.now c.sync-2.new.disk here here s (λ block there. there)
    (omega arith) (omega arith) (omega arith)
    (step_more d.state d.moment d.left_since 0 (gate_writes c.args.was_open) 0 0 0 1 c.args.disk.now c.write_block.new.disk c.sync-2.new.disk here s wrote
    (step_within d.state d.moment d.left_since 0 0 1 0 0 1 c.write_block.new.disk c.sync-2.new.disk Nowhere here wrote.reached (λ block none. absurd none)
    (omega arith) (omega arith) (omega arith)
    (c.sync-2.ensures.step wrote.reached wrote.told)))
