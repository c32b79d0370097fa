use Rattle.std.proofs.Common.{◌≡◌, ℕ, arith}
use Rattle.edge.specs.Moments.{Nowhere}
use Rattle.edge.proofs.Steps.{step_more, step_within}
use Rattle.fixpoint.proofs.steps.write_head.Goals as goal

pub returns-in_err-write_block-clause-step : goal.returns-in_err-write_block-clause-step
returns-in_err-write_block-clause-step g c = λ s told.
    let d = g.D.Disk in
    let here = λ (block : ℕ). block ≡ c.args.at in
    step_within d.state d.moment d.left_since 0 1 0 0 1 1 c.args.disk.now c.write_block.new.disk here here s (λ block there. there) (omega arith) (omega arith)
    (omega arith) (c.write_block.ensures.step s told)

pub returns-clause-step : goal.returns-clause-step
returns-clause-step g c = λ s told.
    let d = g.D.Disk in
    let here = λ (block : ℕ). block ≡ c.args.at in
    let first = c.write_block.ensures.step s told in
    step_more d.state d.moment d.left_since 0 1 0 0 0 1 c.args.disk.now c.write_block.new.disk c.sync.new.disk here s first
    (step_within d.state d.moment d.left_since 0 0 1 0 0 1 c.write_block.new.disk c.sync.new.disk Nowhere here first.reached (λ block none. absurd none)
    (omega arith) (omega arith) (omega arith)
    (c.sync.ensures.step first.reached first.told))
