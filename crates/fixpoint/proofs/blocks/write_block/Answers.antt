use Rattle.std.proofs.Common.{◌≡◌, ℕ, ◌≤◌, arith}
use Rattle.edge.proofs.Steps.{step_within}
use Rattle.block_disk.specs.Runs.{blocks_in, IsInRun}
use Rattle.fixpoint.proofs.OneBlock.{one_block, wrote_one, run_of_one}
use Rattle.fixpoint.proofs.blocks.write_block.Goals as goal

pub returns-clause-ok : goal.returns-clause-ok
returns-clause-ok g c = wrote_one c.args.at c.args.from.now _ _ c.told-from c.in_ok-write_run.ensures.ok

pub returns-clause-step : goal.returns-clause-step
returns-clause-step g c = λ s told.
    let d = g.D.Disk in
    let count = blocks_in c.args.from.now in
    let one : count ≤ 1 = omega (arith, one_block c.args.from.now c.told-from) in
    step_within d.state d.moment d.left_since 0 count 0 0 1 0 c.args.disk.now c.write_run.new.disk (IsInRun c.args.at count) (λ (block : ℕ). block ≡ c.args.at)
    s
    (λ block there. run_of_one c.args.at c.args.from.now block c.told-from there) (omega arith) one (omega arith) (c.write_run.ensures.step s told)

pub returns-in_err-write_run-clause-step : goal.returns-in_err-write_run-clause-step
returns-in_err-write_run-clause-step g c = λ s told.
    let d = g.D.Disk in
    let count = blocks_in c.args.from.now in
    let one : count ≤ 1 = omega (arith, one_block c.args.from.now c.told-from) in
    step_within d.state d.moment d.left_since 0 count 0 0 1 0 c.args.disk.now c.write_run.new.disk (IsInRun c.args.at count) (λ (block : ℕ). block ≡ c.args.at)
    s
    (λ block there. run_of_one c.args.at c.args.from.now block c.told-from there) (omega arith) one (omega arith) (c.write_run.ensures.step s told)
