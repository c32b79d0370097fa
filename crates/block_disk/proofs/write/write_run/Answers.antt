use Rattle.std.proofs.Common.{◌≡◌, ◌+◌, ◌<◌, refl, sym, ◌∙◌, ap, subst, arith, rules}
use Rattle.edge.specs.Disk.{DiskState, after_write}
use Rattle.edge.proofs.Changes.{mapped}
use Rattle.edge.proofs.Steps.{wrote_step, failed_step, step_more, step_within}
use Rattle.block_disk.specs.Runs.{blocks_in, block_of, IsInRun, HoldsRun}
use Rattle.block_disk.proofs.OneMore.{writes_next, holds_written}
use Rattle.block_disk.proofs.write.write_run.Goals as goal

pub returns-in_err-write-clause-step : goal.returns-in_err-write-clause-step
returns-in_err-write-clause-step g c = λ s told.
    let d = g.D.Disk in
    let k = c.loop-k.k in
    let at = c.args.at in
    let run = IsInRun at (blocks_in c.args.from.now) in
    let low : k < blocks_in c.args.from.now = omega (arith, c.loop-k.invariant.count, c.loop-k-test.true) in
    let there : run (at + k) = (k, low, refl) in
    let before = c.loop-k.invariant.step s told in
    step_within d.state d.moment d.left_since 0 (k + 1) 0 0 (blocks_in c.args.from.now) 0 c.args.disk.now c.write.new.self run run s (λ block in_run. in_run)
    (omega arith) (omega (arith, low)) (omega arith)
    (step_more d.state d.moment d.left_since 0 k 0 0 1 0 c.args.disk.now c.loop-k.disk c.write.new.self run s before
    (failed_step d.state d.moment d.left_since c.loop-k.disk c.write.new.self run (at + k) _ before.reached there before.told c.in_err-write.ensures.err
    c.write.ensures.time))

pub loop-k-preserved : goal.loop-k-preserved
loop-k-preserved g c =
    let d = g.D.Disk in
    let k = c.loop-k.k in
    let at = c.args.at in
    let bytes = c.args.from.now in
    let block = c.copy_from_slice.new.self in
    let run = IsInRun at (blocks_in bytes) in
    let low : k < blocks_in bytes = omega (arith, c.loop-k.invariant.count, c.loop-k-test.true) in
    let there : run (at + k) = (k, low, refl) in
    let same : block ≡ block_of k bytes = search rules in
    record {
      count = refl;
      state =
          writes_next k at bytes block (d.state c.args.disk.now) (d.state c.loop-k.disk) (d.state c.write.new.self) same c.loop-k.invariant.state
          c.in_ok-write.ensures.ok;
      bytes = λ s told.
          let from = mapped (after_write (at + k) block) (d.state c.loop-k.disk) (d.state c.write.new.self) s c.in_ok-write.ensures.ok told in
          subst (λ (t : DiskState). HoldsRun t.content at (k + 1) bytes) (ap (λ b. after_write (at + k) b from.from) (sym same) ∙ sym from.is)
          (holds_written from.from.content at k bytes (c.loop-k.invariant.bytes from.from from.was));
      step = λ s told.
          let before = c.loop-k.invariant.step s told in
          step_more d.state d.moment d.left_since 0 k 0 0 1 0 c.args.disk.now c.loop-k.disk c.write.new.self run s before
          (wrote_step d.state d.moment d.left_since c.loop-k.disk c.write.new.self run (at + k) block before.reached there before.told c.in_ok-write.ensures.ok
          c.write.ensures.time);
      later = omega (arith, c.loop-k.invariant.later, c.write.ensures.cause.later);
    }

pub returns-clause-step : goal.returns-clause-step
returns-clause-step g c = λ s told.
    let d = g.D.Disk in
    let run = IsInRun c.args.at (blocks_in c.args.from.now) in
    step_within d.state d.moment d.left_since 0 c.loop-k.k 0 0 (blocks_in c.args.from.now) 0 c.args.disk.now c.loop-k.disk run run s (λ block in_run. in_run)
    (omega arith) (omega (arith, c.loop-k.invariant.count, c.loop-k.auto.k-end)) (omega arith) (c.loop-k.invariant.step s told)
