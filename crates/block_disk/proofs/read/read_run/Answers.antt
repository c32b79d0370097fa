use Rattle.std.proofs.Common.{◌≡◌, ◌+◌, Some, Option, IfSome, refl, sym, ◌∙◌, ap, subst, arith}
use Rattle.std.specs.Option.{option_map}
use Rattle.edge.specs.Disk.{DiskState}
use Rattle.edge.specs.Moments.{Nowhere}
use Rattle.edge.proofs.Steps.{read_step, step_more, step_within}
use Rattle.block_disk.specs.Runs.{blocks_in, after_reads}
use Rattle.block_disk.proofs.OneMore.{reads_content, reads_next, holds_read}
use Rattle.block_disk.proofs.read.read_run.Goals as goal

pub returns-in_err-read-clause-step : goal.returns-in_err-read-clause-step
returns-in_err-read-clause-step g c = λ s told.
    let d = g.D.Disk in
    let before = c.loop-k.invariant.step s told in
    step_within d.state d.moment d.left_since (c.loop-k.k + 1) 0 0 (blocks_in c.args.into.now) 0 0 c.args.disk.now c.read.new.self Nowhere Nowhere s
    (λ block none. none)
    (omega (arith, c.loop-k.invariant.count, c.loop-k-test.true)) (omega arith) (omega arith)
    (step_more d.state d.moment d.left_since c.loop-k.k 0 0 1 0 0 c.args.disk.now c.loop-k.disk c.read.new.self Nowhere s before
    (read_step d.state d.moment d.left_since c.loop-k.disk c.read.new.self Nowhere before.reached before.told c.read.ensures.state c.read.ensures.time))

pub loop-k-preserved : goal.loop-k-preserved
loop-k-preserved g c =
    let d = g.D.Disk in
    let k = c.loop-k.k in
    let at = c.args.at in
    record {
      count = refl;
      length = c.put_block.ensures.length ∙ c.loop-k.invariant.length;
      bytes = λ s told.
          let mid : d.state c.loop-k.disk ≡ Some (after_reads k s) = c.loop-k.invariant.state ∙ ap (option_map (after_reads k)) told in
          let read = subst (λ (o : Option DiskState). IfSome o (λ t. c.read.new.into ≡ t.content (at + k))) mid c.in_ok-read.ensures.bytes in
          holds_read s.content at k c.loop-k.into c.put_block.new.into (c.loop-k.invariant.bytes s told) c.put_block.ensures.others
          (sym (c.put_block.ensures.there ∙ read ∙ reads_content k s (at + k)));
      state = reads_next k (d.state c.args.disk.now) (d.state c.loop-k.disk) (d.state c.read.new.self) c.loop-k.invariant.state c.read.ensures.state;
      step = λ s told.
          let before = c.loop-k.invariant.step s told in
          step_more d.state d.moment d.left_since k 0 0 1 0 0 c.args.disk.now c.loop-k.disk c.read.new.self Nowhere s before
          (read_step d.state d.moment d.left_since c.loop-k.disk c.read.new.self Nowhere before.reached before.told c.read.ensures.state c.read.ensures.time);
      later = omega (arith, c.loop-k.invariant.later, c.read.ensures.cause.later);
    }

pub returns-clause-step : goal.returns-clause-step
returns-clause-step g c = λ s told.
    let d = g.D.Disk in
    step_within d.state d.moment d.left_since c.loop-k.k 0 0 (blocks_in c.args.into.now) 0 0 c.args.disk.now c.loop-k.disk Nowhere Nowhere s
    (λ block none. none)
    (omega (arith, c.loop-k.invariant.count, c.loop-k.auto.k-end)) (omega arith) (omega arith) (c.loop-k.invariant.step s told)
