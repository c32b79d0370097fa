use Rattle.std.proofs.Common.{◌≡◌, ◌<◌, ◌+◌, ℕ, refl, sym, ◌∙◌, subst, arith}
use Rattle.std.specs.Option.{option_map}
use Rattle.edge.specs.Disk.{DiskState, after_write}
use Rattle.edge.specs.Moments.{HasMade}
use Rattle.edge.proofs.Changes.{mapped}
use Rattle.edge.proofs.Counts.{made_more}
use Rattle.edge.proofs.Steps.{step_more, step_within}
use Rattle.fixpoint.specs.Fixpoints.{IsPlace, HasPages}
use Rattle.fixpoint.proofs.Pages.{pages_more}
use Rattle.fixpoint.proofs.steps.write_pages.Goals as goal

pub returns-in_err-write_block-clause-step : goal.returns-in_err-write_block-clause-step
returns-in_err-write_block-clause-step g c = λ s told.
    let d = g.D.Disk in
    let i = g.I.Image in
    let k = c.loop-k.k in
    let count = i.count_of c.args.image.now in
    let places = IsPlace count (i.place_of c.args.image.now) in
    let before = c.loop-k.invariant.step s told in
    let low : k < count = omega (arith, c.loop-k.invariant.count) in
    step_within d.state d.moment d.left_since 0 (k + 1) 0 0 count 0 c.args.disk.now c.write_block.new.disk places places s (λ block there. there) (omega arith)
    (omega (arith, low)) (omega arith)
    (step_more d.state d.moment d.left_since 0 k 0 0 1 0 c.args.disk.now c.loop-k.disk c.write_block.new.disk places s before
    (step_within d.state d.moment d.left_since 0 1 0 0 1 0 c.loop-k.disk c.write_block.new.disk (λ (block : ℕ). block ≡ c.place.result) places before.reached
    (λ block same. (k, low, sym (same ∙ c.place.ensures))) (omega arith) (omega arith) (omega arith) (c.write_block.ensures.step before.reached before.told)))

pub loop-k-preserved : goal.loop-k-preserved
loop-k-preserved g c =
    let d = g.D.Disk in
    let i = g.I.Image in
    let k = c.loop-k.k in
    let count = i.count_of c.args.image.now in
    let place_of = i.place_of c.args.image.now in
    let page_of = i.page_of c.args.image.now in
    let places = IsPlace count place_of in
    let low : k < count = omega (arith, c.loop-k.invariant.count) in
    let wrote : d.state c.write_block.new.disk ≡ option_map (after_write (place_of k) (page_of k)) (d.state c.loop-k.disk) =
    c.in_ok-write_block.ensures.ok ∙ (λ j. option_map (after_write (c.place.ensures j) (c.page.ensures j)) (d.state c.loop-k.disk)) in
    record {
      count = c.loop-k.invariant.count;
      step = λ s told.
          let before = c.loop-k.invariant.step s told in
          step_more d.state d.moment d.left_since 0 k 0 0 1 0 c.args.disk.now c.loop-k.disk c.write_block.new.disk places s before
          (step_within d.state d.moment d.left_since 0 1 0 0 1 0 c.loop-k.disk c.write_block.new.disk (λ (block : ℕ). block ≡ c.place.result) places
          before.reached
          (λ block same. (k, low, sym (same ∙ c.place.ensures))) (omega arith) (omega arith) (omega arith)
          (c.write_block.ensures.step before.reached before.told));
      calls = λ s told t told_new.
          let from = mapped (after_write (place_of k) (page_of k)) (d.state c.loop-k.disk) (d.state c.write_block.new.disk) t wrote told_new in
          let after = after_write (place_of k) (page_of k) from.from in
          let one : HasMade 0 1 0 from.from after = record { reads = refl; writes = refl; syncs = refl } in
          subst (λ (u : DiskState). HasMade 0 (k + 1) 0 s u) (sym from.is)
          (made_more 0 k 0 0 1 0 s from.from after (c.loop-k.invariant.calls s told from.from from.was) one);
      pages = λ t told.
          let from = mapped (after_write (place_of k) (page_of k)) (d.state c.loop-k.disk) (d.state c.write_block.new.disk) t wrote told in
          subst (λ (u : DiskState). HasPages (k + 1) place_of page_of u.content) (sym from.is)
          (pages_more count k place_of page_of from.from.content c.requires.differ low (c.loop-k.invariant.pages from.from from.was));
      later = omega (arith, c.loop-k.invariant.later, c.write_block.ensures.cause.later);
    }

pub returns-clause-step : goal.returns-clause-step
returns-clause-step g c = λ s told.
    let d = g.D.Disk in
    let i = g.I.Image in
    let count = i.count_of c.args.image.now in
    let places = IsPlace count (i.place_of c.args.image.now) in
    step_within d.state d.moment d.left_since 0 c.loop-k.k 0 0 count 0 c.args.disk.now c.loop-k.disk places places s (λ block there. there) (omega arith)
    (omega (arith, c.loop-k.invariant.count)) (omega arith)
    (c.loop-k.invariant.step s told)

pub returns-clause-calls : goal.returns-clause-calls
returns-clause-calls g c = λ s told t told_new.
    let i = g.I.Image in
    let all : c.loop-k.k ≡ i.count_of c.args.image.now = omega (arith, c.loop-k.invariant.count) in
    subst (λ (n : ℕ). HasMade 0 n 0 s t) all (c.loop-k.invariant.calls s told t told_new)
