use Rattle.std.proofs.Common.{◌≡◌, ◌+◌, ◌∙◌, ℕ, List, replicate, refl, sym, ap, subst, arith}
use Rattle.std.specs.Option.{option_map}
use Rattle.std.proofs.lemmas.Option.{same_Some}
use Rattle.edge.specs.Disk.{after_write}
use Rattle.edge.specs.Moments.{HasMade}
use Rattle.edge.proofs.Counts.{at_most_of, made_more}
use Rattle.fixpoint.specs.Slots.{head_of}
use Rattle.fixpoint.proofs.Formatted.{formatted}
use Rattle.fixpoint.proofs.Totals.{four_parts, so_far}
use Rattle.fixpoint.proofs.fix.Fix.format.Goals as goal

pub returns-in_err-write_block-clause-at_most : goal.returns-in_err-write_block-clause-at_most
returns-in_err-write_block-clause-at_most g c = λ s told.
    let d = g.D.Disk in
    let count = g.I.Image.count_of c.args.image.now in
    let step0 = c.write_block.ensures.step s told in
    (step0.reached, step0.told, at_most_of 0 1 0 0 (count + 4) 3 s step0.reached (omega arith) (omega arith) (omega arith) step0.calls)

pub returns-in_err-close_gate-clause-at_most : goal.returns-in_err-close_gate-clause-at_most
returns-in_err-close_gate-clause-at_most g c = λ s told.
    let d = g.D.Disk in
    let count = g.I.Image.count_of c.args.image.now in
    let step0 = c.write_block.ensures.step s told in
    let step1 = c.close_gate.ensures.step step0.reached step0.told in
    let first =
    so_far d.state d.moment d.left_since 1 0 1 1 2 1 c.write_block.new.disk c.close_gate.new.disk _ s step0.reached step0.calls step1 (omega arith)
    (omega arith) in
    (step1.reached, step1.told, at_most_of 0 2 1 0 (count + 4) 3 s step1.reached (omega arith) (omega arith) (omega arith) first)

pub returns-in_err-write_pages-clause-at_most : goal.returns-in_err-write_pages-clause-at_most
returns-in_err-write_pages-clause-at_most g c = λ s told.
    let d = g.D.Disk in
    let count = g.I.Image.count_of c.args.image.now in
    let step0 = c.write_block.ensures.step s told in
    let step1 = c.close_gate.ensures.step step0.reached step0.told in
    let first =
    so_far d.state d.moment d.left_since 1 0 1 1 2 1 c.write_block.new.disk c.close_gate.new.disk _ s step0.reached step0.calls step1 (omega arith)
    (omega arith) in
    let step2 = c.write_pages.ensures.step step1.reached step1.told in
    let second =
    so_far d.state d.moment d.left_since 2 1 count 0 (count + 2) 1 c.close_gate.new.disk c.write_pages.new.disk _ s step1.reached first step2 (omega arith)
    (omega arith) in
    (step2.reached, step2.told, at_most_of 0 (count + 2) 1 0 (count + 4) 3 s step2.reached (omega arith) (omega arith) (omega arith) second)

pub returns-in_err-write_head-clause-at_most : goal.returns-in_err-write_head-clause-at_most
returns-in_err-write_head-clause-at_most g c = λ s told.
    let d = g.D.Disk in
    let count = g.I.Image.count_of c.args.image.now in
    let step0 = c.write_block.ensures.step s told in
    let step1 = c.close_gate.ensures.step step0.reached step0.told in
    let first =
    so_far d.state d.moment d.left_since 1 0 1 1 2 1 c.write_block.new.disk c.close_gate.new.disk _ s step0.reached step0.calls step1 (omega arith)
    (omega arith) in
    let step2 = c.write_pages.ensures.step step1.reached step1.told in
    let second =
    so_far d.state d.moment d.left_since 2 1 count 0 (count + 2) 1 c.close_gate.new.disk c.write_pages.new.disk _ s step1.reached first step2 (omega arith)
    (omega arith) in
    let step3 = c.write_head.ensures.step step2.reached step2.told in
    let third =
    so_far d.state d.moment d.left_since (count + 2) 1 1 1 (count + 3) 2 c.write_pages.new.disk c.write_head.new.disk _ s step2.reached second step3
    (omega arith) (omega arith) in
    (step3.reached, step3.told, at_most_of 0 (count + 3) 2 0 (count + 4) 3 s step3.reached (omega arith) (omega arith) (omega arith) third)

pub returns-clause-at_most : goal.returns-clause-at_most
returns-clause-at_most g c = λ s told.
    let d = g.D.Disk in
    let count = g.I.Image.count_of c.args.image.now in
    let step0 = c.write_block.ensures.step s told in
    let step1 = c.close_gate.ensures.step step0.reached step0.told in
    let first =
    so_far d.state d.moment d.left_since 1 0 1 1 2 1 c.write_block.new.disk c.close_gate.new.disk _ s step0.reached step0.calls step1 (omega arith)
    (omega arith) in
    let step2 = c.write_pages.ensures.step step1.reached step1.told in
    let second =
    so_far d.state d.moment d.left_since 2 1 count 0 (count + 2) 1 c.close_gate.new.disk c.write_pages.new.disk _ s step1.reached first step2 (omega arith)
    (omega arith) in
    let step3 = c.write_head.ensures.step step2.reached step2.told in
    let third =
    so_far d.state d.moment d.left_since (count + 2) 1 1 1 (count + 3) 2 c.write_pages.new.disk c.write_head.new.disk _ s step2.reached second step3
    (omega arith) (omega arith) in
    let step4 = c.open_gate.ensures.step step3.reached step3.told in
    let fourth =
    so_far d.state d.moment d.left_since (count + 3) 2 1 1 (count + 4) 3 c.write_head.new.disk c.open_gate.new.disk _ s step3.reached third step4
    (omega arith) (omega arith) in
    (step4.reached, step4.told, at_most_of 0 (count + 4) 3 0 (count + 4) 3 s step4.reached (omega arith) (omega arith) (omega arith) fourth)

pub returns-in_err-open_gate-clause-at_most : goal.returns-in_err-open_gate-clause-at_most
returns-in_err-open_gate-clause-at_most g c = λ s told.
    let d = g.D.Disk in
    let count = g.I.Image.count_of c.args.image.now in
    let step0 = c.write_block.ensures.step s told in
    let step1 = c.close_gate.ensures.step step0.reached step0.told in
    let first =
    so_far d.state d.moment d.left_since 1 0 1 1 2 1 c.write_block.new.disk c.close_gate.new.disk _ s step0.reached step0.calls step1 (omega arith)
    (omega arith) in
    let step2 = c.write_pages.ensures.step step1.reached step1.told in
    let second =
    so_far d.state d.moment d.left_since 2 1 count 0 (count + 2) 1 c.close_gate.new.disk c.write_pages.new.disk _ s step1.reached first step2 (omega arith)
    (omega arith) in
    let step3 = c.write_head.ensures.step step2.reached step2.told in
    let third =
    so_far d.state d.moment d.left_since (count + 2) 1 1 1 (count + 3) 2 c.write_pages.new.disk c.write_head.new.disk _ s step2.reached second step3
    (omega arith) (omega arith) in
    let step4 = c.open_gate.ensures.step step3.reached step3.told in
    let fourth =
    so_far d.state d.moment d.left_since (count + 3) 2 1 1 (count + 4) 3 c.write_head.new.disk c.open_gate.new.disk _ s step3.reached third step4
    (omega arith) (omega arith) in
    (step4.reached, step4.told, at_most_of 0 (count + 4) 3 0 (count + 4) 3 s step4.reached (omega arith) (omega arith) (omega arith) fourth)

pub returns-clause-ok : goal.returns-clause-ok
returns-clause-ok g c = λ s told.
    let i = g.I.Image in
    let root = i.root_of c.args.image.now in
    let count = i.count_of c.args.image.now in
    let place = i.place_of c.args.image.now in
    let page = i.page_of c.args.image.now in
    let step0 = c.write_block.ensures.step s told in
    let step1 = c.close_gate.ensures.step step0.reached step0.told in
    let step2 = c.write_pages.ensures.step step1.reached step1.told in
    let step3 = c.write_head.ensures.step step2.reached step2.told in
    let step4 = c.open_gate.ensures.step step3.reached step3.told in
    let shut = c.in_ok-close_gate.ensures.closed refl step1.reached step1.told in
    let pages = c.in_ok-write_pages.ensures.pages step2.reached step2.told in
    let head = c.in_ok-write_head.ensures.head step3.reached step3.told ∙ ap (λ (n : ℕ). head_of 1 n) c.root-root.ensures in
    let settled = c.in_ok-open_gate.ensures.settled step4.reached step4.told in
    let opened = c.in_ok-open_gate.ensures.opened step4.reached step4.told in (
      step4.reached,
      step4.told,
      formatted root count place page c.requires.places s step0.reached step1.reached step2.reached step3.reached step4.reached step0.only step1.only step2.only
          step3.only step4.only shut pages head settled opened,
    )

pub returns-clause-calls : goal.returns-clause-calls
returns-clause-calls g c = λ s told.
    let count = g.I.Image.count_of c.args.image.now in
    let step0 = c.write_block.ensures.step s told in
    let step1 = c.close_gate.ensures.step step0.reached step0.told in
    let step2 = c.write_pages.ensures.step step1.reached step1.told in
    let step3 = c.write_head.ensures.step step2.reached step2.told in
    let step4 = c.open_gate.ensures.step step3.reached step3.told in
    let zeros : List ℕ = replicate 512 0 in
    let same : after_write 0 zeros s ≡ step0.reached =
    same_Some (after_write 0 zeros s) step0.reached (sym (c.in_ok-write_block.ensures.ok ∙ ap (option_map (after_write 0 zeros)) told) ∙ step0.told) in
    let zero : HasMade 0 1 0 s step0.reached = subst (HasMade 0 1 0 s) same (record { reads = refl; writes = refl; syncs = refl }) in
    let rest : HasMade 0 (count + 3) 3 step0.reached step4.reached =
    four_parts 1 1 count (count + 3) 3 step0.reached step1.reached step2.reached step3.reached step4.reached
    (c.in_ok-close_gate.ensures.calls step0.reached step0.told step1.reached step1.told)
    (c.in_ok-write_pages.ensures.calls step1.reached step1.told step2.reached step2.told)
    (c.in_ok-write_head.ensures.calls step2.reached step2.told step3.reached step3.told)
    (c.in_ok-open_gate.ensures.calls step3.reached step3.told step4.reached step4.told)
    (omega arith) (omega arith) in
    let all : 1 + (count + 3) ≡ count + 4 = omega arith in (
      step4.reached,
      step4.told,
      subst (λ (n : ℕ). HasMade 0 n 3 s step4.reached) all (made_more 0 1 0 0 (count + 3) 3 s step0.reached step4.reached zero rest),
    )
