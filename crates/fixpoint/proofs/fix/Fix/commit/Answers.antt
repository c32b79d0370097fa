use Rattle.std.proofs.Common.{◌+◌, ◌-◌, ◌∙◌, true, IsTrue, sym, subst, arith}
use Rattle.edge.proofs.Counts.{at_most_of}
use Rattle.edge.proofs.Steps.{from_start}
use Rattle.fixpoint.specs.Slots.{head_of}
use Rattle.fixpoint.specs.Fixpoints.{Fixpoint, IsOldOrNew, HasNew, gate_writes}
use Rattle.fixpoint.proofs.Phases.{at_start, upto1, upto2, upto3, upto4, all_new}
use Rattle.fixpoint.proofs.Totals.{four_parts, so_far}
use Rattle.fixpoint.proofs.fix.Fix.commit.Goals as goal

pub returns-in_err-close_gate-clause-any_moment : goal.returns-in_err-close_gate-clause-any_moment
returns-in_err-close_gate-clause-any_moment g c = rw (← c.self.view_is) (λ s told fits.
    let d = g.D.Disk in
    let i = g.I.Image in
    let fix : Fixpoint =
    record { slot = c.self.inside.slot; sequence = c.self.inside.sequence; root = c.self.inside.root; other_open = c.self.inside.other_open } in
    let root = i.root_of c.args.image.now in
    let count = i.count_of c.args.image.now in
    let place = i.place_of c.args.image.now in
    let page = i.page_of c.args.image.now in
    let are = c.requires.places in
    let written = gate_writes fix.other_open in
    let step1 = c.close_gate.ensures.step s told in
    from_start d.state d.moment d.left_since g.met.D.Disk.only_now c.args.disk.now c.close_gate.new.disk s (IsOldOrNew fix root count place page s.content) told
    (at_start fix root count place page are s fits)
    (upto1 fix root count place page are s fits d.state d.moment d.left_since written c.args.disk.now c.close_gate.new.disk step1))

pub returns-in_err-write_pages-clause-any_moment : goal.returns-in_err-write_pages-clause-any_moment
returns-in_err-write_pages-clause-any_moment g c = rw (← c.self.view_is) (λ s told fits.
    let d = g.D.Disk in
    let i = g.I.Image in
    let fix : Fixpoint =
    record { slot = c.self.inside.slot; sequence = c.self.inside.sequence; root = c.self.inside.root; other_open = c.self.inside.other_open } in
    let root = i.root_of c.args.image.now in
    let count = i.count_of c.args.image.now in
    let place = i.place_of c.args.image.now in
    let page = i.page_of c.args.image.now in
    let are = c.requires.places in
    let written = gate_writes fix.other_open in
    let step1 = c.close_gate.ensures.step s told in
    let settled1 = c.in_ok-close_gate.ensures.settled step1.reached step1.told in
    let shut1 = λ (is : IsTrue fix.other_open). c.in_ok-close_gate.ensures.closed is step1.reached step1.told in
    let step2 = c.write_pages.ensures.step step1.reached step1.told in
    from_start d.state d.moment d.left_since g.met.D.Disk.only_now c.args.disk.now c.write_pages.new.disk s (IsOldOrNew fix root count place page s.content)
    told
    (at_start fix root count place page are s fits)
    (upto2 fix root count place page are s fits d.state d.moment d.left_since written c.args.disk.now c.close_gate.new.disk step1 settled1 shut1
    c.write_pages.new.disk step2))

pub returns-in_err-write_head-clause-any_moment : goal.returns-in_err-write_head-clause-any_moment
returns-in_err-write_head-clause-any_moment g c = rw (← c.self.view_is) (λ s told fits.
    let d = g.D.Disk in
    let i = g.I.Image in
    let fix : Fixpoint =
    record { slot = c.self.inside.slot; sequence = c.self.inside.sequence; root = c.self.inside.root; other_open = c.self.inside.other_open } in
    let root = i.root_of c.args.image.now in
    let count = i.count_of c.args.image.now in
    let place = i.place_of c.args.image.now in
    let page = i.page_of c.args.image.now in
    let are = c.requires.places in
    let written = gate_writes fix.other_open in
    let step1 = c.close_gate.ensures.step s told in
    let settled1 = c.in_ok-close_gate.ensures.settled step1.reached step1.told in
    let shut1 = λ (is : IsTrue fix.other_open). c.in_ok-close_gate.ensures.closed is step1.reached step1.told in
    let step2 = c.write_pages.ensures.step step1.reached step1.told in
    let step3 = c.write_head.ensures.step step2.reached step2.told in
    from_start d.state d.moment d.left_since g.met.D.Disk.only_now c.args.disk.now c.write_head.new.disk s (IsOldOrNew fix root count place page s.content) told
    (at_start fix root count place page are s fits)
    (upto3 fix root count place page are s fits d.state d.moment d.left_since written c.args.disk.now c.close_gate.new.disk step1 settled1 shut1
    c.write_pages.new.disk step2 c.write_head.new.disk step3))

pub returns-in_err-open_gate-clause-any_moment : goal.returns-in_err-open_gate-clause-any_moment
returns-in_err-open_gate-clause-any_moment g c = rw (← c.self.view_is) (λ s told fits.
    let d = g.D.Disk in
    let i = g.I.Image in
    let fix : Fixpoint =
    record { slot = c.self.inside.slot; sequence = c.self.inside.sequence; root = c.self.inside.root; other_open = c.self.inside.other_open } in
    let root = i.root_of c.args.image.now in
    let count = i.count_of c.args.image.now in
    let place = i.place_of c.args.image.now in
    let page = i.page_of c.args.image.now in
    let are = c.requires.places in
    let written = gate_writes fix.other_open in
    let step1 = c.close_gate.ensures.step s told in
    let settled1 = c.in_ok-close_gate.ensures.settled step1.reached step1.told in
    let shut1 = λ (is : IsTrue fix.other_open). c.in_ok-close_gate.ensures.closed is step1.reached step1.told in
    let step2 = c.write_pages.ensures.step step1.reached step1.told in
    let step3 = c.write_head.ensures.step step2.reached step2.told in
    let pages = c.in_ok-write_pages.ensures.pages step2.reached step2.told in
    let settled3 = c.in_ok-write_head.ensures.settled step3.reached step3.told in
    let head = c.in_ok-write_head.ensures.head step3.reached step3.told ∙ (λ k. head_of (c.next-sequence.ensures k) (c.root-root.ensures k)) in
    let step4 = c.open_gate.ensures.step step3.reached step3.told in
    from_start d.state d.moment d.left_since g.met.D.Disk.only_now c.args.disk.now c.open_gate.new.disk s (IsOldOrNew fix root count place page s.content) told
    (at_start fix root count place page are s fits)
    (upto4 fix root count place page are s fits d.state d.moment d.left_since written c.args.disk.now c.close_gate.new.disk step1 settled1 shut1
    c.write_pages.new.disk step2 c.write_head.new.disk step3 pages settled3 head c.open_gate.new.disk step4))

pub returns-clause-any_moment : goal.returns-clause-any_moment
returns-clause-any_moment g c = rw (← c.self.view_is) (λ s told fits.
    let d = g.D.Disk in
    let i = g.I.Image in
    let fix : Fixpoint =
    record { slot = c.self.inside.slot; sequence = c.self.inside.sequence; root = c.self.inside.root; other_open = c.self.inside.other_open } in
    let root = i.root_of c.args.image.now in
    let count = i.count_of c.args.image.now in
    let place = i.place_of c.args.image.now in
    let page = i.page_of c.args.image.now in
    let are = c.requires.places in
    let written = gate_writes fix.other_open in
    let step1 = c.close_gate.ensures.step s told in
    let settled1 = c.in_ok-close_gate.ensures.settled step1.reached step1.told in
    let shut1 = λ (is : IsTrue fix.other_open). c.in_ok-close_gate.ensures.closed is step1.reached step1.told in
    let step2 = c.write_pages.ensures.step step1.reached step1.told in
    let step3 = c.write_head.ensures.step step2.reached step2.told in
    let pages = c.in_ok-write_pages.ensures.pages step2.reached step2.told in
    let settled3 = c.in_ok-write_head.ensures.settled step3.reached step3.told in
    let head = c.in_ok-write_head.ensures.head step3.reached step3.told ∙ (λ k. head_of (c.next-sequence.ensures k) (c.root-root.ensures k)) in
    let step4 = c.open_gate.ensures.step step3.reached step3.told in
    from_start d.state d.moment d.left_since g.met.D.Disk.only_now c.args.disk.now c.open_gate.new.disk s (IsOldOrNew fix root count place page s.content) told
    (at_start fix root count place page are s fits)
    (upto4 fix root count place page are s fits d.state d.moment d.left_since written c.args.disk.now c.close_gate.new.disk step1 settled1 shut1
    c.write_pages.new.disk step2 c.write_head.new.disk step3 pages settled3 head c.open_gate.new.disk step4))

pub returns-in_err-close_gate-clause-at_most : goal.returns-in_err-close_gate-clause-at_most
returns-in_err-close_gate-clause-at_most g c = rw (← c.self.view_is) (λ s told.
    let d = g.D.Disk in
    let i = g.I.Image in
    let count = i.count_of c.args.image.now in
    let gate = gate_writes c.self.inside.other_open in
    let total = count + 2 + gate in
    let step1 = c.close_gate.ensures.step s told in
    (step1.reached, step1.told, at_most_of 0 gate 1 0 total 3 s step1.reached (omega arith) (omega arith) (omega arith) step1.calls))

pub returns-in_err-write_pages-clause-at_most : goal.returns-in_err-write_pages-clause-at_most
returns-in_err-write_pages-clause-at_most g c = rw (← c.self.view_is) (λ s told.
    let d = g.D.Disk in
    let i = g.I.Image in
    let count = i.count_of c.args.image.now in
    let gate = gate_writes c.self.inside.other_open in
    let total = count + 2 + gate in
    let step1 = c.close_gate.ensures.step s told in
    let step2 = c.write_pages.ensures.step step1.reached step1.told in
    let second =
    so_far d.state d.moment d.left_since gate 1 count 0 (gate + count) 1 c.close_gate.new.disk c.write_pages.new.disk _ s step1.reached step1.calls step2
    (omega arith) (omega arith) in
    (step2.reached, step2.told, at_most_of 0 (gate + count) 1 0 total 3 s step2.reached (omega arith) (omega arith) (omega arith) second))

pub returns-in_err-write_head-clause-at_most : goal.returns-in_err-write_head-clause-at_most
returns-in_err-write_head-clause-at_most g c = rw (← c.self.view_is) (λ s told.
    let d = g.D.Disk in
    let i = g.I.Image in
    let count = i.count_of c.args.image.now in
    let gate = gate_writes c.self.inside.other_open in
    let total = count + 2 + gate in
    let step1 = c.close_gate.ensures.step s told in
    let step2 = c.write_pages.ensures.step step1.reached step1.told in
    let second =
    so_far d.state d.moment d.left_since gate 1 count 0 (gate + count) 1 c.close_gate.new.disk c.write_pages.new.disk _ s step1.reached step1.calls step2
    (omega arith) (omega arith) in
    let step3 = c.write_head.ensures.step step2.reached step2.told in
    let third =
    so_far d.state d.moment d.left_since (gate + count) 1 1 1 (gate + count + 1) 2 c.write_pages.new.disk c.write_head.new.disk _ s step2.reached second
    step3 (omega arith) (omega arith) in
    (step3.reached, step3.told, at_most_of 0 (gate + count + 1) 2 0 total 3 s step3.reached (omega arith) (omega arith) (omega arith) third))

pub returns-in_err-open_gate-clause-at_most : goal.returns-in_err-open_gate-clause-at_most
returns-in_err-open_gate-clause-at_most g c = rw (← c.self.view_is) (λ s told.
    let d = g.D.Disk in
    let i = g.I.Image in
    let count = i.count_of c.args.image.now in
    let gate = gate_writes c.self.inside.other_open in
    let total = count + 2 + gate in
    let step1 = c.close_gate.ensures.step s told in
    let step2 = c.write_pages.ensures.step step1.reached step1.told in
    let second =
    so_far d.state d.moment d.left_since gate 1 count 0 (gate + count) 1 c.close_gate.new.disk c.write_pages.new.disk _ s step1.reached step1.calls step2
    (omega arith) (omega arith) in
    let step3 = c.write_head.ensures.step step2.reached step2.told in
    let third =
    so_far d.state d.moment d.left_since (gate + count) 1 1 1 (gate + count + 1) 2 c.write_pages.new.disk c.write_head.new.disk _ s step2.reached second
    step3 (omega arith) (omega arith) in
    let step4 = c.open_gate.ensures.step step3.reached step3.told in
    let fourth =
    so_far d.state d.moment d.left_since (gate + count + 1) 2 1 1 (gate + count + 2) 3 c.write_head.new.disk c.open_gate.new.disk _ s step3.reached third
    step4 (omega arith) (omega arith) in
    (step4.reached, step4.told, at_most_of 0 (gate + count + 2) 3 0 total 3 s step4.reached (omega arith) (omega arith) (omega arith) fourth))

pub returns-clause-at_most : goal.returns-clause-at_most
returns-clause-at_most g c = rw (← c.self.view_is) (λ s told.
    let d = g.D.Disk in
    let i = g.I.Image in
    let count = i.count_of c.args.image.now in
    let gate = gate_writes c.self.inside.other_open in
    let total = count + 2 + gate in
    let step1 = c.close_gate.ensures.step s told in
    let step2 = c.write_pages.ensures.step step1.reached step1.told in
    let second =
    so_far d.state d.moment d.left_since gate 1 count 0 (gate + count) 1 c.close_gate.new.disk c.write_pages.new.disk _ s step1.reached step1.calls step2
    (omega arith) (omega arith) in
    let step3 = c.write_head.ensures.step step2.reached step2.told in
    let third =
    so_far d.state d.moment d.left_since (gate + count) 1 1 1 (gate + count + 1) 2 c.write_pages.new.disk c.write_head.new.disk _ s step2.reached second
    step3 (omega arith) (omega arith) in
    let step4 = c.open_gate.ensures.step step3.reached step3.told in
    let fourth =
    so_far d.state d.moment d.left_since (gate + count + 1) 2 1 1 (gate + count + 2) 3 c.write_head.new.disk c.open_gate.new.disk _ s step3.reached third
    step4 (omega arith) (omega arith) in
    (step4.reached, step4.told, at_most_of 0 (gate + count + 2) 3 0 total 3 s step4.reached (omega arith) (omega arith) (omega arith) fourth))

pub returns-clause-calls : goal.returns-clause-calls
returns-clause-calls g c = rw (← c.self.view_is) (λ s told.
    let count = g.I.Image.count_of c.args.image.now in
    let gate = gate_writes c.self.inside.other_open in
    let step1 = c.close_gate.ensures.step s told in
    let step2 = c.write_pages.ensures.step step1.reached step1.told in
    let step3 = c.write_head.ensures.step step2.reached step2.told in
    let step4 = c.open_gate.ensures.step step3.reached step3.told in (
      step4.reached,
      step4.told,
      four_parts gate 1 count (count + 2 + gate) 3 s step1.reached step2.reached step3.reached step4.reached
          (c.in_ok-close_gate.ensures.calls s told step1.reached step1.told)
          (c.in_ok-write_pages.ensures.calls step1.reached step1.told step2.reached step2.told)
          (c.in_ok-write_head.ensures.calls step2.reached step2.told step3.reached step3.told)
          (c.in_ok-open_gate.ensures.calls step3.reached step3.told step4.reached step4.told)
          (omega arith) (omega arith),
    ))

pub returns-clause-ok : goal.returns-clause-ok
returns-clause-ok g c = rw (← c.self.view_is) (λ s told fits.
    let d = g.D.Disk in
    let i = g.I.Image in
    let fix : Fixpoint =
    record { slot = c.self.inside.slot; sequence = c.self.inside.sequence; root = c.self.inside.root; other_open = c.self.inside.other_open } in
    let root = i.root_of c.args.image.now in
    let count = i.count_of c.args.image.now in
    let place = i.place_of c.args.image.now in
    let page = i.page_of c.args.image.now in
    let are = c.requires.places in
    let written = gate_writes fix.other_open in
    let step1 = c.close_gate.ensures.step s told in
    let settled1 = c.in_ok-close_gate.ensures.settled step1.reached step1.told in
    let shut1 = λ (is : IsTrue fix.other_open). c.in_ok-close_gate.ensures.closed is step1.reached step1.told in
    let step2 = c.write_pages.ensures.step step1.reached step1.told in
    let step3 = c.write_head.ensures.step step2.reached step2.told in
    let pages = c.in_ok-write_pages.ensures.pages step2.reached step2.told in
    let settled3 = c.in_ok-write_head.ensures.settled step3.reached step3.told in
    let head = c.in_ok-write_head.ensures.head step3.reached step3.told ∙ (λ k. head_of (c.next-sequence.ensures k) (c.root-root.ensures k)) in
    let step4 = c.open_gate.ensures.step step3.reached step3.told in
    let settled4 = c.in_ok-open_gate.ensures.settled step4.reached step4.told in
    let opened = c.in_ok-open_gate.ensures.opened step4.reached step4.told in
    let new =
    all_new fix root count place page are s fits d.state d.moment d.left_since written c.args.disk.now c.close_gate.new.disk step1 settled1 shut1
    c.write_pages.new.disk step2 c.write_head.new.disk step3 pages settled3 head c.open_gate.new.disk step4 settled4 opened in (
      step4.reached,
      step4.told,
      subst (λ (f : Fixpoint). HasNew f count place page s step4.reached)
          (λ k. record { slot = 1 - fix.slot; sequence = sym c.next-sequence.ensures k; root = sym c.root-root.ensures k; other_open = true }) new,
    ))
