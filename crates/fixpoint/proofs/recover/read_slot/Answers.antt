use Rattle.std.proofs.Common.{◌≡◌, ◌==◌, ◌+◌, ◌∙◌, true, get_or, sym, rules, ap, subst, arith, List, ℕ}
use Rattle.edge.specs.Moments.{Nowhere}
use Rattle.edge.proofs.Steps.{step_more, step_within}
use Rattle.fixpoint.specs.Slots.{is_open, IsHead}
use Rattle.fixpoint.proofs.recover.read_slot.Goals as goal

pub returns-in_err-read_block-clause-step : goal.returns-in_err-read_block-clause-step
returns-in_err-read_block-clause-step g c = λ s told.
    let d = g.D.Disk in
    step_within d.state d.moment d.left_since 1 0 0 2 0 0 c.args.disk.now c.read_block.new.disk Nowhere Nowhere s (λ block none. none) (omega arith)
    (omega arith) (omega arith) (c.read_block.ensures.step s told)

pub returns-then-block-ne1-clause-step : goal.returns-then-block-ne1-clause-step
returns-then-block-ne1-clause-step g c = λ s told.
    let d = g.D.Disk in
    step_within d.state d.moment d.left_since 1 0 0 2 0 0 c.args.disk.now c.read_block.new.disk Nowhere Nowhere s (λ block none. none) (omega arith)
    (omega arith) (omega arith) (c.read_block.ensures.step s told)

pub returns-in_err-read_block-2-clause-step : goal.returns-in_err-read_block-2-clause-step
returns-in_err-read_block-2-clause-step g c = λ s told.
    let d = g.D.Disk in
    let first = c.read_block.ensures.step s told in
    step_more d.state d.moment d.left_since 1 0 0 1 0 0 c.args.disk.now c.read_block.new.disk c.read_block-2.new.disk Nowhere s first
    (c.read_block-2.ensures.step first.reached first.told)

pub returns-in-Some-clause-step : goal.returns-in-Some-clause-step
returns-in-Some-clause-step g c = λ s told.
    let d = g.D.Disk in
    let first = c.read_block.ensures.step s told in
    step_more d.state d.moment d.left_since 1 0 0 1 0 0 c.args.disk.now c.read_block.new.disk c.read_block-2.new.disk Nowhere s first
    (c.read_block-2.ensures.step first.reached first.told)

pub returns-in-None-clause-step : goal.returns-in-None-clause-step
returns-in-None-clause-step g c = λ s told.
    let d = g.D.Disk in
    let first = c.read_block.ensures.step s told in
    step_more d.state d.moment d.left_since 1 0 0 1 0 0 c.args.disk.now c.read_block.new.disk c.read_block-2.new.disk Nowhere s first
    (c.read_block-2.ensures.step first.reached first.told)

pub returns-in-Some-clause-found : goal.returns-in-Some-clause-found
returns-in-Some-clause-found g c = λ s told.
    let first = c.read_block.ensures.step s told in
    let gate = c.in_ok-read_block.ensures.bytes s told in
    let head = c.in_ok-read_block-2.ensures.bytes first.reached first.told ∙ first.only.content (2 + c.args.slot) (λ none. none) in
    let is_one : get_or c.read_block.new.into 0 0 ≡ 1 = search rules in
    let opened : is_open s.content c.args.slot ≡ true = ap (λ (l : List ℕ). get_or l 0 0 == 1) (sym gate) ∙ ap (λ (n : ℕ). n == 1) is_one in
    (opened, subst (λ (l : List ℕ). IsHead l c.in-Some.head.sequence c.in-Some.head.root) head c.in-Some.ensures.some)

pub returns-in-None-clause-found : goal.returns-in-None-clause-found
returns-in-None-clause-found g c = λ s told.
    let first = c.read_block.ensures.step s told in
    let gate = c.in_ok-read_block.ensures.bytes s told in
    let head = c.in_ok-read_block-2.ensures.bytes first.reached first.told ∙ first.only.content (2 + c.args.slot) (λ none. none) in
    let is_one : get_or c.read_block.new.into 0 0 ≡ 1 = search rules in
    let opened : is_open s.content c.args.slot ≡ true = ap (λ (l : List ℕ). get_or l 0 0 == 1) (sym gate) ∙ ap (λ (n : ℕ). n == 1) is_one in
    (opened, λ sequence root is. c.in-None.ensures.none sequence root (subst (λ (l : List ℕ). IsHead l sequence root) (sym head) is))
