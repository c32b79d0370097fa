use Rattle.std.proofs.Common.{◌≡◌, sym, subst, arith}
use Rattle.edge.specs.Disk.{Blocks}
use Rattle.edge.specs.Moments.{Nowhere}
use Rattle.edge.proofs.Steps.{step_more, step_within}
use Rattle.fixpoint.specs.Fixpoints.{Holds}
use Rattle.fixpoint.specs.Found.{IsFound}
use Rattle.fixpoint.proofs.Heads.{one_taken, foreign_none}
use Rattle.fixpoint.proofs.fix.Fix.recover.Goals as goal

pub returns-in_default-clause-step : goal.returns-in_default-clause-step
returns-in_default-clause-step g c = λ s told.
    let d = g.D.Disk in
    step_within d.state d.moment d.left_since 2 0 0 4 0 0 c.args.disk.now c.read_slot.new.disk Nowhere Nowhere s (λ block none. none) (omega arith)
    (omega arith) (omega arith) (c.read_slot.ensures.step s told)

pub returns-in_default-read_slot-clause-step : goal.returns-in_default-read_slot-clause-step
returns-in_default-read_slot-clause-step g c = λ s told.
    let d = g.D.Disk in
    let first = c.read_slot.ensures.step s told in
    step_more d.state d.moment d.left_since 2 0 0 2 0 0 c.args.disk.now c.read_slot.new.disk c.read_slot-2.new.disk Nowhere s first
    (c.read_slot-2.ensures.step first.reached first.told)

pub returns-in-Some-clause-step : goal.returns-in-Some-clause-step
returns-in-Some-clause-step g c = λ s told.
    let d = g.D.Disk in
    let first = c.read_slot.ensures.step s told in
    step_more d.state d.moment d.left_since 2 0 0 2 0 0 c.args.disk.now c.read_slot.new.disk c.read_slot-2.new.disk Nowhere s first
    (c.read_slot-2.ensures.step first.reached first.told)

pub returns-in-None-clause-step : goal.returns-in-None-clause-step
returns-in-None-clause-step g c = λ s told.
    let d = g.D.Disk in
    let first = c.read_slot.ensures.step s told in
    step_more d.state d.moment d.left_since 2 0 0 2 0 0 c.args.disk.now c.read_slot.new.disk c.read_slot-2.new.disk Nowhere s first
    (c.read_slot-2.ensures.step first.reached first.told)

pub returns-in-Some-clause-ok : goal.returns-in-Some-clause-ok
returns-in-Some-clause-ok g c = λ s told.
    let first = c.read_slot.ensures.step s told in
    let same : first.reached.content ≡ s.content = λ i block. first.only.content block (λ none. none) i in
    let second = subst (λ (content : Blocks). IsFound content 1 c.in-Ok-read_slot.second) same (c.in-Ok-read_slot.ensures.found first.reached first.told) in
    c.in-Some.ensures.some s.content (c.in-Ok.ensures.found s told) second

pub returns-in-Some-clause-only : goal.returns-in-Some-clause-only
returns-in-Some-clause-only g c = λ s told slot sequence root taken.
    let fix = c.in-Some.fix in
    one_taken s.content slot sequence root fix.slot fix.sequence fix.root taken (returns-in-Some-clause-ok g c s told).taken

pub returns-in-Some-clause-not_foreign : goal.returns-in-Some-clause-not_foreign
returns-in-Some-clause-not_foreign g c = λ s told foreign.
    let fix = c.in-Some.fix in
    foreign_none s.content foreign fix.slot fix.sequence fix.root (returns-in-Some-clause-ok g c s told).taken

pub returns-in-None-clause-foreign : goal.returns-in-None-clause-foreign
returns-in-None-clause-foreign g c = λ _ s told.
    let first = c.read_slot.ensures.step s told in
    let same : first.reached.content ≡ s.content = λ i block. first.only.content block (λ none. none) i in
    let second = subst (λ (content : Blocks). IsFound content 1 c.in-Ok-read_slot.second) same (c.in-Ok-read_slot.ensures.found first.reached first.told) in
    c.in-None.ensures.none s.content (c.in-Ok.ensures.found s told) second

pub returns-in-None-clause-none : goal.returns-in-None-clause-none
returns-in-None-clause-none g c = λ is s told slot sequence root. foreign_none s.content (returns-in-None-clause-foreign g c is s told) slot sequence root

pub returns-in-Some-clause-fits : goal.returns-in-Some-clause-fits
returns-in-Some-clause-fits g c = λ s told settled.
    let step = returns-in-Some-clause-step g c s told in
    let fix = c.in-Some.fix in
    let same : s.content ≡ step.reached.content = λ i block. sym (step.only.content block (λ none. none)) i in (
      step.reached,
      step.told,
      record {
        settled = λ block. step.only.written block (λ none. none) (settled block);
        holds = subst (λ (content : Blocks). Holds fix content) same (returns-in-Some-clause-ok g c s told);
      },
    )
