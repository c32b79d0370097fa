use Rattle.std.proofs.Common.{ℤ, refl, sym, ◌∙◌, subst}
use Rattle.std.specs.Int.{w16}
use Rattle.std.proofs.lemmas.Int.{to_z-of_z}
use Rattle.std.proofs.lemmas.Bool.{false≢true}
use Rattle.message_wait.specs.Rendezvous as rendezvous
use Rattle.live_system.specs.Below.task_desk.specs.Desks.{Makes}
use Rattle.live_system.specs.Below.system_meaning.specs.Systems.{Moment, on_system, on_waits}
use Rattle.live_system.proofs.Moments.{looked, stepped}
use Rattle.live_system.proofs.Waiting.{can_so, can_wait_at}
use Rattle.live_system.proofs.system.System.offer.Goals as goal

pub offer-requires : goal.offer-requires
offer-requires c =
    let can = can_so c.args.from c.self.inside.desk c.can_wait.result c.can_wait.ensures c.if-can_wait.true in
    record { live = can.0; free = can.1 }

pub returns-then-can_wait-clause-answer : goal.returns-then-can_wait-clause-answer
returns-then-can_wait-clause-answer c = λ m live free s.
    looked c.self.inside.desk c.self.inside.packets c.self.inside.tasks c.args.self.now c.self.view_is
    (λ (n : Moment). rendezvous.offer c.args.from c.args.to c.args.queue n.system.shared.waits) c.offer.result (λ owns. c.offer.ensures.answer) m s

pub returns-then-can_wait-clause-after : goal.returns-then-can_wait-clause-after
returns-then-can_wait-clause-after c = λ m live free s.
    stepped c.self.inside.desk c.self.inside.packets c.self.inside.tasks c.args.self.now c.self.view_is
    (on_system (on_waits (rendezvous.offered (record { from = c.args.from; to = c.args.to; code = c.args.code }) c.args.queue))) (λ n. refl)
    c.offer.new.self
    (subst (λ (code : ℤ). Makes (on_system (on_waits (rendezvous.offered (record { from = c.args.from; to = c.args.to; code = code }) c.args.queue)))
    c.self.inside.desk c.offer.new.self)
    (to_z-of_z w16 c.args.code c.ranges.code) c.offer.ensures.after) m s

pub returns-else-can_wait-clause-answer : goal.returns-else-can_wait-clause-answer
returns-else-can_wait-clause-answer c = λ m live free s.
    absurd (false≢true (sym c.if-can_wait.false
    ∙ can_wait_at c.self.inside.desk c.self.inside.packets c.self.inside.tasks c.args.self.now c.self.view_is c.args.from c.can_wait.result c.can_wait.ensures m s live free))

pub returns-else-can_wait-clause-after : goal.returns-else-can_wait-clause-after
returns-else-can_wait-clause-after c = λ m live free s.
    absurd (false≢true (sym c.if-can_wait.false
    ∙ can_wait_at c.self.inside.desk c.self.inside.packets c.self.inside.tasks c.args.self.now c.self.view_is c.args.from c.can_wait.result c.can_wait.ensures m s live free))
