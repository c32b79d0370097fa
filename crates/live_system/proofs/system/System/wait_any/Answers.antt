use Rattle.std.proofs.Common.{refl, sym, ◌∙◌}
use Rattle.std.specs.Option.{option_map}
use Rattle.std.proofs.lemmas.Bool.{false≢true}
use Rattle.message_wait.specs.declared.waits.Caller.{Caller}
use Rattle.message_wait.specs.Rendezvous as rendezvous
use Rattle.live_system.specs.Below.system_meaning.specs.Systems.{Moment, on_system, on_waits}
use Rattle.live_system.proofs.Moments.{looked, stepped}
use Rattle.live_system.proofs.Waiting.{can_so, can_wait_at}
use Rattle.live_system.proofs.system.System.wait_any.Goals as goal

pub wait_any-requires : goal.wait_any-requires
wait_any-requires c =
    let can = can_so c.args.task c.self.inside.desk c.can_wait.result c.can_wait.ensures c.if-can_wait.true in
    record { live = can.0; free = can.1 }

pub returns-then-can_wait-clause-message : goal.returns-then-can_wait-clause-message
returns-then-can_wait-clause-message c = λ m live free s.
    looked c.self.inside.desk c.self.inside.packets c.self.inside.tasks c.args.self.now c.self.view_is
    (λ (n : Moment). option_map (λ (c : Caller). (c.from, c.code)) (rendezvous.first_caller c.args.task n.system.shared.waits)) c.wait_any.result
    (λ owns. c.wait_any.ensures.message) m s

pub returns-then-can_wait-clause-after : goal.returns-then-can_wait-clause-after
returns-then-can_wait-clause-after c = λ m live free s.
    stepped c.self.inside.desk c.self.inside.packets c.self.inside.tasks c.args.self.now c.self.view_is
    (on_system (on_waits (rendezvous.waited c.args.task))) (λ n. refl) c.wait_any.new.self c.wait_any.ensures.after m s

pub returns-else-can_wait-clause-message : goal.returns-else-can_wait-clause-message
returns-else-can_wait-clause-message c = λ m live free s.
    absurd (false≢true (sym c.if-can_wait.false
    ∙ can_wait_at c.self.inside.desk c.self.inside.packets c.self.inside.tasks c.args.self.now c.self.view_is c.args.task c.can_wait.result c.can_wait.ensures m s live free))

pub returns-else-can_wait-clause-after : goal.returns-else-can_wait-clause-after
returns-else-can_wait-clause-after c = λ m live free s.
    absurd (false≢true (sym c.if-can_wait.false
    ∙ can_wait_at c.self.inside.desk c.self.inside.packets c.self.inside.tasks c.args.self.now c.self.view_is c.args.task c.can_wait.result c.can_wait.ensures m s live free))
