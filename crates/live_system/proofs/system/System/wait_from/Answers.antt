use Rattle.std.proofs.Common.{Some, refl, sym, ◌∙◌}
use Rattle.std.proofs.lemmas.Bool.{false≢true}
use Rattle.message_wait.specs.Rendezvous as rendezvous
use Rattle.live_system.specs.Below.system_meaning.specs.Systems.{on_system, on_waits}
use Rattle.live_system.proofs.Moments.{stepped}
use Rattle.live_system.proofs.Waiting.{can_so, can_wait_at}
use Rattle.live_system.proofs.system.System.wait_from.Goals as goal

pub wait_from-requires : goal.wait_from-requires
wait_from-requires c =
    let can = can_so c.args.task c.self.inside.desk c.can_wait.result c.can_wait.ensures c.if-can_wait.true in
    record { live = can.0; free = can.1 }

pub returns-then-can_wait : goal.returns-then-can_wait
returns-then-can_wait c = λ m live free s.
    stepped c.self.inside.desk c.self.inside.packets c.self.inside.tasks c.args.self.now c.self.view_is
    (on_system (on_waits (rendezvous.entered (record { task = c.args.task; of = Some c.args.of })))) (λ n. refl) c.wait_from.new.self c.wait_from.ensures m s

pub returns-else-can_wait : goal.returns-else-can_wait
returns-else-can_wait c = λ m live free s.
    absurd (false≢true (sym c.if-can_wait.false
    ∙ can_wait_at c.self.inside.desk c.self.inside.packets c.self.inside.tasks c.args.self.now c.self.view_is c.args.task c.can_wait.result c.can_wait.ensures m s live free))
