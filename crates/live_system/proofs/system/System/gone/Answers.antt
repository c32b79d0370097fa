use Rattle.std.proofs.Common.{refl}
use Rattle.std.proofs.lemmas.Result.{IfOk-weaker, on_ok_weaker}
use Rattle.message_wait.specs.Rendezvous.{waiting_for, released}
use Rattle.live_system.specs.Below.system_meaning.specs.Systems.{Moment, on_system, on_waits}
use Rattle.live_system.proofs.Moments.{looked, stepped}
use Rattle.live_system.proofs.system.System.gone.Goals as goal

pub returns-clause-tasks : goal.returns-clause-tasks
returns-clause-tasks c =
    IfOk-weaker c.gone.result _ _
    (λ tasks is. looked c.self.inside.desk c.self.inside.packets c.self.inside.tasks c.args.self.now c.self.view_is
    (λ (m : Moment). waiting_for c.args.task m.system.shared.waits) tasks (λ owns. is))
    c.gone.ensures.tasks

pub returns-clause-after : goal.returns-clause-after
returns-clause-after c =
    on_ok_weaker c.gone.result
    (λ makes. stepped c.self.inside.desk c.self.inside.packets c.self.inside.tasks c.args.self.now c.self.view_is
    (on_system (on_waits (released c.args.task))) (λ m. refl) c.gone.new.self makes)
    c.gone.ensures.after
