use Rattle.live_system.specs.Below.system_meaning.specs.Systems.{Moment}
use Rattle.std.specs.Option.{option_copied}
use Rattle.live_system.specs.Below.system_meaning.specs.Supervisor.{coupling_refusal}
use Rattle.live_system.proofs.Moments.{looked}
use Rattle.live_system.proofs.system.System.coupling_refusal.Goals as goal

pub returns : goal.returns
returns c =
    looked c.self.inside.desk c.self.inside.packets c.self.inside.tasks c.args.self.now c.self.view_is
    (λ (m : Moment). coupling_refusal c.args.task m.system) (option_copied c.coupling_refusal.result) (λ owns. c.coupling_refusal.ensures c.self.inside.packets owns)
