use Rattle.std.proofs.Common.{None, Some, ap, ◌∙◌}
use Rattle.eu_base.specs.declared.request.Request.{Request}
use Rattle.live_system.specs.Below.system_meaning.specs.Systems.{System, requested}
use Rattle.live_packets.specs.Packets.{kinds_in}
use Rattle.live_system.proofs.Moments.{system_looked}
use Rattle.live_system.proofs.system.System.requested.Goals as goal

pub returns-in-None : goal.returns-in-None
returns-in-None c =
    system_looked c.self.inside.desk c.self.inside.packets c.self.inside.tasks c.args.self.now c.self.view_is
    (λ (s : System). requested c.args.task s) None
    (λ owns many stand. c.in-None.ensures many (kinds_in c.self.inside.packets) c.self.inside.packets owns stand)

pub returns-in_ok-try_clone-in-Some : goal.returns-in_ok-try_clone-in-Some
returns-in_ok-try_clone-in-Some c =
    system_looked c.self.inside.desk c.self.inside.packets c.self.inside.tasks c.args.self.now c.self.view_is
    (λ (s : System). requested c.args.task s) (Some c.in_ok-try_clone-in-Some.field-0)
    (λ owns many stand. ap (λ (q : Request). Some q) c.in_ok-try_clone-in-Some.ensures
    ∙ c.in-Some.ensures many (kinds_in c.self.inside.packets) c.self.inside.packets owns stand)
