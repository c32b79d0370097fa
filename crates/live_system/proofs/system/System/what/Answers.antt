use Rattle.std.proofs.Common.{Option, refl}
use Rattle.live_system.specs.declared.what.What.TheVariants as whats
use Rattle.live_system.specs.What.{what_of}
use Rattle.live_system.specs.Below.system_meaning.specs.Tasks.{Doing}
use Rattle.live_system.proofs.Moments.{none_looked, task_looked}
use Rattle.live_system.proofs.system.System.what.Goals as goal

pub returns-in-None : goal.returns-in-None
returns-in-None c =
    none_looked c.self.inside.desk c.self.inside.packets c.self.inside.tasks c.args.self.now c.self.view_is
    (λ (d : Option Doing). what_of d) c.args.task c.in-None.ensures.place (whats.Gone) refl

pub returns-in-Some : goal.returns-in-Some
returns-in-Some c =
    task_looked c.self.inside.desk c.self.inside.packets c.self.inside.tasks c.args.self.now c.self.view_is
    (λ (d : Option Doing). what_of d) c.args.task c.in-Some.place c.in-Some.ensures.place c.in-Some.ensures.within c.what_at.result
    (λ kinds_of owns o stand has. c.what_at.ensures kinds_of owns o stand has)
