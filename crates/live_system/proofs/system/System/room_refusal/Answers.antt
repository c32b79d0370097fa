use Rattle.std.proofs.Common.{None, Option, refl}
use Rattle.eu_base.specs.DataSpaces.{heads_of}
use Rattle.eu_base.specs.SpaceOperations.{room_refusal}
use Rattle.live_system.specs.Below.system_meaning.specs.Tasks.{Doing}
use Rattle.live_system.specs.Below.system_meaning.specs.Systems.{kept_by}
use Rattle.live_system.proofs.Moments.{none_looked, task_looked}
use Rattle.live_system.proofs.system.System.room_refusal.Goals as goal

pub returns-in-Some : goal.returns-in-Some
returns-in-Some c =
    task_looked c.self.inside.desk c.self.inside.packets c.self.inside.tasks c.args.self.now c.self.view_is
    (λ (d : Option Doing). room_refusal (heads_of (kept_by d).spaces)) c.args.task c.in-Some.place c.in-Some.ensures.place c.in-Some.ensures.within c.room_refusal.result
    (λ kinds_of owns o stand has. c.room_refusal.ensures kinds_of owns o stand has)

pub returns-in-None : goal.returns-in-None
returns-in-None c =
    none_looked c.self.inside.desk c.self.inside.packets c.self.inside.tasks c.args.self.now c.self.view_is
    (λ (d : Option Doing). room_refusal (heads_of (kept_by d).spaces)) c.args.task c.in-None.ensures.place None refl
