use Rattle.std.proofs.Common.{Option}
use Rattle.live_system.specs.Below.system_meaning.specs.Stores.{entering_refusal}
use Rattle.live_system.specs.Below.system_meaning.specs.Systems.{kept_by}
use Rattle.live_system.specs.Below.system_meaning.specs.Tasks.{Doing}
use Rattle.live_system.proofs.Moments.{none_looked, task_looked}
use Rattle.live_system.proofs.system.System.entering_refusal.Goals as goal

pub returns-in-None : goal.returns-in-None
returns-in-None c =
    none_looked c.self.inside.desk c.self.inside.packets c.self.inside.tasks c.args.self.now c.self.view_is
    (λ (d : Option Doing). entering_refusal c.args.name.now (kept_by d)) c.args.task c.in-None.ensures.place (c.new_refusal.result) c.new_refusal.ensures

pub returns-in-Some : goal.returns-in-Some
returns-in-Some c =
    task_looked c.self.inside.desk c.self.inside.packets c.self.inside.tasks c.args.self.now c.self.view_is
    (λ (d : Option Doing). entering_refusal c.args.name.now (kept_by d)) c.args.task c.in-Some.place c.in-Some.ensures.place c.in-Some.ensures.within c.entering_refusal.result
    (λ kinds_of owns o stand has. c.entering_refusal.ensures kinds_of owns o stand has)
