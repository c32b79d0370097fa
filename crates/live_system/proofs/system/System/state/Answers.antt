use Rattle.std.proofs.Common.{Option, refl}
use Rattle.std.specs.Prelude.{codes}
use Rattle.live_system.specs.Below.system_meaning.specs.Supervisor.{state_of}
use Rattle.live_system.specs.Below.system_meaning.specs.Tasks.{Doing}
use Rattle.live_system.proofs.Moments.{none_looked, task_looked}
use Rattle.live_system.proofs.system.System.state.Goals as goal

pub returns-in-None : goal.returns-in-None
returns-in-None c =
    none_looked c.self.inside.desk c.self.inside.packets c.self.inside.tasks c.args.self.now c.self.view_is
    (λ (d : Option Doing). state_of d) c.args.task c.in-None.ensures.place (codes "") refl

pub returns-in-Some : goal.returns-in-Some
returns-in-Some c =
    task_looked c.self.inside.desk c.self.inside.packets c.self.inside.tasks c.args.self.now c.self.view_is
    (λ (d : Option Doing). state_of d) c.args.task c.in-Some.place c.in-Some.ensures.place c.in-Some.ensures.within c.state.result.now
    (λ kinds_of owns o stand has. c.state.ensures kinds_of owns o stand has)
