use Rattle.std.proofs.Common.{false, refl, ◌∙◌}
use Rattle.live_system.proofs.Moments.{none_looked, task_looked, running_in, runs_is}
use Rattle.live_system.proofs.system.System.runs.Goals as goal

pub returns-in-None : goal.returns-in-None
returns-in-None c = λ m s.
    none_looked c.self.inside.desk c.self.inside.packets c.self.inside.tasks c.args.self.now c.self.view_is
    running_in c.args.task c.in-None.ensures.place false refl m s
    ∙ runs_is c.args.task m.system

pub returns-in-Some : goal.returns-in-Some
returns-in-Some c = λ m s.
    task_looked c.self.inside.desk c.self.inside.packets c.self.inside.tasks c.args.self.now c.self.view_is
    running_in c.args.task c.in-Some.place c.in-Some.ensures.place c.in-Some.ensures.within c.is_running.result
    (λ kinds_of owns o stand has. c.is_running.ensures kinds_of owns o stand has) m s
    ∙ runs_is c.args.task m.system
