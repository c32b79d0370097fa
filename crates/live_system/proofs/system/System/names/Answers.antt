use Rattle.std.proofs.Common.{Option}
use Rattle.std.proofs.lemmas.Result.{IfOk-weaker}
use Rattle.live_system.specs.Below.system_meaning.specs.Tasks.{Doing}
use Rattle.live_system.specs.Below.system_meaning.specs.Systems.{kept_by}
use Rattle.live_system.specs.Below.system_meaning.specs.Monitor.{directory_of}
use Rattle.live_system.proofs.Moments.{none_looked, task_looked}
use Rattle.live_system.proofs.system.System.names.Goals as goal

pub returns-in-None : goal.returns-in-None
returns-in-None c =
    none_looked c.self.inside.desk c.self.inside.packets c.self.inside.tasks c.args.self.now c.self.view_is
    (λ (d : Option Doing). directory_of (kept_by d)) c.args.task c.in-None.ensures.place c.new.result c.new.ensures

pub returns-in-Some : goal.returns-in-Some
returns-in-Some c =
    IfOk-weaker c.names.result _ _
    (λ names are. task_looked c.self.inside.desk c.self.inside.packets c.self.inside.tasks c.args.self.now c.self.view_is
    (λ (d : Option Doing). directory_of (kept_by d)) c.args.task c.in-Some.place c.in-Some.ensures.place c.in-Some.ensures.within names are)
    c.names.ensures
