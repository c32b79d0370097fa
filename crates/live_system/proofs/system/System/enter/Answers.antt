use Rattle.std.proofs.lemmas.Result.{on_ok_weaker}
use Rattle.std.proofs.Common.{[]}
use Rattle.live_system.specs.Below.system_meaning.specs.Tasks.{Idle, Entering}
use Rattle.live_packets.specs.Packets.{kinds_in}
use Rattle.live_system.proofs.Moments.{idle_does, none_does}
use Rattle.live_system.proofs.system.System.enter.Goals as goal

pub returns-in-None : goal.returns-in-None
returns-in-None c = λ m store does_so free s.
    absurd (none_does c.self.inside.desk c.self.inside.packets c.self.inside.tasks c.args.self.now c.self.view_is c.args.task c.in-None.ensures.place m (Idle store) does_so s)

pub returns-in-Some : goal.returns-in-Some
returns-in-Some c =
    on_ok_weaker c.enter.result
    (λ changed m store does_so free s. idle_does c.self.inside.desk c.self.inside.packets c.self.inside.tasks c.args.self.now c.self.view_is
    c.args.task c.in-Some.place c.in-Some.ensures.place c.in-Some.ensures.within m (Idle store) (Entering c.args.name.now [] store) does_so s c.enter.new.self
    (λ owns o stand has is. changed (kinds_in c.self.inside.packets) owns o store stand has is free))
    c.enter.ensures
