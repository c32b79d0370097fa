use Rattle.live_system.specs.Below.system_meaning.specs.Tasks.{Idle, Entering}
use Rattle.live_packets.specs.Packets.{kinds_in}
use Rattle.live_system.proofs.Moments.{idle_does, none_does}
use Rattle.live_system.proofs.system.System.drop_text.Goals as goal

pub returns-in_default : goal.returns-in_default
returns-in_default c = λ m name lines store does_so s.
    absurd (none_does c.self.inside.desk c.self.inside.packets c.self.inside.tasks c.args.self.now c.self.view_is c.args.task c.in_default.ensures.place m (Entering name lines store) does_so s)

pub returns-in-Some : goal.returns-in-Some
returns-in-Some c = λ m name lines store does_so s.
    idle_does c.self.inside.desk c.self.inside.packets c.self.inside.tasks c.args.self.now c.self.view_is
    c.args.task c.in-Some.place c.in-Some.ensures.place c.in-Some.ensures.within m (Entering name lines store) (Idle store) does_so s c.drop_text.new.self
    (λ owns o stand has is. c.drop_text.ensures.dropped (kinds_in c.self.inside.packets) owns o name lines store stand has is)
