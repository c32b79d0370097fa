use Rattle.live_system.specs.Below.system_meaning.specs.Tasks.{Entering}
use Rattle.live_packets.specs.Packets.{kinds_in}
use Rattle.live_system.proofs.Moments.{none_does, found_doing}
use Rattle.live_system.proofs.system.System.has_room.Goals as goal

pub returns-in-None : goal.returns-in-None
returns-in-None c = λ m name lines store does_so s.
    absurd (none_does c.self.inside.desk c.self.inside.packets c.self.inside.tasks c.args.self.now c.self.view_is c.args.task c.in-None.ensures.place m (Entering name lines store) does_so s)

pub returns-in-Some : goal.returns-in-Some
returns-in-Some c = λ m name lines store does_so s.
    found_doing c.self.inside.desk c.self.inside.packets c.self.inside.tasks c.args.self.now c.self.view_is
    c.args.task c.in-Some.place c.in-Some.ensures.place c.in-Some.ensures.within m (Entering name lines store) does_so s
    (λ owns o stand has is. c.has_room.ensures (kinds_in c.self.inside.packets) owns o name lines store stand has is)
