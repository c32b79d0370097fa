use Rattle.std.proofs.lemmas.Result.{on_ok_weaker}
use Rattle.live_system.specs.Below.source_texts.specs.Sources.{source_space}
use Rattle.live_system.specs.Below.system_meaning.specs.Stores.{with_named}
use Rattle.live_system.specs.Below.system_meaning.specs.Tasks.{Idle, Entering}
use Rattle.live_packets.specs.Packets.{kinds_in}
use Rattle.live_system.proofs.Moments.{idle_does, none_does}
use Rattle.live_system.proofs.system.System.close_text.Goals as goal

pub returns-in-None : goal.returns-in-None
returns-in-None c = λ m name lines store does_so s.
    absurd (none_does c.self.inside.desk c.self.inside.packets c.self.inside.tasks c.args.self.now c.self.view_is c.args.task c.in-None.ensures.place m (Entering name lines store) does_so s)

pub returns-in-Some : goal.returns-in-Some
returns-in-Some c =
    on_ok_weaker c.close_text.result
    (λ changed m name lines store does_so s. idle_does c.self.inside.desk c.self.inside.packets c.self.inside.tasks c.args.self.now c.self.view_is
    c.args.task c.in-Some.place c.in-Some.ensures.place c.in-Some.ensures.within m (Entering name lines store) (Idle (with_named name (source_space lines) store)) does_so s c.close_text.new.self
    (λ owns o stand has is. changed (kinds_in c.self.inside.packets) owns o name lines store stand has is))
    c.close_text.ensures
