use Rattle.std.proofs.Common.{Option, None, refl, subst}
use Rattle.live_system.specs.Below.system_meaning.specs.Tasks.{Command}
use Rattle.live_packets.specs.Packets.{kinds_in}
use Rattle.live_system.specs.Steps.{HaltedAs}
use Rattle.live_system.proofs.Moments.{here, found}
use Rattle.live_system.proofs.Going.{idles, halted}
use Rattle.live_system.proofs.system.System.halt.Goals as goal

pub returns-in-None : goal.returns-in-None
returns-in-None c = λ m s.
    subst (λ (p : Option Command). HaltedAs p c.args.self.now None c.args.task m)
    (idles c.self.inside.desk c.self.inside.packets c.self.inside.tasks c.args.self.now c.self.view_is m (here c.self.inside.desk c.self.inside.packets c.self.inside.tasks c.args.self.now c.self.view_is m s) c.args.task c.in-None.ensures.place) (refl, s)

pub returns-in-Some : goal.returns-in-Some
returns-in-Some c = λ m s.
    let h = here c.self.inside.desk c.self.inside.packets c.self.inside.tasks c.args.self.now c.self.view_is m s in
    let o = found c.self.inside.desk c.self.inside.packets c.self.inside.tasks c.args.self.now c.self.view_is m h c.in-Some.place c.in-Some.ensures.within in
    halted c.self.inside.desk c.self.inside.packets c.self.inside.tasks c.args.self.now c.self.view_is m h c.args.task c.in-Some.place c.in-Some.ensures.place c.halt.new.self c.halt.result c.as_finished.result c.as_finished.ensures o.0 o.1
    (c.halt.ensures.halted (kinds_in c.self.inside.packets) h.owns o.0 h.stand o.1)
