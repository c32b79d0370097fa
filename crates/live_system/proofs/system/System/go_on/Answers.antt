use Rattle.std.proofs.Common.{Option, refl, subst}
use Rattle.live_system.specs.Below.system_meaning.specs.Tasks.{Command}
use Rattle.live_system.specs.declared.runs.Went.TheVariants as went
use Rattle.live_packets.specs.Packets.{kinds_in}
use Rattle.live_system.specs.Steps.{WentOn}
use Rattle.live_system.proofs.Moments.{here, found}
use Rattle.live_system.proofs.Going.{idles, went_on}
use Rattle.live_system.proofs.system.System.go_on.Goals as goal

pub returns-in-None-clause-went : goal.returns-in-None-clause-went
returns-in-None-clause-went c = λ m s.
    let h = here c.self.inside.desk c.self.inside.packets c.self.inside.tasks c.args.self.now c.self.view_is m s in
    subst (λ (p : Option Command). WentOn p c.args.self.now c.args.task c.args.marks.now c.args.marks.now went.NotRunning m)
    (idles c.self.inside.desk c.self.inside.packets c.self.inside.tasks c.args.self.now c.self.view_is m h c.args.task c.in-None.ensures.place) (refl, s)

pub returns-in_ok-go_on-in-Some-clause-went : goal.returns-in_ok-go_on-in-Some-clause-went
returns-in_ok-go_on-in-Some-clause-went c = λ m s.
    let h = here c.self.inside.desk c.self.inside.packets c.self.inside.tasks c.args.self.now c.self.view_is m s in
    let o = found c.self.inside.desk c.self.inside.packets c.self.inside.tasks c.args.self.now c.self.view_is m h c.in-Some.place c.in-Some.ensures.within in
    went_on c.self.inside.desk c.self.inside.packets c.self.inside.tasks c.args.self.now c.self.view_is m h c.args.task c.in-Some.place c.in-Some.ensures.place c.go_on.new.self c.args.marks.now c.go_on.new.marks c.in_ok-go_on-in-Some.field-0
    c.as_went.result c.as_went.ensures o.0 o.1 (c.in_ok-go_on-in-Some.ensures.went (kinds_in c.self.inside.packets) h.owns o.0 h.stand o.1)
