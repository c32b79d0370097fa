use Rattle.std.proofs.Common.{arith}
use Rattle.live_system.specs.Below.system_meaning.specs.Tasks.{Idle}
use Rattle.live_packets.specs.Packets.{kinds_in}
use Rattle.live_system.proofs.Moments.{here, found, none_does}
use Rattle.live_system.proofs.Reading.{starts, refuses}
use Rattle.live_system.proofs.system.System.run_text.Goals as goal

pub returns-in_default : goal.returns-in_default
returns-in_default c = λ read reads m store does_so short s.
    absurd (none_does c.self.inside.desk c.self.inside.packets c.self.inside.tasks c.args.self.now c.self.view_is c.args.task c.in_default.ensures.place m (Idle store) does_so s)

pub returns-then-text : goal.returns-then-text
returns-then-text c = λ read reads m store does_so short s. absurd (omega (arith, short))

pub returns-in_ok-start_unit-in-Ok : goal.returns-in_ok-start_unit-in-Ok
returns-in_ok-start_unit-in-Ok c = λ read reads m store does_so short s.
    let h = here c.self.inside.desk c.self.inside.packets c.self.inside.tasks c.args.self.now c.self.view_is m s in
    let o = found c.self.inside.desk c.self.inside.packets c.self.inside.tasks c.args.self.now c.self.view_is m h c.in-Some.place c.in-Some.ensures.within in
    starts c.one_reading.ensures.one read reads c.self.inside.desk c.self.inside.packets c.self.inside.tasks c.args.self.now c.self.view_is m h c.args.task c.in-Some.place c.in-Some.ensures.place o.0 o.1 c.args.packet c.args.text.now
    c.packets-packets.result.now (c.packets-packets.ensures (kinds_in c.self.inside.packets) h.owns o.0 h.stand o.1) c.in-Ok.ensures.compiled
    c.in-Ok.unit c.in-Ok.ensures.unit store does_so c.start_unit.new.tasks c.in_ok-start_unit-in-Ok.ensures c.back.new.self c.back.ensures

pub returns-in_ok-said_of-in-Err : goal.returns-in_ok-said_of-in-Err
returns-in_ok-said_of-in-Err c = λ read reads m store does_so short s.
    let h = here c.self.inside.desk c.self.inside.packets c.self.inside.tasks c.args.self.now c.self.view_is m s in
    let o = found c.self.inside.desk c.self.inside.packets c.self.inside.tasks c.args.self.now c.self.view_is m h c.in-Some.place c.in-Some.ensures.within in
    refuses c.one_reading.ensures.one read reads c.self.inside.desk c.self.inside.packets c.self.inside.tasks c.args.self.now c.self.view_is m h c.args.task c.in-Some.place c.in-Some.ensures.place o.0 o.1 c.args.packet c.args.text.now
    c.packets-packets.result.now (c.packets-packets.ensures (kinds_in c.self.inside.packets) h.owns o.0 h.stand o.1) c.in-Err.ensures.compiled
    c.in-Err.cause c.in_ok-said_of-in-Err.field-0 c.in-Err.ensures.refused c.in_ok-said_of-in-Err.ensures c.args.self.now s
