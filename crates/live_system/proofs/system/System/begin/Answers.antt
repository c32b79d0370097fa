use Rattle.live_system.specs.Below.system_meaning.specs.Tasks.{Idle}
use Rattle.live_packets.specs.Packets.{kinds_in}
use Rattle.live_system.proofs.Moments.{here, found}
use Rattle.live_system.proofs.Beginning.{number, begins_with}
use Rattle.live_system.proofs.system.System.begin.Goals as goal

pub returns : goal.returns
returns c = λ m live free s.
    let h = here c.self.inside.desk c.self.inside.packets c.self.inside.tasks c.args.self.now c.self.view_is m s in
    let o = found c.self.inside.desk c.self.inside.packets c.self.inside.tasks c.args.self.now c.self.view_is m h c.in-Some.place c.in-Some.ensures.within in (
      number c.self.inside.desk c.self.inside.packets c.self.inside.tasks c.args.self.now c.self.view_is m h c.args.father c.in-Some.place c.in-Some.ensures.place o.0 o.1 c.args.name.now c.begin_task.new.desk c.in_ok-son.ensures.desk c.in_ok-son.son c.in_ok-son.ensures.number,
      begins_with c.self.inside.desk c.self.inside.packets c.self.inside.tasks c.args.self.now c.self.view_is m h c.args.father c.in-Some.place c.in-Some.ensures.place o.0 o.1 c.args.name.now c.begin_task.new.desk c.in_ok-son.ensures.desk (λ store. Idle store) c.begin_task.new.tasks
          (c.in_ok-son.ensures.tasks (kinds_in c.self.inside.packets) h.owns o.0 h.stand o.1),
    )
