use Rattle.std.proofs.Common.{Option, None, Some, refl, sym, ap, ◌∙◌, subst}
use Rattle.task_numbers.specs.declared.number.TaskNo.{TaskNo}
use Rattle.live_system.specs.Below.units.specs.declared.unit.Compiled.{Compiled}
use Rattle.live_system.specs.Below.system_meaning.specs.Tasks.{Idle}
use Rattle.live_packets.specs.Packets.{kinds_in}
use Rattle.live_system.specs.Steps.{BeginsRunning}
use Rattle.live_system.proofs.Moments.{machine, here, found}
use Rattle.live_system.proofs.Living.{none_lives}
use Rattle.live_system.proofs.Beginning.{son_of, number, runs_with, unit_at}
use Rattle.live_system.proofs.system.System.begin_running.Goals as goal

pub returns-in_default : goal.returns-in_default
returns-in_default c = λ m live free s.
    absurd (none_lives c.self.inside.desk c.self.inside.packets c.self.inside.tasks c.args.self.now c.self.view_is c.args.task c.in_default.ensures.place m s live)

pub returns-in-None : goal.returns-in-None
returns-in-None c = λ m live free s.
    let h = here c.self.inside.desk c.self.inside.packets c.self.inside.tasks c.args.self.now c.self.view_is m s in
    let o = found c.self.inside.desk c.self.inside.packets c.self.inside.tasks c.args.self.now c.self.view_is m h c.in-Some.place c.in-Some.ensures.within in
    subst (λ (u : Option Compiled). BeginsRunning u c.args.self.now c.args.name.now c.args.task m None)
    (unit_at c.self.inside.desk c.self.inside.packets c.self.inside.tasks c.args.self.now c.self.view_is m h c.args.task c.in-Some.place c.in-Some.ensures.place o.0 o.1 c.packets-packets.result.now (c.packets-packets.ensures (kinds_in c.self.inside.packets) h.owns o.0 h.stand o.1) c.args.start None (sym c.in-None.is ∙ c.in_ok-starting_at.ensures))
    (refl, s)

pub returns-in_ok-start_unit-in-Some-2 : goal.returns-in_ok-start_unit-in-Some-2
returns-in_ok-start_unit-in-Some-2 c = λ m live free s.
    let h = here c.self.inside.desk c.self.inside.packets c.self.inside.tasks c.args.self.now c.self.view_is m s in
    let o = found c.self.inside.desk c.self.inside.packets c.self.inside.tasks c.args.self.now c.self.view_is m h c.in-Some.place c.in-Some.ensures.within in
    let of_is = c.packets-packets.ensures (kinds_in c.self.inside.packets) h.owns o.0 h.stand o.1 in
    subst (λ (u : Option Compiled). BeginsRunning u (machine c.back.new.self c.self.inside.packets c.start_unit.new.tasks) c.args.name.now c.args.task m (Some c.in-Ok.son))
    (unit_at c.self.inside.desk c.self.inside.packets c.self.inside.tasks c.args.self.now c.self.view_is m h c.args.task c.in-Some.place c.in-Some.ensures.place o.0 o.1 c.packets-packets.result.now of_is c.args.start (Some c.in-Some-2.unit) (sym c.in-Some-2.is ∙ c.in_ok-starting_at.ensures)) (
      ap (λ (n : TaskNo). Some n) (number c.self.inside.desk c.self.inside.packets c.self.inside.tasks c.args.self.now c.self.view_is m h c.args.task c.in-Some.place c.in-Some.ensures.place o.0 o.1 c.args.name.now c.begin_task-began.new.desk c.in-Ok.ensures.desk c.in-Ok.son c.in-Ok.ensures.number),
      runs_with c.self.inside.desk c.self.inside.packets c.self.inside.tasks c.args.self.now c.self.view_is m h c.args.task c.in-Some.place c.in-Some.ensures.place o.0 o.1 c.args.name.now c.begin_task-began.new.desk c.in-Ok.ensures.desk c.in-Some-2.unit c.begin_task-began.new.tasks c.start_unit.new.tasks
          (c.in-Ok.ensures.tasks (kinds_in c.self.inside.packets) h.owns o.0 h.stand o.1) c.in-Some-last_of.last
          (c.in-Some-last_of.ensures.last (kinds_in c.self.inside.packets) h.owns (son_of (λ store. Idle store) o.0) (c.in-Ok.ensures.tasks (kinds_in c.self.inside.packets) h.owns o.0 h.stand o.1))
          c.packets-packets.result.now of_is c.args.start (sym (sym c.in-Some-2.is ∙ c.in_ok-starting_at.ensures)) c.in_ok-start_unit-in-Some-2.ensures
          c.in-Ok.son c.in-Ok.ensures.number c.back.new.self c.back.ensures,
    )
